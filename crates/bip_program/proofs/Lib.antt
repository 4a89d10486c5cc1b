pub mod AskedLemmas
pub mod ProgramLemmas
