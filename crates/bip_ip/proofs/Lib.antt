pub mod AskingLemmas
pub mod LawLemmas
pub mod NodeLemmas
pub mod OwnLemmas
pub mod RecordLemmas
pub mod SufficeLemmas
pub mod TellLemmas
