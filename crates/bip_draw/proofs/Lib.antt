pub mod ChartLemmas
pub mod ClauseLemmas
pub mod EdgeLemmas
pub mod EscapingLemmas
pub mod HueLemmas
pub mod LayoutLemmas
pub mod PartLemmas
