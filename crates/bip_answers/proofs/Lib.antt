pub mod AnswerLemmas
pub mod ChartLemmas
pub mod OneAnswerLemmas
pub mod OneCheckLemmas
pub mod RenderingLemmas
pub mod SelectedLemmas
pub mod ViewLemmas
