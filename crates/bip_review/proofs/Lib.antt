pub mod DrawingLemmas
pub mod ReasonLemmas
pub mod StationLemmas
pub mod WritingLemmas
