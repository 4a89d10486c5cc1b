pub mod BankLemmas
pub mod CentralLemmas
pub mod IdlenessLemmas
pub mod RepeatLemmas
pub mod StationLemmas
pub mod StepLemmas
pub mod UsedLemmas
