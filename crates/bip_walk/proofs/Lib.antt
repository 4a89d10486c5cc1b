pub mod ChoiceLemmas
pub mod RenewLemmas
pub mod SeedLemmas
pub mod SurveyLemmas
pub mod TallyLemmas
pub mod WalkingLemmas
