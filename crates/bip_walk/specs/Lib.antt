pub mod Chance
pub mod Choices
pub mod Surveys
pub mod Tallies
pub mod Walking
