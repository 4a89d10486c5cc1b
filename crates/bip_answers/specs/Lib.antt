pub mod Answers
pub mod Charted
pub mod Ended
pub mod Renderings
pub mod Selected
pub mod Views
pub mod Wording
