pub mod Answers
pub mod Lines
pub mod Messages
pub mod Reasons
pub mod Words
