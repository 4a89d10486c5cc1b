pub mod Closing
pub mod Knowledge
pub mod Laws
pub mod Reserving
pub mod Rows
pub mod Rule
pub mod Steps
pub mod Tables
