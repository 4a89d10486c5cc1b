pub mod Asked
pub mod Programs
