pub mod Faults
pub mod Grammar
pub mod Laws
pub mod LineFaults
pub mod Reading
pub mod Statements
pub mod Texts
pub mod Writing
