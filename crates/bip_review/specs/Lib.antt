pub mod Drawing
pub mod Reasons
pub mod Writing
