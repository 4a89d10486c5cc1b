pub mod Entries
pub mod Faults
pub mod Fields
pub mod Frames
pub mod Laws
pub mod Lent
pub mod Reading
pub mod Views
