pub mod Faults
pub mod Laws
pub mod Plans
pub mod Reasons
pub mod Tables
