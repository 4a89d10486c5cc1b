pub mod Exchanges
pub mod Idleness
pub mod Kept
pub mod Laws
pub mod Machines
pub mod Opening
pub mod Sides
pub mod Stations
