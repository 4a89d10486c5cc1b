pub mod Asking
pub mod Laws
pub mod Nodes
pub mod Records
