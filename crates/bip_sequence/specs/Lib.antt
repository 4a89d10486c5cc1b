pub mod Deeds
pub mod Figures
pub mod Grids
pub mod Laws
pub mod Lifelines
pub mod Notes
pub mod Sequences
pub mod Styles
