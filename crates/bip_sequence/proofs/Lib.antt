pub mod FlightLemmas
pub mod MarkLemmas
pub mod NoteLemmas
pub mod RunLemmas
pub mod TextLemmas
