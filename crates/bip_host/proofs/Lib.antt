mod AddressedLemmas
pub mod BookLemmas
mod DrainLemmas
pub mod MailboxLemmas
pub mod MeaningLemmas
pub mod MergeLemmas
mod PlaceLemmas
mod NeighbourLemmas
pub mod ReportLemmas
mod SeatLemmas
mod StartingLemmas
mod WaitingLemmas
