pub mod Draws
pub mod DrawSeats
pub mod Slots
pub mod SlotSeats
