pub mod HeldLemmas
pub mod PartialLemmas
pub mod SetLemmas
pub mod ByteHeldLemmas
pub mod PartialByteLemmas
