pub mod BitLemmas
pub mod SearchingLemmas
pub mod FrameLemmas
pub mod AttemptLemmas
pub mod BoundedLemmas
pub mod StackLemmas
