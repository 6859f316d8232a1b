pub mod SlotLemmas
pub mod MatchLemmas
pub mod WithinLemmas
pub mod NarrowLemmas
pub mod SkipLemmas
pub mod BetweenLemmas
pub mod SuccessionLemmas
