pub mod PartLemmas
pub mod WalkLemmas
pub mod BackLemmas
pub mod DigitLemmas
pub mod ScalarLemmas
pub mod MeaningLemmas
pub mod ReverseLemmas
