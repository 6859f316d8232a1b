pub mod CharacterLemmas
pub mod CountedLemmas
pub mod GroupLemmas
pub mod OrderLemmas
pub mod PlainLemmas
pub mod RepetitionLemmas
pub mod WholeLemmas
