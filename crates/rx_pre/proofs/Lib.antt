pub mod NeedleLemmas
pub mod NextLemmas
pub mod WholeLemmas
pub mod WriteLemmas
pub mod FoundLemmas
pub mod AnswerLemmas
