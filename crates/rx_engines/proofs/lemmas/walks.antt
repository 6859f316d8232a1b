pub mod WalkLemmas
pub mod LineLemmas
pub mod CloseLemmas
pub mod YieldLemmas
