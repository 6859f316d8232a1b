pub mod RangeLemmas
pub mod MergeLemmas
pub mod SuccessorLemmas
pub mod OutsideLemmas
pub mod ScalarLemmas
pub mod ByteLemmas
pub mod FoldLemmas
pub mod JoinedLemmas
pub mod EarlyLemmas
mod Rows
