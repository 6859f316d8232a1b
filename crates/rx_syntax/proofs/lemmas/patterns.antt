pub mod PatternsLemmas
pub mod RefusalLemmas
