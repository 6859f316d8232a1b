pub mod BranchLemmas
pub mod EndLemmas
pub mod ItemLemmas
pub mod RepeatLemmas
pub mod StackLemmas
