pub mod MachineLemmas
pub mod StackLemmas
pub mod TemplateLemmas
pub mod InterpolationLemmas
pub mod LockLemmas
