pub mod NeedleLemmas
pub mod StepLemmas
pub mod FailLemmas
pub mod StartLemmas
pub mod EndLemmas
pub mod SuffixLemmas
pub mod InnerLemmas
pub mod CountLemmas
