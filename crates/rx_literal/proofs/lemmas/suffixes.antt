pub mod EndLemmas
pub mod SuffixLemmas
pub mod BehindLemmas
