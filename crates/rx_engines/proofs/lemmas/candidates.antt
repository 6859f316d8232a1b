pub mod NeedleLemmas
pub mod CandidateLemmas
pub mod StartBytesLemmas
