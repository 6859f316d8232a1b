pub mod ExactLemmas
pub mod FirstLemmas
pub mod AgreeLemmas
pub mod TellLemmas
pub mod ExactRunLemmas
pub mod LookFreeLemmas
