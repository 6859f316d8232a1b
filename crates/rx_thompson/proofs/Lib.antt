pub mod ReadingLemmas
pub mod BuildLemmas
pub mod LimitsLemmas
