pub mod AheadLemmas
pub mod CharsLemmas
pub mod FrontLemmas
pub mod GivesLemmas
pub mod PlaceLemmas
pub mod ReadsLemmas
