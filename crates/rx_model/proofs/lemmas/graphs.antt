pub mod SieveLemmas
pub mod PlacedLemmas
pub mod StateLemmas
pub mod RefineLemmas
pub mod GraphLemmas
pub mod SievedLemmas
pub mod LocalLemmas
pub mod RankLemmas
