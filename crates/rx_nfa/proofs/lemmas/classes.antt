pub mod RowLemmas
pub mod RangesLemmas
pub mod BlockLemmas
pub mod ClassLemmas
pub mod ByteLemmas
pub mod Utf8Lemmas
pub mod ReadLemmas
pub mod ApartLemmas
