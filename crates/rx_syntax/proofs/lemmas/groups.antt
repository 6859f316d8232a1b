pub mod AtomGroups
pub mod GroupLemmas
pub mod PlainLemmas
pub mod ToldLemmas
