pub mod GeneratorLemmas
pub mod NumberLemmas
pub mod TotalsLemmas
mod Rows
