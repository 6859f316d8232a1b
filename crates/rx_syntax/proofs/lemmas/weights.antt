pub mod WeighLemmas
pub mod WeightLemmas
