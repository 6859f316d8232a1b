pub mod LandLemmas
pub mod TreeLemmas
pub mod ForkLemmas
pub mod SharedLemmas
pub mod SharingLemmas
pub mod NamedLemmas
pub mod GrowLemmas
pub mod PlantLemmas
