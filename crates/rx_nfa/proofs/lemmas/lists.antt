pub mod PlaceLemmas
pub mod ListLemmas
pub mod ClosureLemmas
pub mod TargetLemmas
pub mod StageLemmas
pub mod LaterLemmas
pub mod WalkLemmas
