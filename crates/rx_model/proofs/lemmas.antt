pub mod runs
pub mod graphs
pub mod meaning
pub mod matches
