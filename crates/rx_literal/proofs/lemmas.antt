pub mod prefixes
pub mod suffixes
pub mod trimming
pub mod first_runs
