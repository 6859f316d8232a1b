pub mod Dfa
pub mod Error
pub mod Patterns
pub mod Search
pub mod Walked
