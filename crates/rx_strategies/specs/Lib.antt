pub mod Choice
pub mod Attempts
pub mod Strategy
pub mod Cache
pub mod Attempting
