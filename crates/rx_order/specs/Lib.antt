pub mod Order
pub mod Tests
pub mod Strip
pub mod Left
pub mod Places
pub mod Inner
pub mod Alternation
