pub mod Literals
pub mod Whole
pub mod Found
pub mod Pre
