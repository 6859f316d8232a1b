pub mod Ranges
pub mod Merged
pub mod Outside
pub mod Scalars
pub mod Bytes
pub mod Folding
pub mod ClassViews
