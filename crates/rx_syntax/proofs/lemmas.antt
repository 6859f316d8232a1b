pub mod translation
pub mod sets
pub mod groups
pub mod patterns
pub mod weights
