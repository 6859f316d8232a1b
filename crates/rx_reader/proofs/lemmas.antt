pub mod places
pub mod tokens
pub mod branches
pub mod patterns
pub mod printed
