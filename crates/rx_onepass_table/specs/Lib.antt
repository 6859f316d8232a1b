pub mod Words
pub mod Entry
pub mod Rows
pub mod Along
pub mod Search
