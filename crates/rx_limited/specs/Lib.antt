pub mod Calls
pub mod Parts
pub mod Retry
pub mod Limited
pub mod Back
pub mod Stopat
