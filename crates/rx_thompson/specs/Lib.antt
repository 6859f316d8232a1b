pub mod Error
pub mod Build
