pub mod Key
pub mod Span
pub mod Permitted
pub mod Told
pub mod Sight
