pub mod parts
pub mod classes
pub mod runs
pub mod lists
pub mod reverse
pub mod prefixes
