pub mod OrderRows
pub mod StripRows
