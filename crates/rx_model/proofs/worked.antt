pub mod RowWords
pub mod Rows
pub mod GroupRows
pub mod LengthRows
pub mod LookRows
pub mod LookSpanRows
pub mod OnwardRows
