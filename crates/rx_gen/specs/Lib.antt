pub mod Generated
pub mod Numbers
pub mod Totals
