pub mod lemmas
pub mod worked
