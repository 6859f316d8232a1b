pub mod walks
pub mod answers
pub mod threads
pub mod candidates
pub mod backtracking
