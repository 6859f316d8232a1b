pub mod AnswerLemmas
pub mod CountedLemmas
pub mod EndLemmas
pub mod HaystackLemmas
pub mod LayoutLemmas
pub mod LineLemmas
pub mod OutcomeLemmas
pub mod PatternLemmas
pub mod NameLemmas
pub mod NewlineLemmas
pub mod ReadingLemmas
pub mod RunLemmas
pub mod SizeLemmas
pub mod TextLemmas
pub mod ThreadLemmas
mod Rows
