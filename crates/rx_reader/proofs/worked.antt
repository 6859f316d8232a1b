pub mod ClassRows
pub mod CountRows
pub mod EscapeRows
pub mod FlagRows
pub mod GrammarRows
pub mod GroupRows
pub mod OpeningRows
pub mod PlainRows
