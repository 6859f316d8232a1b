pub mod AtomTexts
pub mod ClassTexts
pub mod CountTexts
pub mod OpeningTexts
pub mod PrintedLemmas
pub mod TextLemmas
