pub mod Views
pub mod DrawLemmas
pub mod SlotLemmas
pub mod LawLemmas
