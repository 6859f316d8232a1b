pub mod OptionLemmas
pub mod SlotLemmas
pub mod SpanLemmas
pub mod PatternLemmas
pub mod EngineLemmas
pub mod OverlapLemmas
