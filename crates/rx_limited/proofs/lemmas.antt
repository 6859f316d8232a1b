pub mod RetryLemmas
pub mod CallLemmas
pub mod MetLemmas
pub mod BackLemmas
pub mod AheadLemmas
pub mod StopLemmas
pub mod TellLemmas
pub mod CountLemmas
