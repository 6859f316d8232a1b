-- Which prefilter a regex has, and what is accounted for it.
pub use Rattle.rx_strategy.specs.Prefilter.{automatic_prefilter, prefilter_for, prefilter_memory}
