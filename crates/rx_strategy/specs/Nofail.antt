-- The engines that always answer.
use Rattle.std.specs.Prelude.{◌≡◌, true, false}
use Rattle.rx_search.specs.Input.{InputValue}
use Rattle.rx_strategy.specs.Core.{CoreValue, pikevm_of, backtracker_of, backtracker_serves}
use Rattle.rx_strategy.specs.declared.strategy.engines.nofail.Nofail.{Nofail}
use Rattle.rx_strategy.specs.declared.strategy.engines.nofail.Nofail.TheVariants.{Backtrack, PikeVM}

-- this engine of the core is asked to search the input: the backtracker exactly where it serves
abbrev pub IsAskedFor : CoreValue → InputValue → Nofail → Type 0
IsAskedFor c v (Backtrack engine) = (backtracker_serves c v ≡ true) × (engine.now ≡ backtracker_of c)
IsAskedFor c v (PikeVM engine) = (backtracker_serves c v ≡ false) × (engine.now ≡ pikevm_of c)
