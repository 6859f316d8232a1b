use Rattle.rx_dfa.specs.LazyCache.{IsCacheOf}
use Rattle.rx_engine_rows.proofs.caches.turns.Given as goal

abbrev pub invariant-turns : goal.invariant-turns
invariant-turns l = IsCacheOf l.lazy l.cache
