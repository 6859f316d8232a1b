-- A state of a cache that is not dead stands for one key.
use Rattle.std.proofs.Common.{◌≡◌, ◌≢◌, ℕ, ◌<◌, List, sym, ◌∙◌}
use Rattle.rx_model.proofs.lemmas.runs.FirstLemmas.{some-is}
use Rattle.rx_determinize.specs.Key.{Key}
use Rattle.rx_dfa.specs.Lazy.{StandsFor, dead_state}
use Rattle.rx_dfa.proofs.lemmas.HeldLemmas.{held-row}

pub held-same : (stride : ℕ) → 0 < stride → (keys : List Key) (state : ℕ) (k other : Key) → StandsFor stride keys state k → StandsFor stride keys state other
    → state ≢ dead_state → k ≡ other
held-same stride some keys state k other h g apart =
    some-is (sym (held-row stride keys state k h apart).0 ∙ (held-row stride keys state other g apart).0)
