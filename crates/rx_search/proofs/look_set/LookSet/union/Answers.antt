use Rattle.std.proofs.Common.{◌||◌, ap₂, ◌∙◌}
use Rattle.std.proofs.lemmas.Nat.{or_lt}
use Rattle.rx_search.specs.LookSet.{has}
use Rattle.rx_search.proofs.LookSetLemmas.{has-or}
use Rattle.rx_search.proofs.look_set.LookSet.union.Goals as goal

pub invariant_of-result : goal.invariant_of-result
invariant_of-result c = or_lt 18 c.self.inside.bits c.other.inside.bits c.self.invariant c.other.invariant

pub returns : goal.returns
returns c kind = has-or c.self.inside.bits c.other.inside.bits kind ∙ ap₂ (λ x y. has x kind || has y kind) c.self.view_is c.other.view_is
