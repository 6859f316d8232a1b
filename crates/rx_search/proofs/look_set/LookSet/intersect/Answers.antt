use Rattle.std.proofs.Common.{◌&&◌, ap₂, ◌∙◌}
use Rattle.rx_search.specs.LookSet.{has}
use Rattle.rx_search.proofs.LookSetLemmas.{has-and}
use Rattle.rx_search.proofs.look_set.LookSet.intersect.Goals as goal

pub returns : goal.returns
returns c kind = has-and c.self.inside.bits c.other.inside.bits kind ∙ ap₂ (λ x y. has x kind && has y kind) c.self.view_is c.other.view_is
