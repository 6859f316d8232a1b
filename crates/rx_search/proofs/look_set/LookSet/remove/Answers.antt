use Rattle.std.proofs.Common.{◌&&◌, not, ap, ◌∙◌}
use Rattle.rx_search.specs.Look.{kind_of, is_same_kind}
use Rattle.rx_search.specs.LookSet.{has}
use Rattle.rx_search.proofs.LookSetLemmas.{has-remove}
use Rattle.rx_search.proofs.look_set.LookSet.remove.Goals as goal

pub returns : goal.returns
returns c kind =
    has-remove c.self.inside.bits c.as_repr.result kind (kind_of c.args.look) c.as_repr.ensures
    ∙ ap (λ x. has x kind && not (is_same_kind kind (kind_of c.args.look))) c.self.view_is
