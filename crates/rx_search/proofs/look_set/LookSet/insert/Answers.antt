use Rattle.std.proofs.Common.{◌||◌, ap, ◌∙◌, subst, sym, ◌<◌}
use Rattle.std.proofs.lemmas.Nat.{or_lt}
use Rattle.rx_search.specs.Look.{kind_of, is_same_kind}
use Rattle.rx_search.specs.LookSet.{has}
use Rattle.rx_search.proofs.LookSetLemmas.{has-insert, bit-below}
use Rattle.rx_search.proofs.look_set.LookSet.insert.Goals as goal

pub invariant_of-result : goal.invariant_of-result
invariant_of-result c =
    or_lt 18 c.self.inside.bits c.as_repr.result c.self.invariant (subst (λ n. n < 262144) (sym c.as_repr.ensures) (bit-below (kind_of c.args.look)))

pub returns : goal.returns
returns c kind =
    has-insert c.self.inside.bits c.as_repr.result kind (kind_of c.args.look) c.as_repr.ensures
    ∙ ap (λ x. has x kind || is_same_kind kind (kind_of c.args.look)) c.self.view_is
