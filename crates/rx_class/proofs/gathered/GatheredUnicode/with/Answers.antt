use Rattle.std.proofs.Common.{[], ◌∷◌, ◌∙◌, ap, sym, subst}
use Rattle.rx_class.specs.Ranges.{next_scalar, fewest, union, HaveScalarEnds}
use Rattle.rx_class.proofs.EarlyLemmas.{both-ends, fewest-front, one-has-ends}
use Rattle.rx_class.proofs.gathered.GatheredUnicode.with.Goals as goal

pub settled-requires : goal.settled-requires
settled-requires c =
    subst HaveScalarEnds (sym c.in_ok-push.ensures.items) (both-ends c.self.inside.ranges.items ((c.args.low, c.args.high) ∷ []) c.self.invariant
    (one-has-ends c.args.low c.args.high c.ranges.low.0 c.ranges.high.0))

pub returns-clause-value : goal.returns-clause-value
returns-clause-value c =
    c.in_ok-gathered.ensures ∙ ap (fewest next_scalar) c.in_ok-push.ensures.items
    ∙ sym (fewest-front c.self.inside.ranges.items ((c.args.low, c.args.high) ∷ []) c.self.invariant
    (one-has-ends c.args.low c.args.high c.ranges.low.0 c.ranges.high.0))
    ∙ ap (λ xs. union next_scalar xs ((c.args.low, c.args.high) ∷ [])) c.self.view_is

pub returns-clause-ends : goal.returns-clause-ends
returns-clause-ends c = one-has-ends c.args.low c.args.high c.ranges.low.0 c.ranges.high.0
