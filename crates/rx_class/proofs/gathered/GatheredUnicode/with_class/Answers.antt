use Rattle.std.proofs.Common.{◌++◌, ◌∙◌, ap, sym}
use Rattle.rx_class.specs.Ranges.{next_scalar, fewest, union}
use Rattle.rx_class.proofs.EarlyLemmas.{fewest-front}
use Rattle.rx_class.proofs.gathered.GatheredUnicode.with_class.Goals as goal

pub returns-clause-value : goal.returns-clause-value
returns-clause-value c =
    c.in_ok-gathered.ensures ∙ ap (fewest next_scalar) (c.in_ok-extend_from_slice.ensures.items
    ∙ ap (λ ys. c.self.inside.ranges.items ++ ys) c.ranges-2.ensures.value)
    ∙ sym (fewest-front c.self.inside.ranges.items c.args.class.now c.self.invariant c.ranges-2.ensures.fewest.1)
    ∙ ap (λ xs. union next_scalar xs c.args.class.now) c.self.view_is

pub returns-clause-ends : goal.returns-clause-ends
returns-clause-ends c = c.ranges-2.ensures.fewest.1
