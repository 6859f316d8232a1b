use Rattle.std.proofs.Common.{◌≡◌, IfOk, ap, subst, ◌∙◌}
use Rattle.rx_class.specs.Ranges.{next_scalar, fewest}
use Rattle.rx_sets.proofs.MembersLemmas.{class-of}
use Rattle.rx_sets.proofs.members.class_of.Goals as goal

pub returns : goal.returns
returns c = λ p has.
    let e = ap (fewest next_scalar) (c.deref.ensures.value ∙ c.in_ok-scalars.ensures) ∙ class-of c.args.ranges.now p has in
    subst (λ xs. IfOk c.new.result (λ class. class ≡ xs)) e c.new.ensures
