use Rattle.std.proofs.Common.{arith, ◌≡◌, not, sym, subst}
use Rattle.std.proofs.lemmas.Grind.{common_steps}
use Rattle.rx_reader.specs.Input.{place, Reads}
use Rattle.rx_reader.specs.Escapes.{property, property_in_braces}
use Rattle.rx_reader.proofs.escape.property.Goals as goal

pub returns-then-is_at_end-clause-value : goal.returns-then-is_at_end-clause-value
unfolding property
returns-then-is_at_end-clause-value c from start = rw c.refuse_from.ensures (grind (arith, common_steps))

pub returns-then-not-bump_over-clause-value : goal.returns-then-not-bump_over-clause-value
unfolding property
returns-then-not-bump_over-clause-value c from start = grind (arith, common_steps)

pub returns-then-bump_over-clause-value : goal.returns-then-bump_over-clause-value
unfolding property
returns-then-bump_over-clause-value c from start =
    let same : property from c.args.negated (place c.args.cursor.now) ≡ property_in_braces from (not c.args.negated) (place c.bump_over-2.new.self) =
    grind (arith, common_steps) in
    subst (λ reading. Reads c.property_in_braces.result reading (place c.property_in_braces.new.cursor)) (sym same)
    (c.property_in_braces.ensures.value from start)

pub returns-clause-value : goal.returns-clause-value
unfolding property
returns-clause-value c from start =
    let same : property from c.args.negated (place c.args.cursor.now) ≡ property_in_braces from c.args.negated (place c.bump_over-2.new.self) =
    grind (arith, common_steps) in
    subst (λ reading. Reads c.property_in_braces-2.result reading (place c.property_in_braces-2.new.cursor)) (sym same)
    (c.property_in_braces-2.ensures.value from start)
