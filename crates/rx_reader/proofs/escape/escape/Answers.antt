use Rattle.std.proofs.Common.{arith, ◌≡◌, sym, subst}
use Rattle.std.proofs.lemmas.Grind.{common_steps}
use Rattle.rx_reader.specs.Input.{place, Reads}
use Rattle.rx_reader.specs.Escapes.{escape, octal_digits, lettered}
use Rattle.rx_reader.proofs.escape.escape.Goals as goal

pub returns-then-is_at_end-clause-value : goal.returns-then-is_at_end-clause-value
unfolding escape
returns-then-is_at_end-clause-value c = rw c.refuse_from.ensures (grind (arith, common_steps))

pub returns-then-is_digit-clause-value : goal.returns-then-is_digit-clause-value
unfolding escape
returns-then-is_digit-clause-value c =
    let p = place c.args.cursor.now in
    let same : escape c.args.octal p ≡ octal_digits p (place c.bump.new.self) = grind (arith, common_steps) in
    subst (λ reading. Reads c.octal_digits.result reading (place c.octal_digits.new.cursor)) (sym same) (c.octal_digits.ensures.value p c.at-start.ensures)

pub returns-then-is_ascii_digit-clause-value : goal.returns-then-is_ascii_digit-clause-value
unfolding escape
returns-then-is_ascii_digit-clause-value c = rw c.refuse_from-then-is_ascii_digit.ensures (grind (arith, common_steps))

pub returns-clause-value : goal.returns-clause-value
unfolding escape
returns-clause-value c =
    let p = place c.args.cursor.now in
    let same : escape c.args.octal p ≡ lettered p (place c.bump.new.self) = grind (arith, common_steps) in
    subst (λ reading. Reads c.lettered.result reading (place c.lettered.new.cursor)) (sym same) (c.lettered.ensures.value p c.at-start.ensures)
