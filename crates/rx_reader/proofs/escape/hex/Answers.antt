use Rattle.std.proofs.Common.{arith, ◌≡◌, sym, subst}
use Rattle.std.proofs.lemmas.Grind.{common_steps}
use Rattle.rx_reader.specs.Input.{place, Reads}
use Rattle.rx_reader.specs.Escapes.{hex, hex_in_braces, hex_digits}
use Rattle.rx_reader.proofs.escape.hex.Goals as goal

pub returns-then-bump_over-clause-value : goal.returns-then-bump_over-clause-value
unfolding hex
returns-then-bump_over-clause-value c from start =
    let same : hex from c.args.count (place c.args.cursor.now) ≡ hex_in_braces from (place c.bump_over.new.self) = grind (arith, common_steps) in
    subst (λ reading. Reads c.hex_in_braces.result reading (place c.hex_in_braces.new.cursor)) (sym same) (c.hex_in_braces.ensures.value from start)

pub returns-clause-value : goal.returns-clause-value
unfolding hex
returns-clause-value c from start =
    let same : hex from c.args.count (place c.args.cursor.now) ≡ hex_digits from c.args.count (place c.bump_over.new.self) = grind (arith, common_steps) in
    subst (λ reading. Reads c.hex_digits.result reading (place c.hex_digits.new.cursor)) (sym same) (c.hex_digits.ensures.value from start)
