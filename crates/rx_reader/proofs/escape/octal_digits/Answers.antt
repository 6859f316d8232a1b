use Rattle.std.proofs.Common.{arith, ◌≡◌, false, sym, subst}
use Rattle.std.proofs.lemmas.Grind.{common_steps}
use Rattle.rx_reader.specs.Input.{place, Reads}
use Rattle.rx_reader.specs.Escapes.{octal_digits, numbered}
use Rattle.rx_reader.proofs.escape.octal_digits.Goals as goal

pub returns-clause-value : goal.returns-clause-value
unfolding octal_digits
returns-clause-value c from start =
    let q = place c.read_digits-digits.new.cursor in
    let same : octal_digits from (place c.args.cursor.now) ≡ numbered from false c.read_digits-digits.result.value q = grind (arith, common_steps) in
    subst (λ reading. Reads c.numbered.result reading q) (sym same) (c.numbered.ensures from start)
