use Rattle.std.proofs.Common.{arith, ◌≡◌, false, sym, subst}
use Rattle.std.proofs.lemmas.Grind.{common_steps}
use Rattle.std.proofs.lemmas.Bool.Decides.{nat_tests}
use Rattle.rx_reader.specs.Input.{place, Reads}
use Rattle.rx_reader.specs.Escapes.{hex_in_braces, numbered}
use Rattle.rx_reader.proofs.escape.hex_in_braces.Goals as goal

pub returns-then-digits-eq0-clause-value : goal.returns-then-digits-eq0-clause-value
unfolding hex_in_braces
returns-then-digits-eq0-clause-value c from start = rw c.refuse_from.ensures (grind (arith, common_steps, nat_tests))

pub returns-clause-value : goal.returns-clause-value
unfolding hex_in_braces
returns-clause-value c from start =
    let p = place c.args.cursor.now in
    let q = place c.bump.new.self in
    let same : hex_in_braces from p ≡ numbered from false c.read_digits-digits.result.value q = grind (arith, common_steps, nat_tests) in
    subst (λ reading. Reads c.numbered.result reading q) (sym same) (c.numbered.ensures from start)
