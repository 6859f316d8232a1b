use Rattle.std.proofs.Common.{arith, ◌≡◌, ◌==◌, sym, subst}
use Rattle.std.proofs.lemmas.Grind.{common_steps}
use Rattle.std.proofs.lemmas.Bool.Decides.{nat_tests}
use Rattle.rx_reader.specs.Input.{place, Reads}
use Rattle.rx_reader.specs.Escapes.{hex_digits, numbered}
use Rattle.rx_reader.proofs.escape.hex_digits.Goals as goal

pub returns-then-digits-count-clause-value : goal.returns-then-digits-count-clause-value
unfolding hex_digits
returns-then-digits-count-clause-value c from start = rw c.refuse_from.ensures (grind (arith, common_steps, nat_tests))

pub returns-clause-value : goal.returns-clause-value
unfolding hex_digits
returns-clause-value c from start =
    let p = place c.args.cursor.now in
    let q = place c.read_digits-digits.new.cursor in
    let same : hex_digits from c.args.count p ≡ numbered from (c.args.count == 2) c.read_digits-digits.result.value q =
    grind (arith, common_steps, nat_tests) in
    subst (λ reading. Reads c.numbered.result reading q) (sym same) (c.numbered.ensures from start)
