use Rattle.std.proofs.Common.{◌≤◌, arith}
use Rattle.std.specs.Prelude.{nat_lt}
use Rattle.std.proofs.lemmas.Bool.Decides.{nat_tests}
use Rattle.rx_model.proofs.lemmas.runs.RunLemmas.{by_test}
use Rattle.rx_engines.proofs.lemmas.backtracking.BitLemmas.{words_used-none}
use Rattle.rx_engines.proofs.backtrack.visited.Visited.clear.Goals as goal

pub returns-clause-none : goal.returns-clause-none
returns-clause-none c =
    let over = c.loop-k-test.false in
    words_used-none c.loop-k.self-inside.words.items
    (λ j.
    by_test (nat_lt j c.loop-k.k)
    (λ e. c.loop-k.invariant.zero_below j (grind (arith, nat_tests)))
    (λ e. let late : c.loop-k.k ≤ j = grind (arith, nat_tests) in c.loop-k.invariant.zero_above j (omega arith)))
