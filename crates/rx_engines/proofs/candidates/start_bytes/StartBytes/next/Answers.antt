use Rattle.std.proofs.Common.{◌≡◌, true, arith, refl, sym, nat_lt}
use Rattle.std.proofs.lemmas.Bool.Decides.{nat_tests}
use Rattle.rx_model.proofs.lemmas.runs.RunLemmas.{by_test}
use Rattle.rx_engines.proofs.candidates.start_bytes.StartBytes.next.Goals as goal

pub returns-then-self-text : goal.returns-then-self-text
returns-then-self-text c =
    let at = c.loop-at.at in
    let before : nat_lt at c.args.end ≡ true = grind (arith, nat_tests) in
    (omega arith, omega arith, λ j low high. c.loop-at.invariant j low (omega arith), rw before c.if-self-text.true)

pub loop-at-preserved : goal.loop-at-preserved
loop-at-preserved c =
    let at = c.loop-at.at in
    let before : nat_lt at c.args.end ≡ true = grind (arith, nat_tests) in
    λ j low high.
    by_test (nat_lt j at)
    (λ e. c.loop-at.invariant j low (grind (arith, nat_tests)))
    (λ e. let same : at ≡ j = grind (arith, nat_tests) in rw (sym same) (rw before c.if-self-text.false))

pub returns : goal.returns
returns c = λ j low high.
    by_test (nat_lt j c.args.end)
    (λ e. c.loop-at.invariant j low (grind (arith, nat_tests)))
    (λ e. rw e refl)
