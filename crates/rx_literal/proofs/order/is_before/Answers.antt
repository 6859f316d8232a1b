use Rattle.std.proofs.Common.{◌≤◌, ◌⊎◌, length, refl, sym, ◌∙◌, inl, inr, arith}
use Rattle.rx_literal.proofs.lemmas.trimming.BeforeLemmas.{before-over, before-differ, before-on}
use Rattle.rx_literal.proofs.order.is_before.Goals as goal
use Rattle.rx_literal.proofs.order.is_before.Goals.{then-loop-i-test+else-i-second, else-loop-i-test}

pub returns : goal.returns
returns c =
    let at = c.loop-i.invariant in
    let over : (length c.args.first.now ≤ c.loop-i.i) ⊎ (length c.args.second.now ≤ c.loop-i.i)
    = elim c.loop-i-test.branch [ then-loop-i-test+else-i-second w ↦ inr w.if-i-second.false | else-loop-i-test w ↦ inl w.loop-i-test.false ] in
    c.is_prefix_before.ensures ∙ sym (before-over c.args.order c.args.first.now c.args.second.now c.loop-i.i at.within at.inside over) ∙ at.so_far

pub loop-i-init : goal.loop-i-init
loop-i-init c = record { so_far = refl; within = omega arith; inside = omega arith }

pub returns-then-first-i : goal.returns-then-first-i
returns-then-first-i c =
    sym (before-differ c.args.order c.args.first.now c.args.second.now c.loop-i.i c.loop-i-test.true c.if-i-second.true c.if-first-i.true)
    ∙ c.loop-i.invariant.so_far

pub loop-i-preserved : goal.loop-i-preserved
loop-i-preserved c = record {
  so_far = sym (before-on c.args.order c.args.first.now c.args.second.now c.loop-i.i c.loop-i-test.true c.if-i-second.true c.if-first-i.false)
      ∙ c.loop-i.invariant.so_far;
  within = omega (arith, c.loop-i-test.true);
  inside = omega (arith, c.if-i-second.true);
}
