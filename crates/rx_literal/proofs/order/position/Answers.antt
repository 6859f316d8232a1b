use Rattle.std.proofs.Common.{◌≡◌, suc, ◌+◌, ◌-◌, ◌/◌, ◌<◌, true, false, length, drop, arith, refl, ap, subst, sym, ◌∙◌}
use Rattle.std.specs.List.{list_all, list_any}
use Rattle.std.proofs.lemmas.List.{take_all}
use Rattle.rx_hir.proofs.JoinedLemmas.{drop-past}
use Rattle.rx_literal.specs.Order.{before, follows}
use Rattle.rx_literal.proofs.lemmas.trimming.OrderedLemmas.{all-up_to, none-on}
use Rattle.rx_literal.proofs.order.position.Goals as goal

pub loop-low-preserved-then-is_before : goal.loop-low-preserved-then-is_before
loop-low-preserved-then-is_before c =
    let order = c.args.order in
    let m = c.index-literals-middle.result in
    let middle = c.loop-low.low + (c.loop-low.high - c.loop-low.low) / 2 in
    let lt : c.loop-low.low + (c.loop-low.high - c.loop-low.low) / 2 < c.loop-low.high = omega (arith, c.loop-low-test.true) in
    let inside : c.loop-low.low + (c.loop-low.high - c.loop-low.low) / 2 < length c.args.literals.now = omega (arith, lt, c.loop-low.invariant.within) in
    let more : c.loop-low.low + (c.loop-low.high - c.loop-low.low) / 2 + 1 ≡ suc (c.loop-low.low + (c.loop-low.high - c.loop-low.low) / 2) = omega arith in
    let leads : follows order c.args.literal.now m ≡ true
    = (λ k. before order (sym c.as_bytes.ensures k) (sym c.as_bytes-in-loop-low.ensures k)) ∙ sym c.is_before.ensures ∙ c.if-is_before.true in
    record {
      bounds = omega (arith, lt);
      within = c.loop-low.invariant.within;
      before = rw more (all-up_to order c.args.literal.now c.args.literals.now middle m c.requires inside c.index-literals-middle.is leads);
      after = c.loop-low.invariant.after;
    }

pub loop-low-preserved : goal.loop-low-preserved
loop-low-preserved c =
    let order = c.args.order in
    let m = c.index-literals-middle.result in
    let middle = c.loop-low.low + (c.loop-low.high - c.loop-low.low) / 2 in
    let lt : c.loop-low.low + (c.loop-low.high - c.loop-low.low) / 2 < c.loop-low.high = omega (arith, c.loop-low-test.true) in
    let inside : c.loop-low.low + (c.loop-low.high - c.loop-low.low) / 2 < length c.args.literals.now = omega (arith, lt, c.loop-low.invariant.within) in
    let not : follows order c.args.literal.now m ≡ false
    = (λ k. before order (sym c.as_bytes.ensures k) (sym c.as_bytes-in-loop-low.ensures k)) ∙ sym c.is_before.ensures ∙ c.if-is_before.false in
    record {
      bounds = omega arith;
      within = omega (arith, inside);
      before = c.loop-low.invariant.before;
      after = none-on order c.args.literal.now c.args.literals.now middle m c.requires inside c.index-literals-middle.is not;
    }

pub returns-then-comes_last-clause-before : goal.returns-then-comes_last-clause-before
returns-then-comes_last-clause-before c =
    let ls = c.args.literals.now in
    ap (list_all (follows c.args.order c.args.literal.now)) (take_all (length ls) ls (omega arith)) ∙ c.comes_last.ensures c.if-comes_last.true

pub returns-then-comes_last-clause-after : goal.returns-then-comes_last-clause-after
returns-then-comes_last-clause-after c =
    let ls = c.args.literals.now in
    ap (list_any (follows c.args.order c.args.literal.now)) (drop-past ls (length ls) (omega arith))

pub loop-low-init : goal.loop-low-init
loop-low-init c =
    let ls = c.args.literals.now in
    record {
      bounds = omega arith;
      within = omega arith;
      before = refl;
      after = ap (list_any (follows c.args.order c.args.literal.now)) (drop-past ls (length ls) (omega arith));
    }

pub returns-clause-after : goal.returns-clause-after
returns-clause-after c =
    let same : c.loop-low.high ≡ c.loop-low.low = omega (arith, c.loop-low.invariant.bounds, c.loop-low-test.false) in
    subst (λ k. list_any (follows c.args.order c.args.literal.now) (drop k c.args.literals.now) ≡ false) same c.loop-low.invariant.after
