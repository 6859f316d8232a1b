use Rattle.std.proofs.Common.{Bool, List, ℕ, ◌≡◌, ◌≢◌, ◌<◌, ◌+◌, true, false, [], ◌++◌, length, drop, get_or, ap, subst, sym, ◌∙◌, arith, true≢false}
use Rattle.std.proofs.lemmas.List.{get_or_default}
use Rattle.rx_literal.specs.Literals.{Literal, exact}
use Rattle.rx_literal.specs.Slots.{AreApart}
use Rattle.rx_literal.specs.declared.order.Order.TheVariants.{Branches as by_branches}
use Rattle.rx_literal.specs.Order.{InOrder}
use Rattle.rx_literal.specs.Trim.{has_prefix_in, preferred, picked}
use Rattle.rx_literal.proofs.lemmas.trimming.PartedLemmas.{keep-end}
use Rattle.rx_literal.proofs.lemmas.trimming.PickedLemmas.{picked-none, mark-step, one-more}
use Rattle.rx_literal.proofs.lemmas.trimming.AloneLemmas.{alone-step, alone-before, before-added}
use Rattle.rx_literal.proofs.trim.marks.Goals as goal

pub loop-i-init : goal.loop-i-init
loop-i-init c =
    let ls = c.args.literals.now in
    record {
      so_far = (λ k. picked ls (c.in_ok-marks.ensures.items k) ++ preferred (c.new-least.ensures.items k) ls)
          ∙ ap (λ ys. ys ++ preferred [] ls) (picked-none ls);
      long = ap (λ (ms : List Bool). length ms) c.in_ok-marks.ensures.items;
      parted = subst (InOrder by_branches) (sym c.new-least.ensures.items) tt;
      before = λ x h. absurd (true≢false (sym h ∙ ap (λ es. has_prefix_in es x) c.new-least.ensures.items));
    }

pub loop-i-preserved-then-is_marked : goal.loop-i-preserved-then-is_marked
loop-i-preserved-then-is_marked c =
    let ls = c.args.literals.now in
    let i = c.loop-i.i in
    let es = c.loop-i.least.items in
    let bs = c.loop-i.marks.items in
    let invariant = c.loop-i.invariant in
    let lt : i < length ls = omega arith in
    let l = get_or ls i (exact []) in
    let at : l ≡ get_or ls i l = get_or_default ls i (exact []) l lt in
    let marked : get_or c.in_ok-alone.alone.items i false ≡ true =
    sym (c.is_marked.ensures ∙ ap (λ ms. get_or ms i false) c.deref.ensures.value) ∙ c.if-is_marked.true in
    let apart : (j : ℕ) (m : Literal) → j < length ls → i ≢ j → m ≡ get_or ls j m → AreApart l m =
    λ j m below differ there. c.in_ok-alone.ensures.apart i j l m lt below differ at there marked in
    record {
      so_far = subst (λ ms. picked ls ms ++ preferred es (drop (i + 1) ls) ≡ preferred [] ls) (sym c.in_ok-push.ensures.items)
          (alone-step es ls i l lt at invariant.before apart bs invariant.long (preferred [] ls) invariant.so_far);
      long = ap length c.in_ok-push.ensures.items ∙ one-more bs true i invariant.long;
      parted = invariant.parted;
      before = alone-before es ls i l lt at invariant.before apart;
    }

pub loop-i-preserved : goal.loop-i-preserved
loop-i-preserved c =
    let es = c.loop-i.least.items in
    let fs = c.is_new.new.least.items in
    let ls = c.args.literals.now in
    let i = c.loop-i.i in
    let bs = c.loop-i.marks.items in
    let b = c.in_ok-is_new.field-0 in
    let l = c.index-literals-i.result in
    let invariant = c.loop-i.invariant in
    let lt : i < length ls = omega arith in
    record {
      so_far = subst (λ ms. picked ls ms ++ preferred fs (drop (i + 1) ls) ≡ preferred [] ls) (sym c.in_ok-push-2.ensures.items)
          (mark-step es fs ls i l c.lent.result c.lent.ensures c.in_ok-is_new.ensures.covered lt
          c.index-literals-i.is bs b invariant.long c.in_ok-is_new.ensures.value (preferred [] ls) invariant.so_far);
      long = ap length c.in_ok-push-2.ensures.items ∙ one-more bs b i invariant.long;
      parted = c.in_ok-is_new.ensures.parted;
      before = before-added es ls i l lt c.index-literals-i.is invariant.before fs c.lent.result c.lent.ensures c.in_ok-is_new.ensures.covered;
    }

pub returns : goal.returns
returns c =
    let invariant = c.loop-i.invariant in
    record {
      picked = keep-end c.loop-i.least.items c.args.literals.now c.loop-i.i
          (picked c.args.literals.now c.loop-i.marks.items) (preferred [] c.args.literals.now) c.loop-i-test.false invariant.so_far;
      long = omega (arith, invariant.long, c.loop-i-test.false, c.loop-i.auto.i-end);
    }
