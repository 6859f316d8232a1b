use Rattle.std.proofs.Common.{◌≤◌, ◌<◌, [], ◌++◌, map, length, drop, ap, subst, sym, ◌∙◌, ◌+◌, arith}
use Rattle.std.proofs.lemmas.Result.{IfOk-from_err}
use Rattle.rx_literal.specs.Literals.{cut}
use Rattle.rx_literal.specs.declared.side.Side.TheVariants.{Front as front}
use Rattle.rx_literal.specs.declared.order.Order.TheVariants.{Branches as by_branches}
use Rattle.rx_literal.specs.Order.{InOrder}
use Rattle.rx_literal.specs.Trim.{preferred}
use Rattle.rx_literal.proofs.lemmas.trimming.PickedLemmas.{next-changed, too-many, none-left, not-few, are-few}
use Rattle.rx_literal.proofs.trim.few_short.Goals as goal

pub loop-literal-preserved : goal.loop-literal-preserved
loop-literal-preserved c =
    let ls = c.args.literals.now in
    let i = c.loop-literal.literal-index in
    let few : length c.add_short.new.kept.items ≤ 64 = omega (arith, c.add_short.new.kept.ok.0, c.len.ensures, c.if-len-gt-MOST.false) in
    record {
      so_far = c.in_ok-add_short.ensures.added (map (cut front 3) (drop (i + 1) ls))
          ∙ next-changed (cut front 3) c.loop-literal.least.items ls i c.literal-item.result c.loop-literal.kept.items (preferred [] (map (cut front 3) ls))
          c.loop-literal-test.true c.literal-item.is c.loop-literal.invariant.so_far;
      parted = c.in_ok-add_short.ensures.parted;
      few = few;
    }

pub returns-then-len-gt-MOST : goal.returns-then-len-gt-MOST
returns-then-len-gt-MOST c =
    let ls = c.args.literals.now in
    let i = c.loop-literal.literal-index in
    let all = preferred [] (map (cut front 3) ls) in
    let many : 64 < length c.add_short.new.kept.items = omega (arith, c.add_short.new.kept.ok.0, c.len.ensures, c.if-len-gt-MOST.true) in
    not-few 64 all (too-many 64 c.add_short.new.kept.items (preferred c.add_short.new.least.items (map (cut front 3) (drop (i + 1) ls))) all many
    (c.in_ok-add_short.ensures.added (map (cut front 3) (drop (i + 1) ls))
    ∙ next-changed (cut front 3) c.loop-literal.least.items ls i c.literal-item.result c.loop-literal.kept.items all
    c.loop-literal-test.true c.literal-item.is c.loop-literal.invariant.so_far))

pub returns : goal.returns
returns c =
    let ls = c.args.literals.now in
    let all = preferred [] (map (cut front 3) ls) in
    let kept = c.loop-literal.kept.items in
    let whole = none-left (cut front 3) c.loop-literal.least.items ls c.loop-literal.literal-index kept all c.loop-literal-test.false
    c.loop-literal.invariant.so_far in
    (c.in_ok-owned.ensures ∙ c.deref.ensures.value ∙ whole, are-few 64 kept all whole c.loop-literal.invariant.few)

pub returns-then-are_more_than : goal.returns-then-are_more_than
returns-then-are_more_than c = not-few 64 (preferred [] (map (cut front 3) c.args.literals.now)) (c.are_more_than.ensures c.if-are_more_than.true)

pub loop-literal-init : goal.loop-literal-init
loop-literal-init c =
    let ls = c.args.literals.now in
    let none = ap length c.new-kept.ensures.items in
    record {
      so_far = λ k. c.new-kept.ensures.items k ++ preferred (c.new-least.ensures.items k) (map (cut front 3) ls);
      parted = subst (InOrder by_branches) (sym c.new-least.ensures.items) tt;
      few = omega (arith, none);
    }

pub returns-in_err-add_short : goal.returns-in_err-add_short
returns-in_err-add_short c = IfOk-from_err c.from_residual.result _ c.from_residual.ensures.0

pub returns-in_err-owned : goal.returns-in_err-owned
returns-in_err-owned c = IfOk-from_err c.from_residual-in_err-owned.result _ c.from_residual-in_err-owned.ensures.0
