use Rattle.std.proofs.Common.{◌≡◌, ◌<◌, length, map, sym, ◌∙◌, arith}
use Rattle.std.specs.Vec.{vec_items}
use Rattle.std.proofs.lemmas.Bool.Decides.{nat_tests}
use Rattle.rx_order.specs.Tests.{is_not_empty}
use Rattle.rx_order.proofs.lemmas.LoopLemmas.{all-no, all-yes}
use Rattle.rx_order.proofs.lemmas.MemberLemmas.{empty-test, some-test, some-literals, map-at}
use Rattle.rx_order.proofs.decision.are_literals.Goals as goal

pub returns-then-is_empty-2 : goal.returns-then-is_empty-2
returns-then-is_empty-2 c =
    let ls = map vec_items c.args.literals.now in
    let x = c.literal-item.result in
    let long = x.ok.0 in
    let none : length x.items ≡ 0 = grind (arith, nat_tests, long, c.is_empty-in-loop-literal.ensures, c.if-is_empty-2.true) in
    let at = map-at vec_items c.args.literals.now c.loop-literal.literal-index x c.loop-literal-test.true c.literal-item.is in
    let some : 0 < length ls = (let lt = at.0 in omega arith) in
    sym (some-literals ls some ∙ sym c.loop-literal.invariant ∙ all-no is_not_empty ls c.loop-literal.literal-index x.items at.0 at.1 (empty-test x.items none))

pub loop-literal-preserved : goal.loop-literal-preserved
loop-literal-preserved c =
    let ls = map vec_items c.args.literals.now in
    let x = c.literal-item.result in
    let long = x.ok.0 in
    let some : 0 < length x.items = grind (arith, nat_tests, long, c.is_empty-in-loop-literal.ensures, c.if-is_empty-2.false) in
    let at = map-at vec_items c.args.literals.now c.loop-literal.literal-index x c.loop-literal-test.true c.literal-item.is in
    sym (all-yes is_not_empty ls c.loop-literal.literal-index x.items at.0 at.1 (some-test x.items some)) ∙ c.loop-literal.invariant
