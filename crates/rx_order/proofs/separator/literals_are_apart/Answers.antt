use Rattle.std.proofs.Common.{◌≡◌, map, true, false, ap, sym, ◌∙◌}
use Rattle.std.specs.Vec.{vec_items}
use Rattle.rx_class.specs.ClassViews.{class_view}
use Rattle.rx_order.specs.Tests.{literal_is_apart}
use Rattle.rx_order.proofs.lemmas.LoopLemmas.{all-no, all-yes}
use Rattle.rx_order.proofs.lemmas.MemberLemmas.{map-at}
use Rattle.rx_order.proofs.separator.literals_are_apart.Goals as goal

pub returns-then-not-literal_is_apart : goal.returns-then-not-literal_is_apart
returns-then-not-literal_is_apart c =
    let k = class_view c.args.class.now in
    let x = c.literal-item.result in
    let at = map-at vec_items c.args.literals.now c.loop-literal.literal-index x c.loop-literal-test.true c.literal-item.is in
    let out : literal_is_apart k x.items ≡ false =
    ap (literal_is_apart k) (sym c.deref.ensures.value) ∙ sym c.literal_is_apart.ensures ∙ c.if-not-literal_is_apart.true in
    sym (all-no (literal_is_apart k) (map vec_items c.args.literals.now) c.loop-literal.literal-index x.items at.0 at.1 out)
    ∙ c.loop-literal.invariant

pub loop-literal-preserved : goal.loop-literal-preserved
loop-literal-preserved c =
    let k = class_view c.args.class.now in
    let x = c.literal-item.result in
    let at = map-at vec_items c.args.literals.now c.loop-literal.literal-index x c.loop-literal-test.true c.literal-item.is in
    let out : literal_is_apart k x.items ≡ true =
    ap (literal_is_apart k) (sym c.deref.ensures.value) ∙ sym c.literal_is_apart.ensures ∙ c.if-not-literal_is_apart.false in
    sym (all-yes (literal_is_apart k) (map vec_items c.args.literals.now) c.loop-literal.literal-index x.items at.0 at.1 out)
    ∙ c.loop-literal.invariant
