use Rattle.std.proofs.Common.{arith, ap, sym, ◌∙◌}
use Rattle.std.specs.Prelude.{nat_eq}
use Rattle.std.specs.List.{list_any}
use Rattle.rx_hir.specs.HirViews.{kind_view}
use Rattle.rx_hir.specs.Normal.{expressions}
use Rattle.rx_hir.proofs.DepthLemmas.{depth-below}
use Rattle.rx_order.specs.Tests.{can_consume, one_can_consume}
use Rattle.rx_order.proofs.lemmas.PartLoopLemmas.{one-yes, one-no, one-past}
use Rattle.rx_order.proofs.consumed.+consume.Goals as goal

pub one_can_consume-can_consume-requires : goal.one_can_consume-can_consume-requires
one_can_consume-can_consume-requires t c =
    let below = depth-below c.args.subs.now c.loop-sub.sub-index c.sub-item.result c.loop-sub-test.true c.sub-item.is in
    (omega arith, tt)

pub one_can_consume-returns-then-can_consume : goal.one_can_consume-returns-then-can_consume
one_can_consume-returns-then-can_consume t c =
    let e = one-yes c.args.subs.now c.loop-sub.sub-index c.args.byte c.sub-item.result c.loop-sub-test.true c.sub-item.is
    (sym c.can_consume.ensures ∙ c.if-can_consume.true) in
    sym e ∙ c.loop-sub.invariant

pub one_can_consume-loop-sub-preserved : goal.one_can_consume-loop-sub-preserved
one_can_consume-loop-sub-preserved t c =
    let e = one-no c.args.subs.now c.loop-sub.sub-index c.args.byte c.sub-item.result c.loop-sub-test.true c.sub-item.is
    (sym c.can_consume.ensures ∙ c.if-can_consume.false) in
    sym e ∙ c.loop-sub.invariant

pub one_can_consume-returns : goal.one_can_consume-returns
one_can_consume-returns t c = sym (one-past c.args.subs.now c.loop-sub.sub-index c.args.byte c.loop-sub-test.false) ∙ c.loop-sub.invariant

pub kind_can_consume-returns-in-Empty : goal.kind_can_consume-returns-in-Empty
unfolding can_consume
kind_can_consume-returns-in-Empty t c = sym (ap (λ k. can_consume c.args.byte (kind_view k)) c.in-Empty.is)

pub kind_can_consume-returns-in-Literal : goal.kind_can_consume-returns-in-Literal
unfolding can_consume
kind_can_consume-returns-in-Literal t c =
    c.has_byte.ensures ∙ ap (list_any (nat_eq c.args.byte)) c.deref.ensures.value ∙ sym (ap (λ k. can_consume c.args.byte (kind_view k)) c.in-Literal.is)

pub kind_can_consume-returns-in-Class : goal.kind_can_consume-returns-in-Class
unfolding can_consume
kind_can_consume-returns-in-Class t c = c.class_has_byte.ensures ∙ sym (ap (λ k. can_consume c.args.byte (kind_view k)) c.in-Class.is)

pub kind_can_consume-returns-in-Look : goal.kind_can_consume-returns-in-Look
unfolding can_consume
kind_can_consume-returns-in-Look t c = sym (ap (λ k. can_consume c.args.byte (kind_view k)) c.in-Look.is)

pub kind_can_consume-returns-in-Repetition : goal.kind_can_consume-returns-in-Repetition
unfolding can_consume
kind_can_consume-returns-in-Repetition t c =
    c.can_consume.ensures ∙ ap (can_consume c.args.byte) c.deref-in-Repetition.ensures
    ∙ sym (ap (λ k. can_consume c.args.byte (kind_view k)) c.in-Repetition.is)

pub kind_can_consume-returns-in-Capture : goal.kind_can_consume-returns-in-Capture
unfolding can_consume
kind_can_consume-returns-in-Capture t c =
    c.can_consume-in-Capture.ensures ∙ ap (can_consume c.args.byte) c.deref-in-Capture.ensures
    ∙ sym (ap (λ k. can_consume c.args.byte (kind_view k)) c.in-Capture.is)

pub kind_can_consume-returns-in-Concat : goal.kind_can_consume-returns-in-Concat
unfolding can_consume
kind_can_consume-returns-in-Concat t c =
    c.one_can_consume.ensures ∙ ap (λ ys. one_can_consume c.args.byte (expressions ys)) c.deref-in-Concat.ensures.value
    ∙ sym (ap (λ k. can_consume c.args.byte (kind_view k)) c.in-Concat.is)

pub kind_can_consume-returns-in-Alternation : goal.kind_can_consume-returns-in-Alternation
unfolding can_consume
kind_can_consume-returns-in-Alternation t c =
    c.one_can_consume-in-Alternation.ensures ∙ ap (λ ys. one_can_consume c.args.byte (expressions ys)) c.deref-in-Alternation.ensures.value
    ∙ sym (ap (λ k. can_consume c.args.byte (kind_view k)) c.in-Alternation.is)
