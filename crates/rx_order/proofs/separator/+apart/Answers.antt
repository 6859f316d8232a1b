use Rattle.std.proofs.Common.{arith, ap, sym, ◌∙◌}
use Rattle.rx_class.specs.ClassViews.{class_view}
use Rattle.rx_hir.specs.HirViews.{kind_view}
use Rattle.rx_hir.specs.Normal.{expressions}
use Rattle.rx_hir.proofs.DepthLemmas.{depth-below}
use Rattle.rx_order.specs.Tests.{literal_is_apart, is_apart, all_apart}
use Rattle.rx_order.proofs.lemmas.PartLoopLemmas.{apart-yes, apart-no, apart-past}
use Rattle.rx_order.proofs.separator.+apart.Goals as goal

pub all_apart-is_apart-requires : goal.all_apart-is_apart-requires
all_apart-is_apart-requires t c =
    let below = depth-below c.args.subs.now c.loop-sub.sub-index c.sub-item.result c.loop-sub-test.true c.sub-item.is in
    (omega arith, tt)

pub all_apart-returns-then-not-is_apart : goal.all_apart-returns-then-not-is_apart
all_apart-returns-then-not-is_apart t c =
    let e = apart-no c.args.subs.now c.loop-sub.sub-index (class_view c.args.class.now) c.sub-item.result c.loop-sub-test.true c.sub-item.is
    (sym c.is_apart.ensures ∙ c.if-not-is_apart.true) in
    sym e ∙ c.loop-sub.invariant

pub all_apart-loop-sub-preserved : goal.all_apart-loop-sub-preserved
all_apart-loop-sub-preserved t c =
    let e = apart-yes c.args.subs.now c.loop-sub.sub-index (class_view c.args.class.now) c.sub-item.result c.loop-sub-test.true c.sub-item.is
    (sym c.is_apart.ensures ∙ c.if-not-is_apart.false) in
    sym e ∙ c.loop-sub.invariant

pub all_apart-returns : goal.all_apart-returns
all_apart-returns t c = sym (apart-past c.args.subs.now c.loop-sub.sub-index (class_view c.args.class.now) c.loop-sub-test.false) ∙ c.loop-sub.invariant

pub kind_is_apart-returns-in-Empty : goal.kind_is_apart-returns-in-Empty
unfolding is_apart
kind_is_apart-returns-in-Empty t c = sym (ap (λ k. is_apart (class_view c.args.class.now) (kind_view k)) c.in-Empty.is)

pub kind_is_apart-returns-in-Literal : goal.kind_is_apart-returns-in-Literal
unfolding is_apart
kind_is_apart-returns-in-Literal t c = c.literal_is_apart.ensures ∙ ap (literal_is_apart (class_view c.args.class.now)) c.deref.ensures.value
    ∙ sym (ap (λ k. is_apart (class_view c.args.class.now) (kind_view k)) c.in-Literal.is)

pub kind_is_apart-returns-in-Class : goal.kind_is_apart-returns-in-Class
unfolding is_apart
kind_is_apart-returns-in-Class t c = c.are_apart.ensures ∙ sym (ap (λ k. is_apart (class_view c.args.class.now) (kind_view k)) c.in-Class.is)

pub kind_is_apart-returns-in-Look : goal.kind_is_apart-returns-in-Look
unfolding is_apart
kind_is_apart-returns-in-Look t c = sym (ap (λ k. is_apart (class_view c.args.class.now) (kind_view k)) c.in-Look.is)

pub kind_is_apart-returns-in-Repetition : goal.kind_is_apart-returns-in-Repetition
unfolding is_apart
kind_is_apart-returns-in-Repetition t c = c.is_apart.ensures ∙ ap (is_apart (class_view c.args.class.now)) c.deref-in-Repetition.ensures
    ∙ sym (ap (λ k. is_apart (class_view c.args.class.now) (kind_view k)) c.in-Repetition.is)

pub kind_is_apart-returns-in-Capture : goal.kind_is_apart-returns-in-Capture
unfolding is_apart
kind_is_apart-returns-in-Capture t c = c.is_apart-in-Capture.ensures ∙ ap (is_apart (class_view c.args.class.now)) c.deref-in-Capture.ensures
    ∙ sym (ap (λ k. is_apart (class_view c.args.class.now) (kind_view k)) c.in-Capture.is)

pub kind_is_apart-returns-in-Concat : goal.kind_is_apart-returns-in-Concat
unfolding is_apart
kind_is_apart-returns-in-Concat t c = c.all_apart.ensures ∙ ap (λ ys. all_apart (class_view c.args.class.now) (expressions ys)) c.deref-in-Concat.ensures.value
    ∙ sym (ap (λ k. is_apart (class_view c.args.class.now) (kind_view k)) c.in-Concat.is)

pub kind_is_apart-returns-in-Alternation : goal.kind_is_apart-returns-in-Alternation
unfolding is_apart
kind_is_apart-returns-in-Alternation t c = c.all_apart-in-Alternation.ensures
    ∙ ap (λ ys. all_apart (class_view c.args.class.now) (expressions ys)) c.deref-in-Alternation.ensures.value
    ∙ sym (ap (λ k. is_apart (class_view c.args.class.now) (kind_view k)) c.in-Alternation.is)
