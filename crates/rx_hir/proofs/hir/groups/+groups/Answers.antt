use Rattle.std.proofs.Common.{arith, ap, sym, ◌∙◌}
use Rattle.std.specs.Prelude.{max}
use Rattle.rx_model.specs.Search.{greatest_group, greatest_in}
use Rattle.rx_hir.specs.HirViews.{kind_view}
use Rattle.rx_hir.specs.Normal.{expressions}
use Rattle.rx_hir.proofs.DepthLemmas.{depth-below}
use Rattle.rx_hir.proofs.GroupLemmas.{greatest_in-drop, greatest_in-past}
use Rattle.rx_hir.proofs.hir.groups.+groups.Goals as goal

pub greatest_in-greatest_group-requires : goal.greatest_in-greatest_group-requires
greatest_in-greatest_group-requires t c =
    let below = depth-below c.args.subs.now c.loop-sub.sub-index c.sub-item.result c.loop-sub-test.true c.sub-item.is in
    (omega arith, tt)

pub greatest_in-loop-sub-preserved : goal.greatest_in-loop-sub-preserved
greatest_in-loop-sub-preserved t c =
    let e = greatest_in-drop c.args.subs.now c.loop-sub.sub-index c.sub-item.result c.loop-sub-test.true c.sub-item.is in
    let g = c.greatest_group.ensures in
    let m = c.max-greatest.ensures in
    let before = c.loop-sub.invariant in
    omega arith

pub greatest_in-returns : goal.greatest_in-returns
greatest_in-returns t c =
    let e = greatest_in-past c.args.subs.now c.loop-sub.sub-index c.loop-sub-test.false in
    let before = c.loop-sub.invariant in
    omega arith

pub greatest_of_kind-returns-in-Repetition : goal.greatest_of_kind-returns-in-Repetition
unfolding greatest_group
greatest_of_kind-returns-in-Repetition t c =
    c.greatest_group.ensures ∙ ap greatest_group c.deref.ensures ∙ sym (ap (λ k. greatest_group (kind_view k)) c.in-Repetition.is)

pub greatest_of_kind-returns-in-Capture : goal.greatest_of_kind-returns-in-Capture
unfolding greatest_group
greatest_of_kind-returns-in-Capture t c =
    c.max.ensures ∙ (λ i. max (c.get.ensures.value i) ((c.greatest_group-in-Capture.ensures ∙ ap greatest_group c.deref-in-Capture.ensures) i))
    ∙ sym (ap (λ k. greatest_group (kind_view k)) c.in-Capture.is)

pub greatest_of_kind-returns-in-Empty : goal.greatest_of_kind-returns-in-Empty
unfolding greatest_group
greatest_of_kind-returns-in-Empty t c = sym (ap (λ k. greatest_group (kind_view k)) c.in-Empty.is)

pub greatest_of_kind-returns-in-Literal : goal.greatest_of_kind-returns-in-Literal
unfolding greatest_group
greatest_of_kind-returns-in-Literal t c = sym (ap (λ k. greatest_group (kind_view k)) c.in-Literal.is)

pub greatest_of_kind-returns-in-Class : goal.greatest_of_kind-returns-in-Class
unfolding greatest_group
greatest_of_kind-returns-in-Class t c = sym (ap (λ k. greatest_group (kind_view k)) c.in-Class.is)

pub greatest_of_kind-returns-in-Look : goal.greatest_of_kind-returns-in-Look
unfolding greatest_group
greatest_of_kind-returns-in-Look t c = sym (ap (λ k. greatest_group (kind_view k)) c.in-Look.is)

pub greatest_of_kind-returns-in-Concat : goal.greatest_of_kind-returns-in-Concat
unfolding greatest_group
greatest_of_kind-returns-in-Concat t c =
    c.greatest_in.ensures ∙ ap (λ ys. greatest_in (expressions ys)) c.deref-in-Concat.ensures.value
    ∙ sym (ap (λ k. greatest_group (kind_view k)) c.in-Concat.is)

pub greatest_of_kind-returns-in-Alternation : goal.greatest_of_kind-returns-in-Alternation
unfolding greatest_group
greatest_of_kind-returns-in-Alternation t c =
    c.greatest_in-in-Alternation.ensures ∙ ap (λ ys. greatest_in (expressions ys)) c.deref-in-Alternation.ensures.value
    ∙ sym (ap (λ k. greatest_group (kind_view k)) c.in-Alternation.is)
