use Rattle.std.proofs.Common.{◌≡◌, true, false, arith, ap, sym, ◌∙◌, length}
use Rattle.std.specs.Vec.{vec_len}
use Rattle.std.specs.Prelude.{◌==◌}
use Rattle.std.proofs.lemmas.Bool.Decides.{nat_tests}
use Rattle.std.proofs.lemmas.Bool.{and_left, or_left}
use Rattle.rx_model.specs.Empty.{can_be_empty, all_can_be_empty, one_can_be_empty}
use Rattle.rx_hir.specs.HirViews.{kind_view}
use Rattle.rx_hir.specs.Normal.{expressions}
use Rattle.rx_hir.proofs.DepthLemmas.{depth-below}
use Rattle.rx_hir.proofs.EmptyLemmas.{all-drop, all-past, one-drop, one-past, and-true, or-false}
use Rattle.rx_hir.proofs.hir.emptiness.+emptiness.Goals as goal

pub all_can_be_empty-can_be_empty-requires : goal.all_can_be_empty-can_be_empty-requires
all_can_be_empty-can_be_empty-requires t c =
    let below = depth-below c.args.subs.now c.loop-sub.sub-index c.sub-item.result c.loop-sub-test.true c.sub-item.is in
    (omega arith, tt)

pub all_can_be_empty-returns-then-not-can_be_empty : goal.all_can_be_empty-returns-then-not-can_be_empty
all_can_be_empty-returns-then-not-can_be_empty t c =
    let e = all-drop c.args.subs.now c.loop-sub.sub-index c.sub-item.result c.loop-sub-test.true c.sub-item.is in
    sym (sym c.loop-sub.invariant ∙ e ∙ and_left _ _ (sym c.can_be_empty.ensures ∙ c.if-not-can_be_empty.true))

pub all_can_be_empty-loop-sub-preserved : goal.all_can_be_empty-loop-sub-preserved
all_can_be_empty-loop-sub-preserved t c =
    let e = all-drop c.args.subs.now c.loop-sub.sub-index c.sub-item.result c.loop-sub-test.true c.sub-item.is in
    sym (and-true _ _ (sym c.can_be_empty.ensures ∙ c.if-not-can_be_empty.false)) ∙ sym e ∙ c.loop-sub.invariant

pub all_can_be_empty-returns : goal.all_can_be_empty-returns
all_can_be_empty-returns t c = sym (all-past c.args.subs.now c.loop-sub.sub-index c.loop-sub-test.false) ∙ c.loop-sub.invariant

pub one_can_be_empty-can_be_empty-requires : goal.one_can_be_empty-can_be_empty-requires
one_can_be_empty-can_be_empty-requires t c =
    let below = depth-below c.args.subs.now c.loop-sub.sub-index c.sub-item.result c.loop-sub-test.true c.sub-item.is in
    (omega arith, tt)

pub one_can_be_empty-returns-then-can_be_empty : goal.one_can_be_empty-returns-then-can_be_empty
one_can_be_empty-returns-then-can_be_empty t c =
    let e = one-drop c.args.subs.now c.loop-sub.sub-index c.sub-item.result c.loop-sub-test.true c.sub-item.is in
    sym (sym c.loop-sub.invariant ∙ e ∙ or_left _ _ (sym c.can_be_empty.ensures ∙ c.if-can_be_empty.true))

pub one_can_be_empty-loop-sub-preserved : goal.one_can_be_empty-loop-sub-preserved
one_can_be_empty-loop-sub-preserved t c =
    let e = one-drop c.args.subs.now c.loop-sub.sub-index c.sub-item.result c.loop-sub-test.true c.sub-item.is in
    sym (or-false _ _ (sym c.can_be_empty.ensures ∙ c.if-can_be_empty.false)) ∙ sym e ∙ c.loop-sub.invariant

pub one_can_be_empty-returns : goal.one_can_be_empty-returns
one_can_be_empty-returns t c = sym (one-past c.args.subs.now c.loop-sub.sub-index c.loop-sub-test.false) ∙ c.loop-sub.invariant

pub kind_can_be_empty-returns-in-Empty : goal.kind_can_be_empty-returns-in-Empty
unfolding can_be_empty
kind_can_be_empty-returns-in-Empty t c = sym (ap (λ k. can_be_empty (kind_view k)) c.in-Empty.is)

pub kind_can_be_empty-returns-in-Literal : goal.kind_can_be_empty-returns-in-Literal
unfolding can_be_empty
kind_can_be_empty-returns-in-Literal t c =
    let long : vec_len c.in-Literal.bytes ≡ length c.in-Literal.bytes.items = omega (arith, c.in-Literal.bytes.ok.0) in
    c.is_empty.ensures ∙ ap (λ n. n == 0) long ∙ sym (ap (λ k. can_be_empty (kind_view k)) c.in-Literal.is)

pub kind_can_be_empty-returns-in-Class : goal.kind_can_be_empty-returns-in-Class
unfolding can_be_empty
kind_can_be_empty-returns-in-Class t c = sym (ap (λ k. can_be_empty (kind_view k)) c.in-Class.is)

pub kind_can_be_empty-returns-in-Look : goal.kind_can_be_empty-returns-in-Look
unfolding can_be_empty
kind_can_be_empty-returns-in-Look t c = sym (ap (λ k. can_be_empty (kind_view k)) c.in-Look.is)

pub kind_can_be_empty-returns-then-repetition-eq0 : goal.kind_can_be_empty-returns-then-repetition-eq0
unfolding can_be_empty
kind_can_be_empty-returns-then-repetition-eq0 t c =
    let none : (c.in-Repetition.repetition.min == 0) ≡ true = grind (arith, nat_tests) in
    sym (ap (λ k. can_be_empty (kind_view k)) c.in-Repetition.is
    ∙ or_left (c.in-Repetition.repetition.min == 0) (can_be_empty c.in-Repetition.repetition.sub.value) none)

pub kind_can_be_empty-returns-else-repetition-eq0 : goal.kind_can_be_empty-returns-else-repetition-eq0
unfolding can_be_empty
kind_can_be_empty-returns-else-repetition-eq0 t c =
    let some : (c.in-Repetition.repetition.min == 0) ≡ false = grind (arith, nat_tests) in
    c.can_be_empty.ensures ∙ ap can_be_empty c.deref.ensures
    ∙ sym (ap (λ k. can_be_empty (kind_view k)) c.in-Repetition.is
    ∙ or-false (c.in-Repetition.repetition.min == 0) (can_be_empty c.in-Repetition.repetition.sub.value) some)

pub kind_can_be_empty-returns-in-Capture : goal.kind_can_be_empty-returns-in-Capture
unfolding can_be_empty
kind_can_be_empty-returns-in-Capture t c =
    c.can_be_empty-in-Capture.ensures ∙ ap can_be_empty c.deref-in-Capture.ensures ∙ sym (ap (λ k. can_be_empty (kind_view k)) c.in-Capture.is)

pub kind_can_be_empty-returns-in-Concat : goal.kind_can_be_empty-returns-in-Concat
unfolding can_be_empty
kind_can_be_empty-returns-in-Concat t c =
    c.all_can_be_empty.ensures ∙ ap (λ ys. all_can_be_empty (expressions ys)) c.deref-in-Concat.ensures.value
    ∙ sym (ap (λ k. can_be_empty (kind_view k)) c.in-Concat.is)

pub kind_can_be_empty-returns-in-Alternation : goal.kind_can_be_empty-returns-in-Alternation
unfolding can_be_empty
kind_can_be_empty-returns-in-Alternation t c =
    c.one_can_be_empty.ensures ∙ ap (λ ys. one_can_be_empty (expressions ys)) c.deref-in-Alternation.ensures.value
    ∙ sym (ap (λ k. can_be_empty (kind_view k)) c.in-Alternation.is)
