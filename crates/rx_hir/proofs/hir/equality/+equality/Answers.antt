use Rattle.std.proofs.Common.{◌≡◌, ◌<◌, ◌≤◌, length, arith, sym, ap, ◌∙◌, option_map, string_bytes}
use Rattle.std.specs.Int.NonZero.{non_zero_usize_get}
use Rattle.rx_model.specs.Expression.{repetition, capture, concat, alternation}
use Rattle.rx_hir.specs.HirViews.{kind_view}
use Rattle.rx_hir.specs.Normal.{expressions}
use Rattle.rx_hir.specs.Same.{is_same, are_same}
use Rattle.rx_hir.proofs.DepthLemmas.{depth-below}
use Rattle.rx_hir.proofs.EmptyLemmas.{and-true}
use Rattle.rx_hir.proofs.SameLemmas.{other-repetition, other-capture, other-concat, other-alternation, and-no, long-apart, sames-drop, sames-past}
use Rattle.rx_hir.proofs.hir.equality.+equality.Goals as goal

pub are_same-returns-then-a-b : goal.are_same-returns-then-a-b
are_same-returns-then-a-b t c = sym (long-apart c.args.a.now c.args.b.now c.if-a-b.true)

pub are_same-is_same-requires : goal.are_same-is_same-requires
are_same-is_same-requires t c =
    let below = depth-below c.args.a.now c.loop-i.i c.index-a-i.result c.loop-i-test.true c.index-a-i.is in
    (omega arith, tt)

pub are_same-returns-then-not-is_same : goal.are_same-returns-then-not-is_same
are_same-returns-then-not-is_same t c =
    let long : length c.args.a.now ≡ length c.args.b.now = c.if-a-b.false in
    let in_a = c.loop-i-test.true in
    let in_b : c.loop-i.i < length c.args.b.now = omega arith in
    let e = sames-drop c.args.a.now c.args.b.now c.loop-i.i c.index-a-i.result c.index-b-i.result in_a in_b c.index-a-i.is c.index-b-i.is in
    sym (sym c.loop-i.invariant ∙ e ∙ and-no _ _ (sym c.is_same.ensures ∙ c.if-not-is_same.true))

pub are_same-loop-i-preserved : goal.are_same-loop-i-preserved
are_same-loop-i-preserved t c =
    let long : length c.args.a.now ≡ length c.args.b.now = c.if-a-b.false in
    let in_a = c.loop-i-test.true in
    let in_b : c.loop-i.i < length c.args.b.now = omega arith in
    let e = sames-drop c.args.a.now c.args.b.now c.loop-i.i c.index-a-i.result c.index-b-i.result in_a in_b c.index-a-i.is c.index-b-i.is in
    sym (and-true _ _ (sym c.is_same.ensures ∙ c.if-not-is_same.false)) ∙ sym e ∙ c.loop-i.invariant

pub are_same-returns : goal.are_same-returns
are_same-returns t c =
    let long : length c.args.a.now ≡ length c.args.b.now = c.if-a-b.false in
    let past = c.loop-i-test.false in
    let past_b : length c.args.b.now ≤ c.loop-i.i = omega arith in
    sym (sames-past c.args.a.now c.args.b.now c.loop-i.i past past_b) ∙ c.loop-i.invariant

pub is_alternation-returns-in-Alternation : goal.is_alternation-returns-in-Alternation
unfolding is_same
is_alternation-returns-in-Alternation t c =
    let whole = ap (is_same (alternation (expressions c.args.subs.now))) (sym c.kind.ensures.value ∙ ap kind_view c.in-Alternation.is) in
    c.are_same.ensures ∙ ap (λ hs. are_same (expressions c.args.subs.now) (expressions hs)) c.deref.ensures.value ∙ sym whole

pub is_alternation-returns-in_default : goal.is_alternation-returns-in_default
is_alternation-returns-in_default t c = sym (other-alternation (expressions c.args.subs.now) c.kind.result.now c.in_default.not-Alternation)
    ∙ ap (is_same (alternation (expressions c.args.subs.now))) c.kind.ensures.value

pub is_concat-returns-in-Concat : goal.is_concat-returns-in-Concat
unfolding is_same
is_concat-returns-in-Concat t c =
    let whole = ap (is_same (concat (expressions c.args.subs.now))) (sym c.kind.ensures.value ∙ ap kind_view c.in-Concat.is) in
    c.are_same.ensures ∙ ap (λ hs. are_same (expressions c.args.subs.now) (expressions hs)) c.deref.ensures.value ∙ sym whole

pub is_concat-returns-in_default : goal.is_concat-returns-in_default
is_concat-returns-in_default t c = sym (other-concat (expressions c.args.subs.now) c.kind.result.now c.in_default.not-Concat)
    ∙ ap (is_same (concat (expressions c.args.subs.now))) c.kind.ensures.value

pub is_capture-returns-then-not-same_group : goal.is_capture-returns-then-not-same_group
unfolding is_same
is_capture-returns-then-not-same_group t c =
    let whole =
    ap (is_same (capture (non_zero_usize_get c.args.group.now.index) (option_map string_bytes c.args.group.now.name) c.args.group.now.sub.value))
    (sym c.kind.ensures.value ∙ ap kind_view c.in-Capture.is) in
    sym (whole ∙ and-no _ _ (sym c.same_group.ensures ∙ c.if-not-same_group.true))

pub is_capture-returns-else-not-same_group : goal.is_capture-returns-else-not-same_group
unfolding is_same
is_capture-returns-else-not-same_group t c =
    let whole =
    ap (is_same (capture (non_zero_usize_get c.args.group.now.index) (option_map string_bytes c.args.group.now.name) c.args.group.now.sub.value))
    (sym c.kind.ensures.value ∙ ap kind_view c.in-Capture.is) in
    c.is_same.ensures ∙ (λ i. is_same (c.deref.ensures i) (c.deref-in-Capture.ensures i))
    ∙ sym (whole ∙ and-true _ _ (sym c.same_group.ensures ∙ c.if-not-same_group.false))

pub is_capture-returns-in_default : goal.is_capture-returns-in_default
is_capture-returns-in_default t c = sym (other-capture (non_zero_usize_get c.args.group.now.index) (option_map string_bytes c.args.group.now.name)
    c.args.group.now.sub.value c.kind.result.now c.in_default.not-Capture)
    ∙ ap (is_same (capture (non_zero_usize_get c.args.group.now.index) (option_map string_bytes c.args.group.now.name) c.args.group.now.sub.value))
    c.kind.ensures.value

pub is_repetition-returns-then-not-same_counts : goal.is_repetition-returns-then-not-same_counts
unfolding is_same
is_repetition-returns-then-not-same_counts t c =
    let whole =
    ap (is_same (repetition c.args.copies.now.min c.args.copies.now.max c.args.copies.now.greedy c.args.copies.now.sub.value))
    (sym c.kind.ensures.value ∙ ap kind_view c.in-Repetition.is) in
    sym (whole ∙ and-no _ _ (sym c.same_counts.ensures ∙ c.if-not-same_counts.true))

pub is_repetition-returns-else-not-same_counts : goal.is_repetition-returns-else-not-same_counts
unfolding is_same
is_repetition-returns-else-not-same_counts t c =
    let whole =
    ap (is_same (repetition c.args.copies.now.min c.args.copies.now.max c.args.copies.now.greedy c.args.copies.now.sub.value))
    (sym c.kind.ensures.value ∙ ap kind_view c.in-Repetition.is) in
    c.is_same.ensures ∙ (λ i. is_same (c.deref.ensures i) (c.deref-in-Repetition.ensures i))
    ∙ sym (whole ∙ and-true _ _ (sym c.same_counts.ensures ∙ c.if-not-same_counts.false))

pub is_repetition-returns-in_default : goal.is_repetition-returns-in_default
is_repetition-returns-in_default t c = sym (other-repetition c.args.copies.now.min c.args.copies.now.max c.args.copies.now.greedy c.args.copies.now.sub.value
    c.kind.result.now c.in_default.not-Repetition) ∙ ap (is_same
    (repetition c.args.copies.now.min c.args.copies.now.max c.args.copies.now.greedy c.args.copies.now.sub.value)) c.kind.ensures.value
