use Rattle.std.proofs.Common.{◌+◌, ◌∷◌, [], ◌++◌, ◌∙◌, drop, ap, sym, arith, append_assoc, append-nil}
use Rattle.std.proofs.lemmas.Result.{IfOk-weaker}
use Rattle.rx_hir.specs.HirViews.{kind_view}
use Rattle.rx_hir.specs.Normal.{expressions, concat_of, alternation_of}
use Rattle.rx_hir.proofs.DepthLemmas.{depth-below}
use Rattle.rx_order.specs.Inner.{uncaptured, all_uncaptured}
use Rattle.rx_order.proofs.lemmas.RestLemmas.{uncaptured-step, uncaptured-past}
use Rattle.rx_order.proofs.inner.+uncaptured.Goals as goal

pub all_uncaptured-uncaptured-requires : goal.all_uncaptured-uncaptured-requires
all_uncaptured-uncaptured-requires t c =
    let below = depth-below c.args.subs.now c.loop-sub.sub-index c.sub-item.result c.loop-sub-test.true c.sub-item.is in
    (omega arith, tt)

pub all_uncaptured-loop-sub-preserved : goal.all_uncaptured-loop-sub-preserved
all_uncaptured-loop-sub-preserved t c =
    let all = c.loop-sub.all.items in
    let h = c.sub-item.result in
    let rest = all_uncaptured (expressions (drop (c.loop-sub.sub-index + 1) c.args.subs.now)) in
    let step = uncaptured-step c.args.subs.now c.loop-sub.sub-index h c.loop-sub-test.true c.sub-item.is in
    ap (λ ys. ys ++ rest) (c.in_ok-push.ensures.items ∙ ap (λ x. all ++ x ∷ []) c.in_ok-uncaptured.ensures)
    ∙ append_assoc all (uncaptured h ∷ []) rest ∙ ap (λ ys. all ++ ys) (sym step) ∙ c.loop-sub.invariant

pub all_uncaptured-returns : goal.all_uncaptured-returns
all_uncaptured-returns t c =
    let all = c.loop-sub.all.items in
    sym (append-nil all) ∙ ap (λ ys. all ++ ys) (sym (uncaptured-past c.args.subs.now c.loop-sub.sub-index c.loop-sub-test.false)) ∙ c.loop-sub.invariant

pub uncaptured-returns-in_ok-clone-in-Empty : goal.uncaptured-returns-in_ok-clone-in-Empty
unfolding uncaptured
uncaptured-returns-in_ok-clone-in-Empty t c =
    let e = sym c.kind.ensures.value ∙ ap kind_view c.in-Empty.is in
    c.in_ok-clone-in-Empty.ensures.cases ∙ e ∙ sym (ap uncaptured e)

pub uncaptured-returns-in_ok-clone-in-Literal : goal.uncaptured-returns-in_ok-clone-in-Literal
unfolding uncaptured
uncaptured-returns-in_ok-clone-in-Literal t c =
    let e = sym c.kind.ensures.value ∙ ap kind_view c.in-Literal.is in
    c.in_ok-clone-in-Literal.ensures.cases ∙ e ∙ sym (ap uncaptured e)

pub uncaptured-returns-in_ok-clone-in-Class : goal.uncaptured-returns-in_ok-clone-in-Class
unfolding uncaptured
uncaptured-returns-in_ok-clone-in-Class t c =
    let e = sym c.kind.ensures.value ∙ ap kind_view c.in-Class.is in
    c.in_ok-clone-in-Class.ensures.cases ∙ e ∙ sym (ap uncaptured e)

pub uncaptured-returns-in_ok-clone-in-Look : goal.uncaptured-returns-in_ok-clone-in-Look
unfolding uncaptured
uncaptured-returns-in_ok-clone-in-Look t c =
    let e = sym c.kind.ensures.value ∙ ap kind_view c.in-Look.is in
    c.in_ok-clone-in-Look.ensures.cases ∙ e ∙ sym (ap uncaptured e)

pub uncaptured-returns-in-Repetition : goal.uncaptured-returns-in-Repetition
unfolding uncaptured
uncaptured-returns-in-Repetition t c =
    let e = sym c.kind.ensures.value ∙ ap kind_view c.in-Repetition.is in
    IfOk-weaker c.uncaptured_copies.result _ _ (λ h p. p ∙ sym (ap uncaptured e)) c.uncaptured_copies.ensures

pub uncaptured-returns-in-Capture : goal.uncaptured-returns-in-Capture
unfolding uncaptured
uncaptured-returns-in-Capture t c =
    let e = sym c.kind.ensures.value ∙ ap kind_view c.in-Capture.is in
    IfOk-weaker c.uncaptured.result _ _ (λ h p. p ∙ ap uncaptured c.deref.ensures ∙ sym (ap uncaptured e)) c.uncaptured.ensures

pub uncaptured-returns-in_ok-concat-in-Concat : goal.uncaptured-returns-in_ok-concat-in-Concat
unfolding uncaptured
uncaptured-returns-in_ok-concat-in-Concat t c =
    let e = sym c.kind.ensures.value ∙ ap kind_view c.in-Concat.is in
    c.in_ok-concat-in-Concat.ensures
    ∙ ap concat_of (c.in_ok-all_uncaptured-in-Concat.ensures ∙ ap (λ ys. all_uncaptured (expressions ys)) c.deref-in-Concat.ensures.value)
    ∙ sym (ap uncaptured e)

pub uncaptured-returns-in_ok-alternation-in-Alternation : goal.uncaptured-returns-in_ok-alternation-in-Alternation
unfolding uncaptured
uncaptured-returns-in_ok-alternation-in-Alternation t c =
    let e = sym c.kind.ensures.value ∙ ap kind_view c.in-Alternation.is in
    c.in_ok-alternation-in-Alternation.ensures
    ∙ ap alternation_of (c.in_ok-all_uncaptured-in-Alternation.ensures ∙ ap (λ ys. all_uncaptured (expressions ys)) c.deref-in-Alternation.ensures.value)
    ∙ sym (ap uncaptured e)
