use Rattle.std.proofs.Common.{false, refl, sym, ◌∙◌, subst, arith, true≢false}
use Rattle.std.specs.Prelude.{IsTrue, ◌↔◌}
use Rattle.rx_hir.specs.HirViews.{kind_view}
use Rattle.rx_hir.specs.Normal.{expressions}
use Rattle.rx_hir.proofs.DepthLemmas.{depth-below}
use Rattle.rx_literal.specs.First.{IsLookFree, AreLookFree}
use Rattle.rx_literal.proofs.lemmas.first_runs.LookFreeLemmas.{HasNone, HaveNone, frees-none, none-at, look-some, free-on, free-past}
use Rattle.rx_literal.proofs.look_free.+look_free.Goals as goal

pub kind_is_look_free-returns-in-Empty-clause-look_free : goal.kind_is_look_free-returns-in-Empty-clause-look_free
unfolding IsLookFree
kind_is_look_free-returns-in-Empty-clause-look_free t c = subst (λ k. IsTrue _ → IsLookFree (kind_view k)) (sym c.in-Empty.is) (λ yes. tt)

pub kind_is_look_free-returns-in-Literal-clause-look_free : goal.kind_is_look_free-returns-in-Literal-clause-look_free
unfolding IsLookFree
kind_is_look_free-returns-in-Literal-clause-look_free t c = subst (λ k. IsTrue _ → IsLookFree (kind_view k)) (sym c.in-Literal.is) (λ yes. tt)

pub kind_is_look_free-returns-in-Look-clause-value : goal.kind_is_look_free-returns-in-Look-clause-value
kind_is_look_free-returns-in-Look-clause-value t c = subst (λ k. IsTrue false ↔ HasNone (kind_view k)) (sym c.in-Look.is)
    ((λ yes. absurd (true≢false (sym yes))), (λ none. absurd (look-some _ none)))

pub kind_is_look_free-returns-in-Repetition-clause-value : goal.kind_is_look_free-returns-in-Repetition-clause-value
kind_is_look_free-returns-in-Repetition-clause-value t c =
    subst (λ k. IsTrue c.is_look_free.result ↔ HasNone (kind_view k)) (sym c.in-Repetition.is)
    (subst (λ h. IsTrue c.is_look_free.result ↔ HasNone h) c.deref.ensures c.is_look_free.ensures.value)

pub kind_is_look_free-returns-in-Repetition-clause-look_free : goal.kind_is_look_free-returns-in-Repetition-clause-look_free
unfolding IsLookFree
kind_is_look_free-returns-in-Repetition-clause-look_free t c =
    subst (λ k. IsTrue c.is_look_free.result → IsLookFree (kind_view k)) (sym c.in-Repetition.is)
    (subst (λ h. IsTrue c.is_look_free.result → IsLookFree h) c.deref.ensures c.is_look_free.ensures.look_free)

pub kind_is_look_free-returns-in-Capture-clause-value : goal.kind_is_look_free-returns-in-Capture-clause-value
kind_is_look_free-returns-in-Capture-clause-value t c =
    subst (λ k. IsTrue c.is_look_free-in-Capture.result ↔ HasNone (kind_view k)) (sym c.in-Capture.is)
    (subst (λ h. IsTrue c.is_look_free-in-Capture.result ↔ HasNone h) c.deref-in-Capture.ensures c.is_look_free-in-Capture.ensures.value)

pub kind_is_look_free-returns-in-Capture-clause-look_free : goal.kind_is_look_free-returns-in-Capture-clause-look_free
unfolding IsLookFree
kind_is_look_free-returns-in-Capture-clause-look_free t c =
    subst (λ k. IsTrue c.is_look_free-in-Capture.result → IsLookFree (kind_view k)) (sym c.in-Capture.is)
    (subst (λ h. IsTrue c.is_look_free-in-Capture.result → IsLookFree h) c.deref-in-Capture.ensures c.is_look_free-in-Capture.ensures.look_free)

pub kind_is_look_free-returns-in-Concat-clause-value : goal.kind_is_look_free-returns-in-Concat-clause-value
kind_is_look_free-returns-in-Concat-clause-value t c =
    subst (λ k. IsTrue c.are_look_free.result ↔ HasNone (kind_view k)) (sym c.in-Concat.is)
    (subst (λ hs. IsTrue c.are_look_free.result ↔ HaveNone (expressions hs)) c.deref-in-Concat.ensures.value c.are_look_free.ensures.value)

pub kind_is_look_free-returns-in-Concat-clause-look_free : goal.kind_is_look_free-returns-in-Concat-clause-look_free
unfolding IsLookFree
kind_is_look_free-returns-in-Concat-clause-look_free t c =
    subst (λ k. IsTrue c.are_look_free.result → IsLookFree (kind_view k)) (sym c.in-Concat.is)
    (subst (λ hs. IsTrue c.are_look_free.result → AreLookFree (expressions hs)) c.deref-in-Concat.ensures.value c.are_look_free.ensures.look_free)

pub kind_is_look_free-returns-in-Alternation-clause-value : goal.kind_is_look_free-returns-in-Alternation-clause-value
kind_is_look_free-returns-in-Alternation-clause-value t c =
    subst (λ k. IsTrue c.are_look_free-in-Alternation.result ↔ HasNone (kind_view k)) (sym c.in-Alternation.is)
    (subst (λ hs. IsTrue c.are_look_free-in-Alternation.result ↔ HaveNone (expressions hs)) c.deref-in-Alternation.ensures.value
    c.are_look_free-in-Alternation.ensures.value)

pub kind_is_look_free-returns-in-Alternation-clause-look_free : goal.kind_is_look_free-returns-in-Alternation-clause-look_free
unfolding IsLookFree
kind_is_look_free-returns-in-Alternation-clause-look_free t c =
    subst (λ k. IsTrue c.are_look_free-in-Alternation.result → IsLookFree (kind_view k)) (sym c.in-Alternation.is)
    (subst (λ hs. IsTrue c.are_look_free-in-Alternation.result → AreLookFree (expressions hs)) c.deref-in-Alternation.ensures.value
    c.are_look_free-in-Alternation.ensures.look_free)

pub are_look_free-is_look_free-requires : goal.are_look_free-is_look_free-requires
are_look_free-is_look_free-requires t c =
    let below = depth-below c.args.subs.now c.loop-sub.sub-index c.sub-item.result c.loop-sub-test.true c.sub-item.is in
    (omega arith, tt)

pub are_look_free-returns-then-not-is_look_free-clause-value : goal.are_look_free-returns-then-not-is_look_free-clause-value
are_look_free-returns-then-not-is_look_free-clause-value t c = (
  λ yes. absurd (true≢false (sym yes)),
  λ none. sym c.if-not-is_look_free.true ∙ c.is_look_free.ensures.value.1
      (none-at c.args.subs.now c.loop-sub.sub-index c.sub-item.result c.loop-sub-test.true c.sub-item.is none),
)

pub are_look_free-loop-sub-preserved : goal.are_look_free-loop-sub-preserved
are_look_free-loop-sub-preserved t c = λ rest.
    c.loop-sub.invariant (free-on c.args.subs.now c.loop-sub.sub-index c.sub-item.result c.loop-sub-test.true c.sub-item.is
    (c.is_look_free.ensures.look_free c.if-not-is_look_free.false) rest)

pub are_look_free-returns-clause-value : goal.are_look_free-returns-clause-value
are_look_free-returns-clause-value t c = (
  λ yes k. frees-none (expressions c.args.subs.now) (c.loop-sub.invariant (free-past c.args.subs.now c.loop-sub.sub-index c.loop-sub-test.false)) k,
  λ none. refl,
)

pub are_look_free-returns-clause-look_free : goal.are_look_free-returns-clause-look_free
are_look_free-returns-clause-look_free t c = λ yes. c.loop-sub.invariant (free-past c.args.subs.now c.loop-sub.sub-index c.loop-sub-test.false)
