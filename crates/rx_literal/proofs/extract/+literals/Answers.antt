use Rattle.std.proofs.Common.{◌≡◌, ◌+◌, ◌-◌, ◌<◌, ◌∷◌, [], length, drop, IfOk, arith, ap, sym, ◌∙◌, subst}
use Rattle.rx_hir.specs.HirViews.{kind_view}
use Rattle.rx_hir.specs.Normal.{expressions}
use Rattle.rx_hir.proofs.DepthLemmas.{depth-below}
use Rattle.rx_hir.proofs.JoinedLemmas.{drop-past}
use Rattle.rx_literal.specs.Literals.{exact, finite, cut, one_empty, some_exact, cross, union}
use Rattle.rx_literal.specs.declared.side.Side.TheVariants.{Front as front, Back as back}
use Rattle.rx_literal.specs.Extract.{literals, in_turn, of_one, repeated}
use Rattle.rx_literal.proofs.lemmas.prefixes.TurnLemmas.{front-done, front-step, back-goes, back-done, one-step}
use Rattle.rx_literal.proofs.lemmas.prefixes.UnionLemmas.{IsFew, union-few, union-nothing, nothing-union, union-assoc, of_one-few}
use Rattle.rx_literal.proofs.extract.+literals.Goals as goal

pub literals_of_kind-returns-in-Empty : goal.literals_of_kind-returns-in-Empty
unfolding literals
literals_of_kind-returns-in-Empty t c =
    subst (λ k. IfOk c.one_empty.result (λ s. s ≡ literals c.args.side (kind_view k))) (sym c.in-Empty.is) c.one_empty.ensures

pub literals_of_kind-returns-in-Literal : goal.literals_of_kind-returns-in-Literal
unfolding literals
literals_of_kind-returns-in-Literal t c =
    let e = ap (λ bytes. finite (cut c.args.side 100 (exact bytes) ∷ [])) c.deref.ensures.value
    ∙ sym (ap (λ k. literals c.args.side (kind_view k)) c.in-Literal.is) in
    subst (λ v. IfOk c.text.result (λ s. s ≡ v)) e c.text.ensures

pub literals_of_kind-returns-in-Class : goal.literals_of_kind-returns-in-Class
unfolding literals
literals_of_kind-returns-in-Class t c =
    subst (λ k. IfOk c.class_literals.result (λ s. s ≡ literals c.args.side (kind_view k))) (sym c.in-Class.is) c.class_literals.ensures

pub literals_of_kind-returns-in-Look : goal.literals_of_kind-returns-in-Look
unfolding literals
literals_of_kind-returns-in-Look t c =
    subst (λ k. IfOk c.one_empty-in-Look.result (λ s. s ≡ literals c.args.side (kind_view k))) (sym c.in-Look.is) c.one_empty-in-Look.ensures

pub literals_of_kind-returns-in_ok-body-in-Repetition : goal.literals_of_kind-returns-in_ok-body-in-Repetition
unfolding literals
literals_of_kind-returns-in_ok-body-in-Repetition t c =
    let r = c.in-Repetition.copies in
    let body = c.in_ok-body-in-Repetition.ensures ∙ ap (literals c.args.side) c.deref-in-Repetition.ensures in
    let e = ap (repeated c.args.side r.min r.max r.greedy) body ∙ sym (ap (λ k. literals c.args.side (kind_view k)) c.in-Repetition.is) in
    subst (λ v. IfOk c.repeated.result (λ s. s ≡ v)) e c.repeated.ensures

pub literals_of_kind-returns-in-Capture : goal.literals_of_kind-returns-in-Capture
unfolding literals
literals_of_kind-returns-in-Capture t c =
    let e = ap (literals c.args.side) c.deref-in-Capture.ensures ∙ sym (ap (λ k. literals c.args.side (kind_view k)) c.in-Capture.is) in
    subst (λ v. IfOk c.literals-in-Capture.result (λ s. s ≡ v)) e c.literals-in-Capture.ensures

pub literals_of_kind-returns-in-Concat : goal.literals_of_kind-returns-in-Concat
unfolding literals
literals_of_kind-returns-in-Concat t c =
    let e = ap (λ ys. in_turn c.args.side one_empty (expressions ys)) c.deref-in-Concat.ensures.value
    ∙ sym (ap (λ k. literals c.args.side (kind_view k)) c.in-Concat.is) in
    subst (λ v. IfOk c.in_turn.result (λ s. s ≡ v)) e c.in_turn.ensures

pub literals_of_kind-returns-in-Alternation : goal.literals_of_kind-returns-in-Alternation
unfolding literals
literals_of_kind-returns-in-Alternation t c =
    let e = ap (λ ys. of_one c.args.side (expressions ys)) c.deref-in-Alternation.ensures.value
    ∙ sym (ap (λ k. literals c.args.side (kind_view k)) c.in-Alternation.is) in
    subst (λ v. IfOk c.of_one.result (λ s. s ≡ v)) e c.of_one.ensures

pub from_the_front-returns-then-not-has_exact : goal.from_the_front-returns-then-not-has_exact
from_the_front-returns-then-not-has_exact t c =
    let rest = expressions (drop c.loop-sub.sub-index c.args.subs.now) in
    sym (front-done c.loop-sub.seq rest (sym c.has_exact.ensures ∙ c.if-not-has_exact.true)) ∙ c.loop-sub.invariant

pub from_the_front-literals-requires : goal.from_the_front-literals-requires
from_the_front-literals-requires t c =
    let below = depth-below c.args.subs.now c.loop-sub.sub-index c.sub-item.result c.loop-sub-test.true c.sub-item.is in
    (omega arith, tt)

pub from_the_front-loop-sub-preserved : goal.from_the_front-loop-sub-preserved
from_the_front-loop-sub-preserved t c =
    let subs = c.args.subs.now in
    let i = c.loop-sub.sub-index in
    let h = c.sub-item.result in
    let rest = expressions (drop (c.loop-sub.sub-index + 1) c.args.subs.now) in
    ap (λ x. in_turn front x rest) (c.in_ok-seq-2.ensures ∙ ap (cross front c.loop-sub.seq) c.in_ok-inner.ensures)
    ∙ sym (front-step c.loop-sub.seq subs i h c.loop-sub-test.true c.sub-item.is (sym c.has_exact.ensures ∙ c.if-not-has_exact.false))
    ∙ c.loop-sub.invariant

pub from_the_front-returns : goal.from_the_front-returns
unfolding literals
from_the_front-returns t c =
    sym (ap (λ ys. in_turn front c.loop-sub.seq (expressions ys)) (drop-past c.args.subs.now c.loop-sub.sub-index c.loop-sub-test.false)) ∙ c.loop-sub.invariant

pub from_the_back-loop-i-init : goal.from_the_back-loop-i-init
unfolding literals
from_the_back-loop-i-init t c =
    let subs = c.args.subs.now in
    record {
      so_far = c.in_ok-seq.ensures ∙ sym (ap (λ ys. in_turn back one_empty (expressions ys)) (drop-past subs (length subs) (omega arith)));
      within = omega arith;
    }

pub from_the_back-returns-then-not-has_exact : goal.from_the_back-returns-then-not-has_exact
from_the_back-returns-then-not-has_exact t c =
    let so_far = c.loop-i.invariant.so_far in
    so_far ∙ sym (back-done one_empty c.args.subs.now c.loop-i.i (ap some_exact (sym so_far) ∙ sym c.has_exact.ensures ∙ c.if-not-has_exact.true))

pub from_the_back-literals-requires : goal.from_the_back-literals-requires
from_the_back-literals-requires t c =
    let within : c.loop-i.i - 1 < length c.args.subs.now = omega (arith, c.loop-i.invariant.within, c.loop-i-test.true) in
    let below = depth-below c.args.subs.now (c.loop-i.i - 1) c.index-subs-i.result within c.index-subs-i.is in
    (omega arith, tt)

pub from_the_back-loop-i-preserved : goal.from_the_back-loop-i-preserved
from_the_back-loop-i-preserved t c = record {
  so_far = back-goes one_empty c.args.subs.now c.loop-i.i c.index-subs-i.result c.loop-i.seq c.in_ok-inner.inner c.in_ok-seq-2.seq
      c.loop-i-test.true c.loop-i.invariant.within c.index-subs-i.is (sym c.has_exact.ensures ∙ c.if-not-has_exact.false) c.loop-i.invariant.so_far
      c.in_ok-inner.ensures c.in_ok-seq-2.ensures;
  within = omega (arith, c.loop-i.invariant.within);
}

pub of_one-loop-sub-init : goal.of_one-loop-sub-init
of_one-loop-sub-init t c =
    let all = of_one c.args.side (expressions c.args.subs.now) in
    let none = c.in_ok-seq.ensures in
    record {
      so_far = ap (λ s. union s all) none ∙ nothing-union all (of_one-few c.args.side (expressions c.args.subs.now));
      few = subst IsFew (sym none) (omega arith);
    }

pub of_one-with_literals-requires : goal.of_one-with_literals-requires
of_one-with_literals-requires t c =
    let below = depth-below c.args.subs.now c.loop-sub.sub-index c.sub-item.result c.loop-sub-test.true c.sub-item.is in
    (omega arith, tt)

pub of_one-loop-sub-preserved : goal.of_one-loop-sub-preserved
of_one-loop-sub-preserved t c =
    let side = c.args.side in
    let h = c.sub-item.result in
    let seq = c.loop-sub.seq in
    let rest = of_one c.args.side (expressions (drop (c.loop-sub.sub-index + 1) c.args.subs.now)) in
    record {
      so_far = ap (λ x. union x rest) c.in_ok-seq-2.ensures ∙ union-assoc seq (literals side h) rest
          ∙ ap (union seq) (sym (one-step side c.args.subs.now c.loop-sub.sub-index h c.loop-sub-test.true c.sub-item.is)) ∙ c.loop-sub.invariant.so_far;
      few = subst IsFew (sym c.in_ok-seq-2.ensures) (union-few seq (literals side h));
    }

pub of_one-returns : goal.of_one-returns
unfolding literals
of_one-returns t c =
    let seq = c.loop-sub.seq in
    sym (union-nothing seq c.loop-sub.invariant.few)
    ∙ ap (union seq) (sym (ap (λ ys. of_one c.args.side (expressions ys)) (drop-past c.args.subs.now c.loop-sub.sub-index c.loop-sub-test.false)))
    ∙ c.loop-sub.invariant.so_far

pub with_literals-returns-in-Literal : goal.with_literals-returns-in-Literal
unfolding literals
with_literals-returns-in-Literal t c =
    let text =
    ap (λ l. finite (l ∷ [])) c.in_ok-cut.ensures ∙ ap (λ bytes. finite (cut c.args.side 100 (exact bytes) ∷ [])) c.deref.ensures.value
    ∙ sym (ap (λ k. literals c.args.side (kind_view k)) c.in-Literal.is) ∙ ap (literals c.args.side) c.kind-kind.ensures.value in
    subst (λ v. IfOk c.with.result (λ s. s ≡ v)) (λ k. union (c.seq.view_is k) (text k)) c.with.ensures
