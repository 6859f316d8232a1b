use Rattle.std.proofs.Common.{◌≡◌, ◌+◌, ◌-◌, ◌<◌, ◌≤◌, ◌∷◌, [], length, take, drop, reverse, Some, refl, ap, sym, ◌∙◌, subst, arith}
use Rattle.std.proofs.lemmas.Bool.Decides.{nat_tests}
use Rattle.std.proofs.lemmas.Result.{IfOk-weaker}
use Rattle.std.specs.Prelude.{IfOk, IfSome, option_map}
use Rattle.rx_hir.specs.HirViews.{kind_view}
use Rattle.rx_hir.specs.Normal.{expressions, concat_of, repetition_of}
use Rattle.rx_order.specs.Strip.{strip, strip_bytes, strip_copies, strip_row}
use Rattle.rx_order.specs.Left.{IsLeft}
use Rattle.rx_order.proofs.lemmas.LeftLemmas.{off-empty, off-class, off-look, off-alternation, off-literal, off-copies, off-capture, off-row, left-whole, copies-over, copies-default, copies-end, copies-next, row-start, part-default, part-next, fewer-left, ordered-less}
use Rattle.rx_hir.proofs.DepthLemmas.{depth-below}
use Rattle.rx_order.proofs.strip.+strip.Goals as goal

pub strip_kind-returns-in-Empty : goal.strip_kind-returns-in-Empty
strip_kind-returns-in-Empty t c = (off-empty c.args.suffix.now c.requires.some ∙ sym (ap (λ k. strip (kind_view k) c.args.suffix.now) c.in-Empty.is), tt)

pub strip_kind-returns-in-Class : goal.strip_kind-returns-in-Class
strip_kind-returns-in-Class t c = (off-class _ c.args.suffix.now c.requires.some ∙ sym (ap (λ k. strip (kind_view k) c.args.suffix.now) c.in-Class.is), tt)

pub strip_kind-returns-in-Look : goal.strip_kind-returns-in-Look
strip_kind-returns-in-Look t c = (off-look _ c.args.suffix.now c.requires.some ∙ sym (ap (λ k. strip (kind_view k) c.args.suffix.now) c.in-Look.is), tt)

pub strip_kind-returns-in-Alternation : goal.strip_kind-returns-in-Alternation
strip_kind-returns-in-Alternation t c =
    (off-alternation _ c.args.suffix.now c.requires.some ∙ sym (ap (λ k. strip (kind_view k) c.args.suffix.now) c.in-Alternation.is), tt)

pub strip_kind-returns-in-Literal : goal.strip_kind-returns-in-Literal
strip_kind-returns-in-Literal t c =
    let s = c.args.suffix.now in
    let e = ap (λ bytes. strip_bytes bytes s) c.deref.ensures.value ∙ off-literal c.in-Literal.bytes.items s c.requires.some
    ∙ sym (ap (λ k. strip (kind_view k) c.args.suffix.now) c.in-Literal.is) in
    subst (λ left. IfOk c.strip_bytes.result (IsLeft s left)) e c.strip_bytes.ensures

pub strip_kind-returns-in-Repetition : goal.strip_kind-returns-in-Repetition
strip_kind-returns-in-Repetition t c =
    let s = c.args.suffix.now in
    let e = off-copies c.in-Repetition.copies.min c.in-Repetition.copies.max c.in-Repetition.copies.greedy c.in-Repetition.copies.sub.value s c.requires.some
    ∙ sym (ap (λ k. strip (kind_view k) c.args.suffix.now) c.in-Repetition.is) in
    subst (λ left. IfOk c.strip_copies.result (IsLeft s left)) e c.strip_copies.ensures

pub strip_kind-returns-in-Capture : goal.strip_kind-returns-in-Capture
strip_kind-returns-in-Capture t c =
    let s = c.args.suffix.now in
    let e = ap (λ h. strip h s) c.deref-in-Capture.ensures ∙ off-capture _ _ c.in-Capture.capture.sub.value s c.requires.some
    ∙ sym (ap (λ k. strip (kind_view k) c.args.suffix.now) c.in-Capture.is) in
    subst (λ left. IfOk c.strip.result (IsLeft s left)) e c.strip.ensures

pub strip_kind-returns-in-Concat : goal.strip_kind-returns-in-Concat
strip_kind-returns-in-Concat t c =
    let s = c.args.suffix.now in
    let e = ap (λ ys. option_map (λ left. (concat_of left.0, left.1)) (strip_row (expressions ys) s)) c.deref-in-Concat.ensures.value
    ∙ off-row _ s c.requires.some ∙ sym (ap (λ k. strip (kind_view k) c.args.suffix.now) c.in-Concat.is) in
    subst (λ left. IfOk c.strip_row.result (IsLeft s left)) e c.strip_row.ensures

pub strip-returns-then-is_empty : goal.strip-returns-then-is_empty
strip-returns-then-is_empty t c =
    let s = c.args.suffix.now in
    let none : length s ≡ 0 = grind (arith, nat_tests, c.is_empty.ensures, c.if-is_empty.true) in
    (left-whole c.args.hir.now c.in_ok-rest.rest s none c.in_ok-rest.ensures.cases, omega arith)

pub strip_copies-returns-in_default : goal.strip_copies-returns-in_default
strip_copies-returns-in_default t c =
    let r = c.args.copies.now in
    let l = c.loop-min in
    let s = c.args.suffix.now in (
      copies-default s r.sub.value c.deref.result.now c.deref.ensures r.greedy l.min l.max l.count (take l.count s) refl
          (strip_copies (strip r.sub.value) r.min r.max r.greedy r.sub.value s) l.invariant.same (omega arith) c.in_ok-stripped.stripped
          c.in_ok-stripped.ensures c.in_default.is,
      tt,
    )

pub strip_copies-returns-then-last-eq0 : goal.strip_copies-returns-then-last-eq0
strip_copies-returns-then-last-eq0 t c =
    let r = c.args.copies.now in
    let l = c.loop-min in
    let s = c.args.suffix.now in
    let last = c.in-Some.last in
    let none : last.count ≡ 0 = omega arith in
    let e = copies-end s r.sub.value c.deref.result.now c.deref.ensures r.greedy l.min l.max l.count (take l.count s) refl
    (strip_copies (strip r.sub.value) r.min r.max r.greedy r.sub.value s) l.invariant.same (omega arith) c.in_ok-stripped.stripped c.in_ok-stripped.ensures last
    c.in-Some.is none in
    IfOk-weaker c.fewer_copies.result _ _
    (λ o is. fewer-left s (concat_of (repetition_of (l.min - 1) c.one_less-max.result r.greedy r.sub.value ∷ last.rest ∷ [])) _ o is
    ((λ i. Some (concat_of (repetition_of (l.min - 1) (c.one_less-max.ensures i) r.greedy r.sub.value ∷ last.rest ∷ []), [])) ∙ e)) c.fewer_copies.ensures

pub strip_copies-loop-min-preserved : goal.strip_copies-loop-min-preserved
strip_copies-loop-min-preserved t c =
    let r = c.args.copies.now in
    let l = c.loop-min in
    let s = c.args.suffix.now in
    let last = c.in-Some.last in
    let more : 0 < last.count = omega arith in
    let next = copies-next s r.sub.value c.deref.result.now c.deref.ensures r.greedy l.min l.max l.count (take l.count s) refl
    (strip_copies (strip r.sub.value) r.min r.max r.greedy r.sub.value s) l.invariant.same (omega arith) c.in_ok-stripped.stripped c.in_ok-stripped.ensures last
    c.in-Some.is more l.invariant.within in
    record {
      within = omega (arith, c.count_left-count.ensures, next.1);
      some = omega (arith, c.count_left-count.ensures, more);
      ordered = subst (λ o. IfSome o (λ m. l.min - 1 ≤ m)) (sym c.one_less-max.ensures) (ordered-less l.min l.max l.invariant.ordered);
      same = (λ i. strip_copies (strip r.sub.value) (l.min - 1) (c.one_less-max.ensures i) r.greedy r.sub.value
          (take (c.count_left-count.ensures i) s)) ∙ next.0;
    }

pub strip_copies-returns : goal.strip_copies-returns
strip_copies-returns t c =
    let r = c.args.copies.now in
    let l = c.loop-min in
    let zero_left : l.min ≡ 0 = omega arith in
    (copies-over (strip r.sub.value) r.greedy r.sub.value l.min l.max (take l.count c.args.suffix.now) zero_left ∙ l.invariant.same, tt)

pub strip_row-loop-i-init : goal.strip_row-loop-i-init
strip_row-loop-i-init t c =
    let s = c.args.suffix.now in
    record {
      within = omega arith;
      count = omega arith;
      so_far = row-start c.args.parts.now s ∙ (λ k. Some (reverse (sym c.in_ok-left.ensures.items k), take (length s) s));
    }

pub strip_row-strip-requires : goal.strip_row-strip-requires
strip_row-strip-requires t c =
    let within : c.loop-i.i - 1 < length c.args.parts.now = omega (arith, c.loop-i.invariant.within, c.loop-i-test.true) in
    let below = depth-below c.args.parts.now (c.loop-i.i - 1) c.index-parts-i.result within c.index-parts-i.is in
    (omega arith, tt)

pub strip_row-returns-in_default : goal.strip_row-returns-in_default
strip_row-returns-in_default t c =
    let l = c.loop-i in
    let parts = c.args.parts.now in
    let s = c.args.suffix.now in
    let within : l.i - 1 < length parts = omega (arith, l.invariant.within, c.loop-i-test.true) in
    let back : l.i ≡ l.i - 1 + 1 = omega arith in
    let so_far = subst (λ k. strip_row (expressions (drop k parts)) s ≡ Some (reverse l.left.items, take l.count s)) back l.invariant.so_far in
    let none =
    part-default parts s (l.i - 1) within c.index-parts-i.result c.index-parts-i.is l.left.items l.count l.invariant.count so_far (take l.count s) refl
    c.in_ok-stripped.stripped c.in_ok-stripped.ensures c.in_default.is in
    (sym (ap (option_map (λ left. (concat_of left.0, left.1))) none), tt)

pub strip_row-loop-i-preserved : goal.strip_row-loop-i-preserved
strip_row-loop-i-preserved t c =
    let l = c.loop-i in
    let parts = c.args.parts.now in
    let s = c.args.suffix.now in
    let part = c.in-Some.part in
    let within : l.i - 1 < length parts = omega (arith, l.invariant.within, c.loop-i-test.true) in
    let back : l.i ≡ l.i - 1 + 1 = omega arith in
    let so_far = subst (λ k. strip_row (expressions (drop k parts)) s ≡ Some (reverse l.left.items, take l.count s)) back l.invariant.so_far in
    let next = part-next parts s (l.i - 1) within c.index-parts-i.result c.index-parts-i.is l.left.items l.count l.invariant.count so_far (take l.count s) refl
    c.in_ok-stripped.stripped c.in_ok-stripped.ensures part c.in-Some.is in
    record {
      within = omega arith;
      count = next.1;
      so_far = next.0 ∙ (λ k. Some (reverse (sym c.in_ok-push.ensures.items k), take part.count s));
    }
