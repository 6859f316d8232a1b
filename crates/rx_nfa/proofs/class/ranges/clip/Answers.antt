use Rattle.std.proofs.Common.{ℕ, ◌+◌, ◌<◌, ◌≤◌, ◌⊎◌, ◌++◌, ◌∙◌, sym, ap, inl, inr, arith, drop}
use Rattle.std.proofs.lemmas.Grind.{common_steps}
use Rattle.std.proofs.lemmas.List.{append_assoc}
use Rattle.rx_nfa.specs.Ranges.{clip}
use Rattle.rx_nfa.proofs.lemmas.classes.RangesLemmas.{clip-skip, clip-keep, clip-all}
use Rattle.rx_nfa.proofs.class.ranges.clip.Goals.{then-last-low, else-last-low, then-not-high-first+in_ok-push, else-not-high-first}
use Rattle.rx_nfa.proofs.class.ranges.clip.Goals as goal

pub loop-start-preserved : goal.loop-start-preserved
loop-start-preserved c =
    let before = c.loop-start.invariant in
    elim c.if-not-high-first.branch [
      | then-not-high-first+in_ok-push w ↦
          let inside = w.if-not-high-first.true in
          let kept = clip-keep c.args.low c.args.high c.loop-start.start-index c.args.ranges.now (grind (arith, common_steps)) (grind (arith, common_steps))
          (grind (arith, common_steps)) in
          let a = w.max.ensures in
          let b = w.min.ensures in
          rw (w.parts-is, w.in_ok-push.ensures.items, a, b)
          (append_assoc c.loop-start.parts.items _ (clip c.args.low c.args.high (drop (c.loop-start.start-index + 1) c.args.ranges.now))
          ∙ ap (λ ys. c.loop-start.parts.items ++ ys) (sym kept) ∙ before)
      | else-not-high-first w ↦
          let skipped =
          clip-skip c.args.low c.args.high c.loop-start.start-index c.args.ranges.now (grind (arith, common_steps)) (either w.if-not-high-first.either) in
          rw w.parts-is (ap (λ ys. c.loop-start.parts.items ++ ys) (sym skipped) ∙ before)
    ]
  where
    either : {a b c d : ℕ} → (a < b) ⊎ ((b ≤ a) × (c < d)) → (a < b) ⊎ (c < d)
    either (inl x) = inl x
    either (inr x) = inr x.1

pub returns : goal.returns
returns c = clip-all c.args.low c.args.high c.loop-start.parts.items c.args.ranges.now c.loop-start.start-index (grind (arith, common_steps))
    c.loop-start.invariant
