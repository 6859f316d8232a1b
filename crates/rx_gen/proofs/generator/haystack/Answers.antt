use Rattle.std.proofs.Common.{ℕ, suc, ◌+◌, ap, ◌∙◌, ◌≡◌, arith}
use Rattle.rx_gen.specs.Generated.{state_at, numbers}
use Rattle.rx_gen.proofs.GeneratorLemmas.{letters-more}
use Rattle.rx_gen.proofs.generator.haystack.Goals as goal

pub loop-letter-init : goal.loop-letter-init
unfolding numbers
loop-letter-init c = λ seed k at.
    let same : suc k ≡ k + 1 + 0 = omega arith in (c.draw-length.ensures.state seed k at ∙ ap (state_at seed) same, c.in_ok-text.ensures.items)

pub loop-letter-preserved : goal.loop-letter-preserved
loop-letter-preserved c = λ seed k at.
    let n : ℕ = c.loop-letter._letter in
    let so_far = c.loop-letter.invariant seed k at in
    let same : suc (k + 1 + n) ≡ k + 1 + (n + 1) = omega arith in (
      c.draw-letter.ensures.state seed (k + 1 + n) so_far.0 ∙ ap (state_at seed) same,
      letters-more seed k n c.draw-letter.result _ _ (c.draw-letter.ensures.value seed (k + 1 + n) so_far.0) c.in_ok-push.ensures.items so_far.1,
    )
