use Rattle.std.proofs.Common.{◌≡◌, ℕ, suc, ◌+◌}
use Rattle.std.specs.Prelude.{map}
use Rattle.rx_gen.specs.Generated.{state_at, letter_at, numbers}
use Rattle.rx_gen.proofs.generator.haystack.Given as goal

abbrev pub invariant-loop-letter : goal.invariant-loop-letter
invariant-loop-letter l = (seed k : ℕ) → l.fn.generator.state ≡ state_at seed k
    → (l.generator.state ≡ state_at seed (k + 1 + l._letter)) × (l.text.items ≡ map (letter_at seed) (numbers l._letter (suc k)))
