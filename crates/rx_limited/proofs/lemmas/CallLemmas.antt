-- The calls of a search, one byte after another, and the place where it stops.
use Rattle.std.proofs.Common.{◌≡◌, ℕ, zero, suc, ◌+◌, ◌<◌, refl, ap, arith}
use Rattle.std.specs.Prelude.{true, false, Some, if◌then◌else◌}
use Rattle.rx_nfa.specs.Automaton.{Surroundings}
use Rattle.rx_determinize.specs.Key.{Key, is_dead}
use Rattle.rx_dfa.specs.Automaton.{Dfa, next_key}
use Rattle.rx_dfa.proofs.lemmas.HeldLemmas.{dead-after}
use Rattle.rx_limited.specs.Calls.{calls}
use Rattle.rx_limited.specs.Stopat.{left_dead}

module _ (d : Dfa) (around : Surroundings) where
  pub calls-step : (n i : ℕ) (k : Key) → is_dead k ≡ false → calls d around (suc n) i k ≡ suc (calls d around n (i + 1) (next_key d k (around.byte i)))
  unfolding calls
  calls-step n i k alive = ap (λ b. if b then 0 else suc (calls d around n (i + 1) (next_key d k (around.byte i)))) alive

  pub calls-last : (i : ℕ) (k : Key) → is_dead k ≡ false → calls d around 0 i k ≡ 1
  unfolding calls
  calls-last i k alive = ap (λ b. if b then 0 else 1) alive

  pub calls-dead : (n i : ℕ) (k : Key) → is_dead k ≡ true → calls d around n i k ≡ 0
  unfolding calls
  calls-dead zero i k dead = ap (λ b. if b then 0 else 1) dead
  calls-dead (suc n) i k dead = ap (λ b. if b then 0 else suc (calls d around n (i + 1) (next_key d k (around.byte i)))) dead

  pub calls-some : (n i : ℕ) (k : Key) → is_dead k ≡ false → 0 < calls d around n i k
  calls-some zero i k alive = let e = calls-last i k alive in omega (arith, e)
  calls-some (suc n) i k alive = let e = calls-step n i k alive in omega (arith, e)

  pub left-on : (n i : ℕ) (k : Key) → is_dead (next_key d k (around.byte i)) ≡ false
      → left_dead d around (suc n) i k ≡ left_dead d around n (i + 1) (next_key d k (around.byte i))
  unfolding left_dead
  left-on n i k alive = ap (λ b. if b then i else left_dead d around n (i + 1) (next_key d k (around.byte i))) alive

  pub left-here : (n i : ℕ) (k : Key) → is_dead (next_key d k (around.byte i)) ≡ true → left_dead d around (suc n) i k ≡ i
  unfolding left_dead
  left-here n i k dead = ap (λ b. if b then i else left_dead d around n (i + 1) (next_key d k (around.byte i))) dead

  pub left-end : (i : ℕ) (k : Key) → left_dead d around 0 i k ≡ i
  unfolding left_dead
  left-end i k = refl

  -- a dead key stays dead
  pub left-first : (n i : ℕ) (k : Key) → is_dead k ≡ true → left_dead d around n i k ≡ i
  left-first zero i k dead = left-end i k
  left-first (suc n) i k dead = left-here n i k (dead-after d k dead (Some (around.byte i)))
