-- Sets in the bits of a number of 32 bits: one member more, and the least one less.
use Rattle.std.proofs.Common.{◌≡◌, ◌≢◌, ℕ, zero, suc, ◌*◌, ◌%◌, ◌^◌, ◌<◌, ◌==◌, if◌then◌else◌, bit_and, bit_or, w32, sym, ◌∙◌, ap, ⊎_elim, arith}
use Rattle.std.specs.Int.{bit_at, bit_not, trailing_zeros}
use Rattle.std.specs.Int.Bits.{and_lt}
use Rattle.std.proofs.lemmas.Bool.{cases_lt}
use Rattle.std.proofs.lemmas.Bool.Decides.{nat_tests}
use Rattle.std.proofs.lemmas.Nat.Bits.{bit_at_set_same, bit_at_set_other, bit_at_clear_same, bit_at_clear_other, bit_at-trailing_zeros, bit_at_above}
use Rattle.std.proofs.lemmas.Nat.{or_lt, and_le_l}
use Rattle.rx_model.proofs.lemmas.runs.RunLemmas.{by_test}

-- the set with the member k
pub with_bit : (set k i : ℕ) → k < 32 → bit_at (bit_or set (1 * 2 ^ k % 2 ^ 32)) i ≡ (if i == k then 1 else bit_at set i)
with_bit set k i within =
    by_test (i == k)
    (λ e. let same : i ≡ k = grind (arith, nat_tests) in rw e (ap (bit_at (bit_or set (1 * 2 ^ k % 2 ^ 32))) same ∙ bit_at_set_same w32 set k within))
    (λ e. let apart : i ≢ k = grind (arith, nat_tests) in rw e (bit_at_set_other w32 set k within i apart))

small-bit : (k : ℕ) → k < 10 → 1 * 2 ^ k % 2 ^ 32 < 2 ^ 10
small-bit zero h = omega arith
small-bit (suc zero) h = omega arith
small-bit (suc (suc zero)) h = omega arith
small-bit (suc (suc (suc zero))) h = omega arith
small-bit (suc (suc (suc (suc zero)))) h = omega arith
small-bit (suc (suc (suc (suc (suc zero))))) h = omega arith
small-bit (suc (suc (suc (suc (suc (suc zero)))))) h = omega arith
small-bit (suc (suc (suc (suc (suc (suc (suc zero))))))) h = omega arith
small-bit (suc (suc (suc (suc (suc (suc (suc (suc zero)))))))) h = omega arith
small-bit (suc (suc (suc (suc (suc (suc (suc (suc (suc zero))))))))) h = omega arith
small-bit (suc (suc (suc (suc (suc (suc (suc (suc (suc (suc k)))))))))) h = absurd (omega arith)

-- a set of members below 10 stays one
pub with_bit-small : (set k : ℕ) → set < 2 ^ 10 → k < 10 → bit_or set (1 * 2 ^ k % 2 ^ 32) < 2 ^ 10
with_bit-small set k fits within = or_lt 10 set (1 * 2 ^ k % 2 ^ 32) fits (small-bit k within)

not-one : {n : ℕ} → n ≡ 0 → n ≡ 1 → ⊥
not-one none one = omega arith

-- a set that is not empty
module _ (set : ℕ) (some : 0 < set) (fits : set < 2 ^ 32) where
  abbrev pub least : ℕ
  least = trailing_zeros w32 set

  -- the set without its least member
  abbrev pub others : ℕ
  others = bit_and set (bit_not w32 (1 * 2 ^ least % 2 ^ 32))

  pub least-small : least < 32
  least-small = (bit_at-trailing_zeros w32 set some fits).0

  pub least-in : bit_at set least ≡ 1
  least-in = (bit_at-trailing_zeros w32 set some fits).1

  pub none-below : (i : ℕ) → i < least → bit_at set i ≡ 0
  none-below = (bit_at-trailing_zeros w32 set some fits).2

  pub others-small : others < 2 ^ 32
  others-small = and_lt 32 set (bit_not w32 (1 * 2 ^ least % 2 ^ 32)) fits (omega arith)

  pub least-out : bit_at others least ≡ 0
  least-out = bit_at_clear_same w32 set least least-small

  pub others-same : (i : ℕ) → i ≢ least → bit_at others i ≡ bit_at set i
  others-same i apart =
      ⊎_elim
      (λ lt. bit_at_clear_other w32 set least least-small i lt apart)
      (λ above. bit_at_above others 32 i others-small above ∙ sym (bit_at_above set 32 i fits above))
      (cases_lt i 32)

  pub others-fewer : others < set
  others-fewer =
      ⊎_elim
      (λ lt. lt)
      (λ above.
      let fewer = and_le_l set (bit_not w32 (1 * 2 ^ least % 2 ^ 32)) in
      let same : others ≡ set = omega arith in
      absurd (not-one least-out (ap (λ s. bit_at s least) same ∙ least-in)))
      (cases_lt others set)

  pub others-apart : (i : ℕ) → bit_at others i ≡ 1 → i ≢ least
  others-apart i bit e = not-one least-out (ap (bit_at others) (sym e) ∙ bit)
