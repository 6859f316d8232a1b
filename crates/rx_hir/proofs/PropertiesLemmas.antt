-- Lengths that are kept in 64 bits at each step are those that are kept in 64 bits at the end.
use Rattle.std.proofs.Common.{◌≡◌, ℕ, zero, suc, ◌*◌, ◌-◌, ◌^◌, ◌<◌, ◌≤◌, Option, Some, None, refl, ap, arith, cond, true, false}
use Rattle.std.specs.Prelude.{min, option_map, nat_lt, ◌≢◌}
use Rattle.std.proofs.Common.{inl, inr}
use Rattle.std.proofs.lemmas.Bool.{cases_lt}
use Rattle.std.proofs.lemmas.Bool.Decides.{nat_tests}
use Rattle.rx_model.specs.Length.{plus, lesser}
use Rattle.rx_hir.specs.Length.{times, greater, saturated, in_64_bits}

min-product-small : (k n c : ℕ) → k ≤ c → min (min k c * n) c ≡ min (k * n) c
min-product-small k n c le = let e : min k c ≡ k = omega arith in rw e

min-product-great : (k n c : ℕ) → c < k → min (min k c * n) c ≡ min (k * n) c
min-product-great k zero c lt = let e : min k c ≡ c = omega arith in rw e (omega arith)
min-product-great k (suc n) c lt = let e : min k c ≡ c = omega arith in rw e (omega arith)

min-product : (k n c : ℕ) → min (min k c * n) c ≡ min (k * n) c
min-product k n c = elim (cases_lt c k) [ inl lt ↦ min-product-great k n c lt | inr le ↦ min-product-small k n c le ]

pub saturated-product : (len : Option ℕ) (n : ℕ) → saturated (option_map (λ k. k * n) (saturated len)) ≡ saturated (option_map (λ k. k * n) len)
saturated-product None n = refl
saturated-product (Some k) n = ap Some (min-product k n (2 ^ 64 - 1))

product-above : (k n : ℕ) → 2 ^ 64 ≤ k → 2 ^ 64 ≤ k * suc n
product-above k n le = omega arith

pub in_64_bits-product : (len count : Option ℕ) → count ≢ Some 0 → in_64_bits (times (in_64_bits len) count) ≡ in_64_bits (times len count)
in_64_bits-product None count h = refl
in_64_bits-product (Some k) None h = elim (nat_lt k (2 ^ 64)) as (λ b. in_64_bits (times (cond b (Some k) None) None) ≡ None) [ true ↦ refl | false ↦ refl ]
in_64_bits-product (Some k) (Some zero) h = absurd (h refl)
in_64_bits-product (Some k) (Some (suc n)) h = let big = product-above k n in grind (arith, nat_tests)

pub saturated-sum : (a b : Option ℕ) → saturated (plus (saturated a) (saturated b)) ≡ saturated (plus a b)
saturated-sum None b = refl
saturated-sum (Some a) None = refl
saturated-sum (Some a) (Some b) = ap Some (omega arith)

pub in_64_bits-sum : (a b : Option ℕ) → in_64_bits (plus (in_64_bits a) (in_64_bits b)) ≡ in_64_bits (plus a b)
in_64_bits-sum None b = refl
in_64_bits-sum (Some a) None = elim (nat_lt a (2 ^ 64)) as (λ t. in_64_bits (plus (cond t (Some a) None) None) ≡ None) [ true ↦ refl | false ↦ refl ]
in_64_bits-sum (Some a) (Some b) = grind (arith, nat_tests)

saturated-lesser : (a b : Option ℕ) → lesser (saturated a) (saturated b) ≡ saturated (lesser a b)
saturated-lesser None b = refl
saturated-lesser (Some a) None = refl
saturated-lesser (Some a) (Some b) = ap Some (omega arith)

in_64_bits-greater : (a b : Option ℕ) → greater (in_64_bits a) (in_64_bits b) ≡ in_64_bits (greater a b)
in_64_bits-greater None b = refl
in_64_bits-greater (Some a) None = elim (nat_lt a (2 ^ 64)) as (λ t. greater (cond t (Some a) None) None ≡ None) [ true ↦ refl | false ↦ refl ]
in_64_bits-greater (Some a) (Some b) = grind (arith, nat_tests)
