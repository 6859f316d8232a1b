-- A class that is not infinite lists each member.
use Rattle.std.proofs.Common.{◌≡◌, ℕ, zero, suc, ◌+◌, ◌≤◌, ◌<◌, ◌⊎◌, true, ◌&&◌, List, [], ◌∷◌, ◌++◌, length, map, sym, ap, subst, inl, inr, arith, true≢false, length-append}
use Rattle.std.specs.Prelude.{nat_lt, nat_le, nat_eq}
use Rattle.std.specs.List.{flat_map}
use Rattle.std.specs.Char.{IsScalar}
use Rattle.std.proofs.lemmas.Bool.Decides.{nat_tests}
use Rattle.std.proofs.lemmas.List.{length-map}
use Rattle.rx_model.specs.Text.{is_member}
use Rattle.rx_model.proofs.lemmas.runs.RunLemmas.{by_test}
use Rattle.rx_class.specs.Ranges.{next_scalar, next_byte}
use Rattle.rx_literal.specs.Literals.{Literal, exact}
use Rattle.rx_literal.specs.Extract.{numbers, members, each_exact}
use Rattle.rx_literal.specs.Spans.{OneOf, OneIn}

-- x is one of the list
abbrev pub IsIn : {X : Type 0} → X → List X → Type 0
IsIn x [] = ⊥
IsIn x (y ∷ ys) = (y ≡ x) ⊎ IsIn x ys

is_in-left : (x : ℕ) (xs ys : List ℕ) → IsIn x xs → IsIn x (xs ++ ys)
is_in-left x [] ys h = absurd h
is_in-left x (y ∷ xs) ys h = elim h [ inl now ↦ inl now | inr later ↦ inr (is_in-left x xs ys later) ]

is_in-right : (x : ℕ) (xs ys : List ℕ) → IsIn x ys → IsIn x (xs ++ ys)
is_in-right x [] ys h = h
is_in-right x (y ∷ xs) ys h = inr (is_in-right x xs ys h)

is_in-map : (f : ℕ → List ℕ) (x : ℕ) (xs : List ℕ) → IsIn x xs → IsIn (f x) (map f xs)
is_in-map f x [] h = absurd h
is_in-map f x (y ∷ xs) h = elim h [ inl now ↦ inl (ap f now) | inr later ↦ inr (is_in-map f x xs later) ]

-- M tells which numbers `next` doesn't leave out
module _ (next : ℕ → ℕ) (M : ℕ → Type 0) (step : (low c : ℕ) → M c → low < c → next low ≤ c) where
  numbers-in : (n low high c : ℕ) → M c → low ≤ c → c ≤ high → IsIn c (numbers next n low high) ⊎ (n ≤ length (numbers next n low high))
  numbers-in zero low high c m le up = inr (omega arith)
  numbers-in (suc n) low high c m le up =
      let fits : nat_le low high ≡ true = grind (arith, nat_tests) in
      by_test (nat_eq low c)
      (λ e. let is : low ≡ c = grind (arith, nat_tests) in rw fits (inl (inl is)))
      (λ e.
      let lt : low < c = grind (arith, nat_tests) in
      let on : next low ≤ c = step low c m lt in
      rw fits (elim (numbers-in n (next low) high c m on up) [
        | inl there ↦ inl (inr there)
        | inr full ↦ inr (omega arith)
      ]))

  -- a member stands in the list, or some range fills it
  pub members-in : (n : ℕ) (rs : List (ℕ × ℕ)) (c : ℕ) → M c → is_member rs c ≡ true
      → IsIn c (flat_map (λ (r : ℕ × ℕ). numbers next n r.0 r.1) rs) ⊎ (n ≤ length (flat_map (λ (r : ℕ × ℕ). numbers next n r.0 r.1) rs))
  members-in n [] c m h = absurd (true≢false (sym h))
  members-in n (r ∷ rs) c m h =
      let now = numbers next n r.0 r.1 in
      let later = flat_map (λ (r : ℕ × ℕ). numbers next n r.0 r.1) rs in
      let long : length (now ++ later) ≡ length now + length later = length-append now later in
      by_test (nat_le r.0 c && nat_le c r.1)
      (λ e.
      let low : r.0 ≤ c = grind (arith, nat_tests) in
      let high : c ≤ r.1 = grind (arith, nat_tests) in
      elim (numbers-in n r.0 r.1 c m low high) [
        | inl there ↦ inl (is_in-left c now later there)
        | inr full ↦ inr (omega arith)
      ])
      (λ e. elim (members-in n rs c m (rw e at h)) [
        | inl there ↦ inl (is_in-right c now later there)
        | inr full ↦ inr (omega arith)
      ])

  pub class-in : (P : Literal → Type 0) (encode : ℕ → List ℕ) (rs : List (ℕ × ℕ)) (c : ℕ) → M c → is_member rs c ≡ true → P (exact (encode c))
      → OneIn P (each_exact (map encode (members next rs)))
  unfolding each_exact members
  class-in P encode rs c m h p =
      let ms = flat_map (λ (r : ℕ × ℕ). numbers next 11 r.0 r.1) rs in
      let long : length (map encode ms) ≡ length ms = length-map ms encode in
      by_test (nat_lt 10 (length (map encode ms)))
      (λ e. rw e tt)
      (λ e.
      let few : length ms ≤ 10 = grind (arith, nat_tests) in
      rw e (elim (members-in 11 rs c m h) [
        | inl there ↦ of_in (map encode ms) (is_in-map encode c ms there)
        | inr full ↦ absurd (omega arith)
      ]))
    where
      of_in : (bs : List (List ℕ)) → IsIn (encode c) bs → OneOf P (map exact bs)
      of_in [] x = absurd x
      of_in (b ∷ bs) x = elim x [ inl now ↦ inl (subst (λ y. P (exact y)) (sym now) p) | inr later ↦ inr (of_in bs later) ]

pub scalar_step : (low c : ℕ) → IsScalar c → low < c → next_scalar low ≤ c
scalar_step low c s lt = grind (arith, nat_tests)

pub byte_step : (low c : ℕ) → Unit {0} → low < c → next_byte low ≤ c
byte_step low c s lt = omega arith
