-- The scalars that pass a test, as a class: it holds them and no others, and no other fewest ranges do.
use Rattle.std.proofs.Common.{◌≡◌, ℕ, zero, suc, ◌≤◌, ◌≢◌, Bool, true, false, List, [], ◌∷◌, Some, None, refl, ap, sym, ◌∙◌, subst, arith, inl, inr}
use Rattle.std.specs.Prelude.{nat_le, nat_lt, ◌&&◌, ◌||◌, if◌then◌else◌}
use Rattle.std.specs.Char.{IsScalar}
use Rattle.std.proofs.Math.Utf8.{scalar_cases}
use lib.Utf8.{scalar}
use Rattle.std.proofs.lemmas.Bool.{cases_lt, false≢true, and_parts}
use Rattle.std.proofs.lemmas.Bool.Decides.{nat_tests}
use Rattle.std.proofs.lemmas.List.Folds.{list_any-append}
use Rattle.std.proofs.Math.Bool.{or-false}
use Rattle.rx_model.specs.Text.{is_member}
use Rattle.rx_class.specs.Ranges.{next_scalar, fewest, AreScalarRanges}
use Rattle.rx_class.proofs.RangeLemmas.{Ends, fewest-members, fewest-fewest, fewest-ends, fewest-unique}
use Rattle.rx_class.proofs.SuccessorLemmas.{scalars-succeed, ends-from-scalars, scalars-from-ends}
use Rattle.unicode.specs.Rows.{in_ranges, HasExactly}
use Rattle.rx_sets.specs.Members.{points_below, scalars_where}
use Rattle.rx_sets.specs.Clipped.{is_surrogate, last_scalar, from_first, clipped, all_clipped}
use Rattle.rx_class.proofs.FoldLemmas.{ends-append}

abbrev inside : ℕ → ℕ → ℕ → Bool
inside low high c = nat_le low c && nat_le c high

-- The points that pass a test.

point-ends : (p : ℕ → Bool) (n : ℕ) (b : Bool) (rest : List (ℕ × ℕ)) → (scalar n && p n) ≡ b → Ends IsScalar rest
    → Ends IsScalar (if b then (n, n) ∷ rest else rest)
point-ends p n true rest e ends = let is : scalar n ≡ true = (and_parts (scalar n) (p n) e).0 in (is, is, ends)
point-ends p n false rest e ends = ends

points-ends : (p : ℕ → Bool) (n : ℕ) → Ends IsScalar (points_below p n)
unfolding points_below
points-ends p zero = tt
points-ends p (suc n) = point-ends p n (scalar n && p n) (points_below p n) refl (points-ends p n)

point-at : (c : ℕ) (s v : Bool) (rest : List (ℕ × ℕ)) → s ≡ true → is_member rest c ≡ (nat_lt c c && v)
    → is_member (if s && v then (c, c) ∷ rest else rest) c ≡ (nat_lt c (suc c) && v)
point-at c true true rest is e =
    let within : inside c c c ≡ true = grind (arith, nat_tests) in
    let below : nat_lt c (suc c) ≡ true = grind (arith, nat_tests) in
    ap (λ b. b || is_member rest c) within ∙ sym (ap (λ b. b && true) below)
point-at c true false rest is e =
    let above : nat_lt c c ≡ false = grind (arith, nat_tests) in
    let below : nat_lt c (suc c) ≡ true = grind (arith, nat_tests) in
    e ∙ ap (λ b. b && false) above ∙ sym (ap (λ b. b && false) below)
point-at c false v rest is e = absurd (false≢true is)

point-apart : (n c : ℕ) (b v : Bool) (rest : List (ℕ × ℕ)) → n ≢ c → is_member rest c ≡ (nat_lt c n && v)
    → is_member (if b then (n, n) ∷ rest else rest) c ≡ (nat_lt c (suc n) && v)
point-apart n c true v rest ne e =
    let without : inside n n c ≡ false = grind (arith, nat_tests) in
    let same : nat_lt c n ≡ nat_lt c (suc n) = grind (arith, nat_tests) in
    ap (λ b. b || is_member rest c) without ∙ e ∙ ap (λ b. b && v) same
point-apart n c false v rest ne e =
    let same : nat_lt c n ≡ nat_lt c (suc n) = grind (arith, nat_tests) in
    e ∙ ap (λ b. b && v) same

point-members : (p : ℕ → Bool) (n c : ℕ) (rest : List (ℕ × ℕ)) → scalar c ≡ true → is_member rest c ≡ (nat_lt c n && p c)
    → is_member (if scalar n && p n then (n, n) ∷ rest else rest) c ≡ (nat_lt c (suc n) && p c)
point-members p n c rest is e = elim (cases_lt c n) [
  | inl lt ↦ point-apart n c (scalar n && p n) (p c) rest (omega arith) e
  | inr le ↦ elim (cases_lt n c) [
    | inl lt ↦ point-apart n c (scalar n && p n) (p c) rest (omega arith) e
    | inr ge ↦
        let same : c ≡ n = omega arith in
        subst (λ m. is_member rest c ≡ (nat_lt c m && p c) → is_member (if scalar m && p m then (m, m) ∷ rest else rest) c ≡ (nat_lt c (suc m) && p c))
        same (point-at c (scalar c) (p c) rest is) e
  ]
]

points-members : (p : ℕ → Bool) (n c : ℕ) → scalar c ≡ true → is_member (points_below p n) c ≡ (nat_lt c n && p c)
unfolding points_below
points-members p zero c is = let none : nat_lt c zero ≡ false = grind (arith, nat_tests) in sym (ap (λ b. b && p c) none)
points-members p (suc n) c is = point-members p n c (points_below p n) is (points-members p n c is)

pub scalars_where-ranges : (p : ℕ → Bool) → AreScalarRanges (scalars_where p)
unfolding scalars_where
scalars_where-ranges p =
    let points = points_below p 0x110000 in (
      fewest-fewest next_scalar IsScalar scalars-succeed points,
      scalars-from-ends (fewest next_scalar points) (fewest-ends next_scalar IsScalar scalars-succeed points (points-ends p 0x110000)),
    )

pub scalars_where-members : (p : ℕ → Bool) (c : ℕ) → IsScalar c → is_member (scalars_where p) c ≡ p c
unfolding scalars_where
scalars_where-members p c is =
    let below : nat_lt c 0x110000 ≡ true = elim (scalar_cases c is) [ inl low ↦ grind (arith, nat_tests) | inr high ↦ grind (arith, nat_tests, high.1) ] in
    fewest-members next_scalar IsScalar scalars-succeed (points_below p 0x110000) (points-ends p 0x110000) c is
    ∙ points-members p 0x110000 c is
    ∙ ap (λ b. b && p c) below

-- the only fewest ranges with these members
pub scalars_where-only : (p : ℕ → Bool) (rs : List (ℕ × ℕ)) → AreScalarRanges rs → ((c : ℕ) → IsScalar c → is_member rs c ≡ p c) → rs ≡ scalars_where p
scalars_where-only p rs h same =
    let other = scalars_where-ranges p in
    fewest-unique next_scalar IsScalar scalars-succeed rs (scalars_where p) h.0 other.0 (ends-from-scalars rs h.1) (ends-from-scalars (scalars_where p) other.1)
    (λ c is. same c is ∙ sym (scalars_where-members p c is))

-- Ranges of code points.

last-same : (high c : ℕ) (s t : Bool) → is_surrogate high ≡ s → nat_lt 0x10FFFF high ≡ t → IsScalar c
    → nat_le c (if s then 0xD7FF else if t then 0x10FFFF else high) ≡ nat_le c high
last-same high c true t e f is = elim (scalar_cases c is) [ inl low ↦ grind (arith, nat_tests) | inr up ↦ grind (arith, nat_tests, up.0, up.1) ]
last-same high c false true e f is = elim (scalar_cases c is) [ inl low ↦ grind (arith, nat_tests) | inr up ↦ grind (arith, nat_tests, up.0, up.1) ]
last-same high c false false e f is = refl

first-same : (low c last : ℕ) (s t : Bool) → is_surrogate low ≡ s → nat_lt 0x10FFFF low ≡ t → IsScalar c
    → is_member (from_first (if s then Some 0xE000 else if t then None else Some low) last) c ≡ inside low last c
first-same low c last true t e f is =
    let begins : nat_le 0xE000 c ≡ nat_le low c =
    elim (scalar_cases c is) [ inl under ↦ grind (arith, nat_tests) | inr up ↦ grind (arith, nat_tests, up.0, up.1) ] in
    or-false (inside 0xE000 last c) ∙ ap (λ b. b && nat_le c last) begins
first-same low c last false true e f is =
    let above : nat_le low c ≡ false = elim (scalar_cases c is) [ inl under ↦ grind (arith, nat_tests) | inr up ↦ grind (arith, nat_tests, up.0, up.1) ] in
    sym (ap (λ b. b && nat_le c last) above)
first-same low c last false false e f is = or-false (inside low last c)

clipped-members : (low high c : ℕ) → IsScalar c → is_member (clipped low high) c ≡ inside low high c
clipped-members low high c is =
    first-same low c (last_scalar high) (is_surrogate low) (nat_lt 0x10FFFF low) refl refl is
    ∙ ap (λ b. nat_le low c && b) (last-same high c (is_surrogate high) (nat_lt 0x10FFFF high) refl refl is)

last-scalar : (high : ℕ) (s t : Bool) → is_surrogate high ≡ s → nat_lt 0x10FFFF high ≡ t → IsScalar (if s then 0xD7FF else if t then 0x10FFFF else high)
last-scalar high true t e f = refl
last-scalar high false true e f = refl
last-scalar high false false e f = grind (arith, nat_tests)

first-ends : (low last : ℕ) (s t : Bool) → is_surrogate low ≡ s → nat_lt 0x10FFFF low ≡ t → IsScalar last
    → Ends IsScalar (from_first (if s then Some 0xE000 else if t then None else Some low) last)
first-ends low last true t e f is = (refl, is, tt)
first-ends low last false true e f is = tt
first-ends low last false false e f is = let own : IsScalar low = grind (arith, nat_tests) in (own, is, tt)

clipped-ends : (low high : ℕ) → Ends IsScalar (clipped low high)
clipped-ends low high =
    first-ends low (last_scalar high) (is_surrogate low) (nat_lt 0x10FFFF low) refl refl
    (last-scalar high (is_surrogate high) (nat_lt 0x10FFFF high) refl refl)

all_clipped-ends : (rs : List (ℕ × ℕ)) → Ends IsScalar (all_clipped rs)
all_clipped-ends [] = tt
all_clipped-ends (r ∷ rs) = ends-append (clipped r.0 r.1) (all_clipped rs) (clipped-ends r.0 r.1) (all_clipped-ends rs)

all_clipped-members : (rs : List (ℕ × ℕ)) (c : ℕ) → IsScalar c → is_member (all_clipped rs) c ≡ in_ranges rs c
unfolding in_ranges
all_clipped-members [] c is = refl
all_clipped-members (r ∷ rs) c is =
    list_any-append (λ (q : ℕ × ℕ). inside q.0 q.1 c) (clipped r.0 r.1) (all_clipped rs)
    ∙ ap (λ b. b || is_member (all_clipped rs) c) (clipped-members r.0 r.1 c is)
    ∙ ap (λ b. inside r.0 r.1 c || b) (all_clipped-members rs c is)

-- the class of ranges that hold exactly what passes a test
pub class-of : (ranges : List (ℕ × ℕ)) (p : ℕ → Bool) → HasExactly ranges p → fewest next_scalar (all_clipped ranges) ≡ scalars_where p
class-of ranges p has =
    let scalars = all_clipped ranges in
    let ends = all_clipped-ends ranges in
    scalars_where-only p (fewest next_scalar scalars) (
      fewest-fewest next_scalar IsScalar scalars-succeed scalars,
      scalars-from-ends (fewest next_scalar scalars) (fewest-ends next_scalar IsScalar scalars-succeed scalars ends),
    )
    (λ c is. fewest-members next_scalar IsScalar scalars-succeed scalars ends c is ∙ all_clipped-members ranges c is ∙ has c (at-most c is))
  where
    at-most : (c : ℕ) → IsScalar c → c ≤ 0x10FFFF
    at-most c is = elim (scalar_cases c is) [ inl low ↦ omega arith | inr high ↦ omega arith ]
