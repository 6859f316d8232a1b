-- Scalars in their order, and what lies outside fewest ranges of them.
use Rattle.std.proofs.Common.{◌≡◌, ℕ, ◌<◌, ◌≤◌, not, List, [], arith, inl, inr}
use Rattle.std.specs.Char.{IsScalar}
use Rattle.std.proofs.Math.Utf8.{scalar_cases}
use Rattle.std.proofs.lemmas.Bool.Decides.{nat_tests}
use Rattle.std.proofs.lemmas.List.Elements.{All-nil}
use Rattle.rx_model.specs.Text.{is_member}
use Rattle.rx_class.specs.Ranges.{next_scalar, AreScalarRanges}
use Rattle.rx_class.specs.Scalars.{previous_scalar, complement}
use Rattle.rx_class.proofs.OutsideLemmas.{IsOrder, IsOutside, outside-holds}
use Rattle.rx_class.proofs.SuccessorLemmas.{scalars-succeed, ends-from-scalars, scalars-from-ends}

-- no surrogate
abbrev IsApart : ℕ → Type 0
IsApart c = 0xD7FF < c → 0xE000 ≤ c

scalar-apart : (c : ℕ) → IsScalar c → IsApart c
scalar-apart c is = λ lt. elim (scalar_cases c is) [ inl low ↦ absurd (omega arith) | inr high ↦ high.0 ]

scalar-below : (c : ℕ) → IsScalar c → c < 0x110000
scalar-below c is = elim (scalar_cases c is) [ inl low ↦ omega arith | inr high ↦ high.1 ]

scalar-of : (c : ℕ) → IsApart c → c < 0x110000 → IsScalar c
scalar-of c apart lt = grind (arith, nat_tests)

pub AreScalarRanges-none : AreScalarRanges []
AreScalarRanges-none = (tt, All-nil (λ (r : ℕ × ℕ). IsScalar r.0 × IsScalar r.1))

-- The order.

previous_scalar-from : (low c : ℕ) → IsApart low → low < c → low ≤ previous_scalar c
previous_scalar-from low c apart lt = grind (arith, nat_tests)

next_scalar-previous : (c : ℕ) → IsApart c → 0 < c → next_scalar (previous_scalar c) ≡ c
next_scalar-previous c apart more = grind (arith, nat_tests)

next_scalar-apart : (c : ℕ) → IsApart c → IsApart (next_scalar c)
next_scalar-apart c apart = λ lt. grind (arith, nat_tests)

previous_scalar-apart : (c : ℕ) → IsApart c → IsApart (previous_scalar c)
previous_scalar-apart c apart = λ lt. grind (arith, nat_tests)

previous_scalar-below : (c : ℕ) → c < 0x110000 → previous_scalar c < 0x110000
previous_scalar-below c lt = grind (arith, nat_tests)

scalars-ordered : IsOrder next_scalar previous_scalar 0x10FFFF IsScalar IsApart
scalars-ordered = record {
  successor = scalars-succeed;
  next_previous = λ c is more. next_scalar-previous c (scalar-apart c is) more;
  previous_counts = λ c is more. scalar-of (previous_scalar c) (previous_scalar-apart c (scalar-apart c is)) (previous_scalar-below c (scalar-below c is));
  previous_from = previous_scalar-from;
  begins_before = λ low c apart is lt. let bound = scalar-below c is in scalar-of low apart (omega arith);
  begins_within = λ low apart le. scalar-of low apart (omega arith);
  next_begins = λ c is. next_scalar-apart c (scalar-apart c is);
  zero_begins = λ lt. absurd (omega arith);
  greatest_counts = scalar-of 0x10FFFF (λ lt. omega arith) (omega arith);
}

-- Complements.

complement-outside : (rs : List (ℕ × ℕ)) → AreScalarRanges rs → IsOutside next_scalar previous_scalar 0x10FFFF IsScalar IsApart scalars-ordered 0 rs
    (complement rs)
complement-outside rs h = outside-holds next_scalar previous_scalar 0x10FFFF IsScalar IsApart scalars-ordered rs (ends-from-scalars rs h.1) h.0

pub AreScalarRanges-complement : (rs : List (ℕ × ℕ)) → AreScalarRanges rs → AreScalarRanges (complement rs)
AreScalarRanges-complement rs h =
    let held = complement-outside rs h in
    (held.are_fewest, scalars-from-ends (complement rs) held.ends)

pub complement-members : (rs : List (ℕ × ℕ)) → AreScalarRanges rs → (c : ℕ) → IsScalar c → is_member (complement rs) c ≡ not (is_member rs c)
complement-members rs h c is =
    let bound = scalar-below c is in
    (complement-outside rs h).members c is (omega arith) (omega arith)
