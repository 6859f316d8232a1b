-- Bytes in their order, what lies outside fewest ranges of them, and the other case of letters.
use Rattle.std.proofs.Common.{◌≡◌, ℕ, ◌<◌, Bool, true, false, not, List, [], ◌∷◌, ◌++◌, refl, ◌∙◌, ap, sym, arith}
use Rattle.std.specs.Prelude.{◌&&◌, ◌||◌}
use Rattle.std.specs.List.{flat_map}
use Rattle.std.proofs.lemmas.Bool.Decides.{nat_tests}
use Rattle.std.proofs.lemmas.List.Folds.{list_any-append}
use Rattle.rx_model.specs.Text.{is_member}
use Rattle.rx_class.specs.Bytes.{previous_byte, byte_complement, is_upper, is_lower, other_case, other_cases, byte_folded}
use Rattle.rx_class.specs.Ranges.{next_byte, fewest, AreByteRanges}
use Rattle.rx_class.proofs.OutsideLemmas.{IsOrder, IsOutside, outside-holds}
use Rattle.rx_class.proofs.RangeLemmas.{inside, fewest-members, fewest-fewest}
use Rattle.rx_class.proofs.SuccessorLemmas.{bytes-succeed, IsAny, ends-any}

bytes-ordered : IsOrder next_byte previous_byte 0xFF IsAny IsAny
bytes-ordered = record {
  successor = bytes-succeed;
  next_previous = λ c is more. omega arith;
  previous_counts = λ c is more. tt;
  previous_from = λ low c may lt. omega arith;
  begins_before = λ low c may is lt. tt;
  begins_within = λ low may le. tt;
  next_begins = λ c is. tt;
  zero_begins = tt;
  greatest_counts = tt;
}

-- Complements.

complement-outside : (rs : List (ℕ × ℕ)) → AreByteRanges rs → IsOutside next_byte previous_byte 0xFF IsAny IsAny bytes-ordered 0 rs (byte_complement rs)
complement-outside rs h = outside-holds next_byte previous_byte 0xFF IsAny IsAny bytes-ordered rs (ends-any rs) h

pub AreByteRanges-complement : (rs : List (ℕ × ℕ)) → AreByteRanges rs → AreByteRanges (byte_complement rs)
AreByteRanges-complement rs h = (complement-outside rs h).are_fewest

pub byte_complement-members : (rs : List (ℕ × ℕ)) → AreByteRanges rs → (b : ℕ) → b < 256 → is_member (byte_complement rs) b ≡ not (is_member rs b)
byte_complement-members rs h b lt = (complement-outside rs h).members b tt (omega arith) (omega arith)

-- The other case.

abbrev is_letter : ℕ → Bool
is_letter b = is_upper b || is_lower b

other_cases-members : (r : ℕ × ℕ) (b : ℕ) → is_member (other_cases r) b ≡ (is_letter b && inside r (other_case b))
other_cases-members r b = grind (arith, nat_tests)

and-or : (x y z : Bool) → ((x && y) || (x && z)) ≡ (x && (y || z))
and-or true y z = refl
and-or false y z = refl

and-false : (x : Bool) → false ≡ (x && false)
and-false true = refl
and-false false = refl

all_cases-members : (rs : List (ℕ × ℕ)) (b : ℕ) → is_member (flat_map other_cases rs) b ≡ (is_letter b && is_member rs (other_case b))
all_cases-members [] b = and-false (is_letter b)
all_cases-members (r ∷ rs) b =
    list_any-append _ (other_cases r) (flat_map other_cases rs)
    ∙ ap (λ x. x || is_member (flat_map other_cases rs) b) (other_cases-members r b)
    ∙ ap (λ x. (is_letter b && inside r (other_case b)) || x) (all_cases-members rs b)
    ∙ and-or (is_letter b) (inside r (other_case b)) (is_member rs (other_case b))

or-itself : (x : Bool) → (x || false) ≡ (x || x)
or-itself true = refl
or-itself false = refl

letter-cases : (rs : List (ℕ × ℕ)) (b : ℕ) (letter : Bool) → is_letter b ≡ letter
    → (is_member rs b || (letter && is_member rs (other_case b))) ≡ (is_member rs b || is_member rs (other_case b))
letter-cases rs b true is = refl
letter-cases rs b false is =
    let same : other_case b ≡ b = grind (arith, nat_tests) in
    or-itself (is_member rs b) ∙ ap (λ n. is_member rs b || is_member rs n) (sym same)

pub byte_folded-is : (rs : List (ℕ × ℕ)) → fewest next_byte (rs ++ flat_map other_cases rs) ≡ byte_folded rs
unfolding byte_folded
byte_folded-is rs = refl

pub byte_folded-members : (rs : List (ℕ × ℕ)) (b : ℕ) → is_member (byte_folded rs) b ≡ (is_member rs b || is_member rs (other_case b))
unfolding byte_folded
byte_folded-members rs b =
    fewest-members next_byte IsAny bytes-succeed (rs ++ flat_map other_cases rs) (ends-any (rs ++ flat_map other_cases rs)) b tt
    ∙ list_any-append _ rs (flat_map other_cases rs)
    ∙ ap (λ x. is_member rs b || x) (all_cases-members rs b)
    ∙ letter-cases rs b (is_letter b) refl

pub AreByteRanges-folded : (rs : List (ℕ × ℕ)) → AreByteRanges (byte_folded rs)
unfolding byte_folded
AreByteRanges-folded rs = fewest-fewest next_byte IsAny bytes-succeed (rs ++ flat_map other_cases rs)
