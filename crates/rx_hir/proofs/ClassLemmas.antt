-- The lengths of a class's members, from its first and its last range.
use Rattle.std.proofs.Common.{◌≡◌, ℕ, suc, ◌-◌, ◌<◌, ◌≤◌, Bool, true, false, ◌&&◌, refl, List, [], ◌∷◌, length, get_or, ap, sym, ◌∙◌, arith, Some, None}
use Rattle.std.specs.Prelude.{nat_le, nat_lt}
use Rattle.std.specs.Char.{IsScalar, len_utf8}
use Rattle.std.specs.List.{All, list_all}
use Rattle.std.proofs.lemmas.Bool.Decides.{nat_tests}
use Rattle.std.proofs.lemmas.List.Elements.{All-cons}
use Rattle.std.proofs.lemmas.Str.{len_utf8_bounds}
use Rattle.std.proofs.Math.Bool.{and-true}
use Rattle.rx_model.specs.Text.{scalar_ranges, byte_ranges}
use Rattle.rx_model.specs.Length.{shorter, shortest_of, shortest_scalar, shortest_byte}
use Rattle.rx_model.proofs.lemmas.meaning.LengthLemmas.{shortest-first, len_utf8-rises}
use Rattle.rx_hir.specs.Length.{longer, longest_of, longest_scalar, scalar_until, saturated, in_64_bits}
use Rattle.rx_model.specs.Expression.{class}
use Rattle.rx_hir.specs.PropertiesViews.{AreOf, AreSimple}
use Rattle.rx_hir.specs.declared.hir.properties.Properties.{Properties}
use Rattle.rx_class.specs.Ranges.{next_scalar, BeginPast, AreFewest, HaveScalarEnds, AreScalarRanges, AreByteRanges}
use Rattle.rx_class.proofs.SuccessorLemmas.{next_scalar-above}
use Rattle.rx_class.proofs.RangeLemmas.{past-weaker}

-- the ranges begin from n on
begin-from : (n : ℕ) (rs : List (ℕ × ℕ)) → BeginPast n rs → AreFewest next_scalar rs → All (λ (q : ℕ × ℕ). n ≤ q.0) rs
begin-from n [] past fewest = λ k d lt. absurd (omega arith)
begin-from n (r ∷ rs) past fewest =
    let above = next_scalar-above r.1 in
    All-cons (λ (q : ℕ × ℕ). n ≤ q.0) r rs (omega arith) (begin-from n rs (past-weaker n (next_scalar r.1) rs (omega (arith, fewest.0)) fewest.1) fewest.2)

pub shortest_scalar-first : (r : ℕ × ℕ) (rs : List (ℕ × ℕ)) → AreScalarRanges (r ∷ rs) → shortest_of shortest_scalar (r ∷ rs) ≡ Some (len_utf8 r.0)
shortest_scalar-first r rs h =
    let above = next_scalar-above r.1 in
    let ends = h.1 0 r (omega arith) in
    shortest-first r rs ends.0 h.0.0 (begin-from r.0 rs (past-weaker r.0 (next_scalar r.1) rs (omega (arith, h.0.0)) h.0.1) h.0.2)

longest_scalar-end : (r : ℕ × ℕ) → IsScalar r.1 → r.0 ≤ r.1 → longest_scalar r ≡ Some (len_utf8 r.1)
longest_scalar-end r s le =
    let end : scalar_until r.1 ≡ r.1 = grind (arith, nat_tests) in
    let fits : nat_le r.0 r.1 ≡ true = grind (arith, nat_tests) in
    rw (end, fits)

longest_scalar-rest : (r s : ℕ × ℕ) (rs : List (ℕ × ℕ)) → AreFewest next_scalar (r ∷ s ∷ rs) → r.1 ≤ s.1
longest_scalar-rest r s rs h = let above = next_scalar-above r.1 in omega (arith, h.1, h.2.0)

longer-greatest : (a b : ℕ) → a ≤ b → longer (Some a) (Some b) ≡ Some b
longer-greatest a b le = ap Some (omega arith)

pub longest_scalar-last : (r : ℕ × ℕ) (rs : List (ℕ × ℕ)) (d : ℕ × ℕ) → AreFewest next_scalar (r ∷ rs) → HaveScalarEnds (r ∷ rs)
    → (longest_of longest_scalar (r ∷ rs) ≡ Some (len_utf8 (get_or (r ∷ rs) (length rs) d).1)) × (r.1 ≤ (get_or (r ∷ rs) (length rs) d).1)
longest_scalar-last r [] d fewest ends =
    (ap (λ o. longer o None) (longest_scalar-end r (ends 0 r (omega arith)).1 fewest.0), omega arith)
longest_scalar-last r (s ∷ rs) d fewest ends =
    let later = longest_scalar-last s rs d fewest.2 (λ k e lt. ends (suc k) e (omega arith)) in
    let up = longest_scalar-rest r s rs fewest in
    let last = (get_or (s ∷ rs) (length rs) d).1 in
    let rises : r.1 ≤ last = omega (arith, later.1) in (
      ap (λ o. longer o (longest_of longest_scalar (s ∷ rs))) (longest_scalar-end r (ends 0 r (omega arith)).1 fewest.0)
          ∙ ap (λ o. longer (Some (len_utf8 r.1)) o) later.0
          ∙ longer-greatest (len_utf8 r.1) (len_utf8 last) (len_utf8-rises r.1 last rises),
      rises,
    )

small-saturated : (n : ℕ) → n ≤ 4 → saturated (Some n) ≡ Some n
small-saturated n le = ap Some (omega arith)

small-in_64_bits : (n : ℕ) → n ≤ 4 → in_64_bits (Some n) ≡ Some n
small-in_64_bits n le = grind (arith, nat_tests)

byte-len : (r : ℕ × ℕ) → r.0 ≤ r.1 → shortest_byte r ≡ Some 1
byte-len r le = let fits : nat_le r.0 r.1 ≡ true = grind (arith, nat_tests) in rw fits

bytes-shortest : (r : ℕ × ℕ) (rs : List (ℕ × ℕ)) → AreByteRanges (r ∷ rs) → shortest_of shortest_byte (r ∷ rs) ≡ Some 1
bytes-shortest r [] h = ap (λ o. shorter o None) (byte-len r h.0)
bytes-shortest r (s ∷ rs) h = ap (λ o. shorter o (shortest_of shortest_byte (s ∷ rs))) (byte-len r h.0) ∙ ap (shorter (Some 1)) (bytes-shortest s rs h.2)

bytes-longest : (r : ℕ × ℕ) (rs : List (ℕ × ℕ)) → AreByteRanges (r ∷ rs) → longest_of shortest_byte (r ∷ rs) ≡ Some 1
bytes-longest r [] h = ap (λ o. longer o None) (byte-len r h.0)
bytes-longest r (s ∷ rs) h = ap (λ o. longer o (longest_of shortest_byte (s ∷ rs))) (byte-len r h.0) ∙ ap (longer (Some 1)) (bytes-longest s rs h.2)

pub of-scalars : (rs : List (ℕ × ℕ)) (d : ℕ × ℕ) (p : Properties) (a b : ℕ) → 0 < length rs → AreScalarRanges rs
    → a ≡ len_utf8 (get_or rs 0 d).0 → b ≡ len_utf8 (get_or rs (length rs - 1) d).1
    → AreSimple (Some a) (Some b) true p → AreOf (class (scalar_ranges rs)) p
of-scalars [] d p a b some h first last s = absurd (omega arith)
of-scalars (r ∷ rs) d p a b some h first last s =
    let e : length (r ∷ rs) - 1 ≡ length rs = omega arith in
    let least : shortest_of shortest_scalar (r ∷ rs) ≡ Some a = shortest_scalar-first r rs h ∙ ap Some (sym first) in
    let final : b ≡ len_utf8 (get_or (r ∷ rs) (length rs) d).1 = (rw e at last) in
    let greatest : longest_of longest_scalar (r ∷ rs) ≡ Some b = (longest_scalar-last r rs d h.0 h.1).0 ∙ ap Some (sym final) in
    let small : a ≤ 4 = omega (arith, first, (len_utf8_bounds r.0).1) in
    let few : b ≤ 4 = omega (arith, final, (len_utf8_bounds (get_or (r ∷ rs) (length rs) d).1).1) in
    record {
      least = s.least_is ∙ sym (ap saturated least ∙ small-saturated a small);
      greatest = s.greatest_is ∙ sym (ap in_64_bits greatest ∙ small-in_64_bits b few);
      static_count = s.static_count;
      count = s.count;
      kinds = s.kinds;
      first_kinds = s.first_kinds;
      last_kinds = s.last_kinds;
      utf8 = s.utf8_is;
      one_literal = s.one_literal;
      literals = s.literals;
    }

byte-rest : (r s : ℕ × ℕ) (rs : List (ℕ × ℕ)) → AreByteRanges (r ∷ s ∷ rs) → r.1 ≤ s.1
byte-rest r s rs h = omega (arith, h.1, h.2.0)

-- where the last is below a number, all are
below-last : (r : ℕ × ℕ) (rs : List (ℕ × ℕ)) (d : ℕ × ℕ) → AreByteRanges (r ∷ rs)
    → (list_all (λ (q : ℕ × ℕ). nat_lt q.1 0x80) (r ∷ rs) ≡ nat_lt (get_or (r ∷ rs) (length rs) d).1 0x80) × (r.1 ≤ (get_or (r ∷ rs) (length rs) d).1)
below-last r [] d h = (and-true (nat_lt r.1 0x80), omega arith)
below-last r (s ∷ rs) d h =
    let later = below-last s rs d h.2 in
    let up = byte-rest r s rs h in
    let last = (get_or (s ∷ rs) (length rs) d).1 in
    let rises : r.1 ≤ last = omega (arith, later.1) in
    (ap (λ b. nat_lt r.1 0x80 && b) later.0 ∙ both r.1 last rises, rises)
  where
    both : (m n : ℕ) → m ≤ n → (nat_lt m 0x80 && nat_lt n 0x80) ≡ nat_lt n 0x80
    both m n le = grind (arith, nat_tests)

pub of-bytes : (rs : List (ℕ × ℕ)) (d : ℕ × ℕ) (p : Properties) → 0 < length rs → AreByteRanges rs
    → AreSimple (Some 1) (Some 1) (nat_lt (get_or rs (length rs - 1) d).1 0x80) p → AreOf (class (byte_ranges rs)) p
of-bytes [] d p some h s = absurd (omega arith)
of-bytes (r ∷ rs) d p some h s =
    let e : length (r ∷ rs) - 1 ≡ length rs = omega arith in
    let last : nat_lt (get_or (r ∷ rs) (length (r ∷ rs) - 1) d).1 0x80 ≡ nat_lt (get_or (r ∷ rs) (length rs) d).1 0x80 = rw e refl in
    record {
      least = s.least_is ∙ sym (ap saturated (bytes-shortest r rs h));
      greatest = s.greatest_is ∙ sym (ap in_64_bits (bytes-longest r rs h));
      static_count = s.static_count;
      count = s.count;
      kinds = s.kinds;
      first_kinds = s.first_kinds;
      last_kinds = s.last_kinds;
      utf8 = s.utf8_is ∙ last ∙ sym (below-last r rs d h).0;
      one_literal = s.one_literal;
      literals = s.literals;
    }
