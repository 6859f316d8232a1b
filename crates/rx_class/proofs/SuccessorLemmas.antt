-- The scalar after a scalar, and the byte after a byte.
use Rattle.std.proofs.Common.{◌≡◌, ℕ, suc, ◌<◌, ◌≤◌, List, [], ◌∷◌, arith}
use Rattle.std.specs.Prelude.{nat_le, ◌&&◌}
use Rattle.std.specs.Char.{IsScalar}
use Rattle.std.proofs.lemmas.Bool.Decides.{nat_tests}
use Rattle.std.proofs.lemmas.List.Elements.{All-nil, All-cons}
use Rattle.std.specs.List.Sorted.{IsPermutation, IsNonDecreasingBy}
use Rattle.std.proofs.lemmas.List.Sorted.{IsPermutation-sym, All-permutation, list_any-IsPermutation}
use Rattle.rx_class.specs.Ranges.{next_scalar, next_byte, fewest, HaveScalarEnds, AreScalarRanges, AreByteRanges}
use Rattle.rx_class.specs.Merged.{add_all}
use Rattle.rx_class.proofs.MergeLemmas.{rise-sorted, add_all-fewest}
use Rattle.rx_class.proofs.RangeLemmas.{IsSuccessor, Ends}

pub next_scalar-above : (c : ℕ) → c < next_scalar c
next_scalar-above c = grind (arith, nat_tests)

next_scalar-between : (m n : ℕ) → IsScalar m → IsScalar n → m < n → next_scalar m ≤ n
next_scalar-between m n first second lt = grind (arith, nat_tests)

next_scalar-counts : (m n : ℕ) → IsScalar m → IsScalar n → m < n → IsScalar (next_scalar m)
next_scalar-counts m n first second lt = grind (arith, nat_tests)

pub scalars-succeed : IsSuccessor next_scalar IsScalar
scalars-succeed = record { above = next_scalar-above; between = next_scalar-between; counts = next_scalar-counts }

-- every number counts
abbrev pub IsAny : ℕ → Type 0
IsAny n = Unit {0}

pub bytes-succeed : IsSuccessor next_byte IsAny
bytes-succeed = record { above = λ n. omega arith; between = λ m n first second lt. omega arith; counts = λ m n first second lt. tt }

pub ends-any : (rs : List (ℕ × ℕ)) → Ends IsAny rs
ends-any [] = tt
ends-any (r ∷ rs) = (tt, tt, ends-any rs)

pub ends-from-scalars : (rs : List (ℕ × ℕ)) → HaveScalarEnds rs → Ends IsScalar rs
ends-from-scalars [] h = tt
ends-from-scalars (r ∷ rs) h =
    let own = h 0 r (omega arith) in
    (own.0, own.1, ends-from-scalars rs (λ k d lt. h (suc k) d (omega arith)))

pub scalars-from-ends : (rs : List (ℕ × ℕ)) → Ends IsScalar rs → HaveScalarEnds rs
scalars-from-ends [] ends = All-nil (λ (r : ℕ × ℕ). IsScalar r.0 × IsScalar r.1)
scalars-from-ends (r ∷ rs) ends = All-cons (λ (r : ℕ × ℕ). IsScalar r.0 × IsScalar r.1) r rs (ends.0, ends.1) (scalars-from-ends rs ends.2)

-- Sorted ranges, added one by one, are the fewest ranges of the unsorted ones.

pub sorted-scalars : (ranges sorted : List (ℕ × ℕ)) → IsPermutation ranges sorted → IsNonDecreasingBy (λ (r : ℕ × ℕ). r.0) sorted → HaveScalarEnds sorted
    → AreScalarRanges (add_all next_scalar [] sorted) × (add_all next_scalar [] sorted ≡ fewest next_scalar ranges)
sorted-scalars ranges sorted moved up ends =
    let before : HaveScalarEnds ranges =
    All-permutation (λ (r : ℕ × ℕ). IsScalar r.0 × IsScalar r.1) sorted ranges (IsPermutation-sym ranges sorted moved) ends in
    let held =
    add_all-fewest next_scalar IsScalar scalars-succeed sorted ranges (rise-sorted 0 sorted (λ d lt. omega arith) up) (ends-from-scalars sorted ends)
    (ends-from-scalars ranges before)
    (λ n. list_any-IsPermutation (λ (r : ℕ × ℕ). nat_le r.0 n && nat_le n r.1) ranges sorted moved) in
    ((held.0, scalars-from-ends (add_all next_scalar [] sorted) held.1), held.2)

pub sorted-bytes : (ranges sorted : List (ℕ × ℕ)) → IsPermutation ranges sorted → IsNonDecreasingBy (λ (r : ℕ × ℕ). r.0) sorted
    → AreByteRanges (add_all next_byte [] sorted) × (add_all next_byte [] sorted ≡ fewest next_byte ranges)
sorted-bytes ranges sorted moved up =
    let held = add_all-fewest next_byte IsAny bytes-succeed sorted ranges (rise-sorted 0 sorted (λ d lt. omega arith) up) (ends-any sorted) (ends-any ranges)
    (λ n. list_any-IsPermutation (λ (r : ℕ × ℕ). nat_le r.0 n && nat_le n r.1) ranges sorted moved) in
    (held.0, held.2)
