-- Folding of case among scalars.
use Rattle.std.proofs.Common.{◌≡◌, ◌↔◌, ℕ, zero, suc, ◌<◌, ◌≤◌, Bool, true, false, cond, IsTrue, List, [], ◌∷◌, ◌++◌, length, map, get_or, refl, ◌∙◌, ap, sym, arith, inl, inr}
use Rattle.std.specs.Prelude.{◌&&◌, ◌||◌, ◌==◌, nat_le, nat_lt}
use Rattle.std.specs.Char.{IsScalar}
use Rattle.std.specs.List.{filter, flat_map, list_any}
use Rattle.std.specs.List.Sorted.{IsNonDecreasingBy}
use Rattle.std.proofs.lemmas.Bool.{and_parts, or_cases, leb-true, eqb-true}
use Rattle.std.proofs.lemmas.Bool.Decides.{nat_tests}
use Rattle.std.proofs.lemmas.List.Folds.{list_any-append}
use Rattle.ucd_case.specs.FoldOtherRows.{fold_other_rows}
use Rattle.ucd_case.specs.CaseFolding.{fold_pairs, simple_fold}
use Rattle.ucd_case.proofs.FoldPairsLemmas.{IsFoldPairs-fold_pairs}
use Rattle.rx_model.specs.Text.{is_member}
use Rattle.rx_class.specs.Folding.{joined_to, folded, SharesFolding}
use Rattle.rx_class.specs.Ranges.{next_scalar, fewest, HaveScalarEnds, AreScalarRanges}
use Rattle.rx_class.proofs.JoinedLemmas.{joins, joined-members, joined_to_one, range_by_range, list_any-from_Contains, Contains-from_list_any}
use Rattle.rx_class.proofs.RangeLemmas.{inside, inside-true, Ends, fewest-members, fewest-fewest, fewest-ends, fewest-same}
use Rattle.rx_class.proofs.SuccessorLemmas.{scalars-succeed, ends-from-scalars, scalars-from-ends}
use Rattle.std.proofs.Math.Bool.{or-true}

-- The table of pairs.

abbrev is_scalar : ℕ → Bool
is_scalar c = nat_lt c 0xD800 || (nat_le 0xE000 c && nat_lt c 0x110000)

-- the pairs come in order of their first numbers, from n on, and join to scalars
abbrev is_table : ℕ → List (ℕ × ℕ) → Bool
is_table n [] = true
is_table n (p ∷ ps) = (nat_le n p.0 && is_scalar p.1) && is_table p.0 ps

scalar-of : (c : ℕ) → is_scalar c ≡ true → IsScalar c
scalar-of c h = grind (arith, nat_tests)

-- the same of a table, as numbers
abbrev Rises : ℕ → List (ℕ × ℕ) → Type 0
Rises n [] = Unit {0}
Rises n (p ∷ ps) = (n ≤ p.0) × IsScalar p.1 × Rises p.0 ps

table-rises : (n : ℕ) (ps : List (ℕ × ℕ)) → is_table n ps ≡ true → Rises n ps
table-rises n [] h = tt
table-rises n (p ∷ ps) h =
    let parts = and_parts _ _ h in
    let own = and_parts _ _ parts.0 in
    (leb-true n p.0 own.0, scalar-of p.1 own.1, table-rises p.0 ps parts.1)

fold_pairs-table : is_table 0 fold_pairs ≡ true
unfolding fold_pairs fold_other_rows
fold_pairs-table = refl

fold_pairs-rises : Rises 0 fold_pairs
fold_pairs-rises = table-rises 0 fold_pairs fold_pairs-table

first-above : (n : ℕ) (ps : List (ℕ × ℕ)) (i : ℕ) (d : ℕ × ℕ) → Rises n ps → i < length ps → n ≤ (get_or ps i d).0
first-above n [] i d rises lt = absurd (omega arith)
first-above n (p ∷ ps) zero d rises lt = rises.0
first-above n (p ∷ ps) (suc i) d rises lt = omega (arith, rises.0, first-above p.0 ps i d rises.2 (omega arith))

rises-sorted : (n : ℕ) (ps : List (ℕ × ℕ)) → Rises n ps → (i j : ℕ) (d : ℕ × ℕ) → i ≤ j → j < length ps → (get_or ps i d).0 ≤ (get_or ps j d).0
rises-sorted n [] rises i j d le lt = absurd (omega arith)
rises-sorted n (p ∷ ps) rises zero zero d le lt = omega arith
rises-sorted n (p ∷ ps) rises zero (suc j) d le lt = first-above p.0 ps j d rises.2 (omega arith)
rises-sorted n (p ∷ ps) rises (suc i) zero d le lt = absurd (omega arith)
rises-sorted n (p ∷ ps) rises (suc i) (suc j) d le lt = rises-sorted p.0 ps rises.2 i j d (omega arith) (omega arith)

rises-scalar : (n : ℕ) (ps : List (ℕ × ℕ)) → Rises n ps → (i : ℕ) (d : ℕ × ℕ) → i < length ps → IsScalar (get_or ps i d).1
rises-scalar n [] rises i d lt = absurd (omega arith)
rises-scalar n (p ∷ ps) rises zero d lt = rises.1
rises-scalar n (p ∷ ps) rises (suc i) d lt = rises-scalar p.0 ps rises.2 i d (omega arith)

pub fold_pairs-sorted : IsNonDecreasingBy (λ (p : ℕ × ℕ). p.0) fold_pairs
fold_pairs-sorted = rises-sorted 0 fold_pairs fold_pairs-rises

pub fold_pairs-scalars : (i : ℕ) (d : ℕ × ℕ) → i < length fold_pairs → IsScalar (get_or fold_pairs i d).1
fold_pairs-scalars = rises-scalar 0 fold_pairs fold_pairs-rises

-- The ends of what is joined.

pub ends-append : (xs ys : List (ℕ × ℕ)) → Ends IsScalar xs → Ends IsScalar ys → Ends IsScalar (xs ++ ys)
ends-append [] ys h k = k
ends-append (x ∷ xs) ys h k = (h.0, h.1, ends-append xs ys h.2 k)

kept-ends : (b : Bool) (p : ℕ × ℕ) (ps : List (ℕ × ℕ)) → IsScalar p.1 → Ends IsScalar (map (λ (q : ℕ × ℕ). (q.1, q.1)) ps)
    → Ends IsScalar (map (λ (q : ℕ × ℕ). (q.1, q.1)) (cond b (p ∷ ps) ps))
kept-ends true p ps is h = (is, is, h)
kept-ends false p ps is h = h

joined-ends : (n : ℕ) (ps rs : List (ℕ × ℕ)) → Rises n ps → Ends IsScalar (joined_to ps rs)
joined-ends n [] rs rises = tt
joined-ends n (p ∷ ps) rs rises =
    kept-ends (is_member rs p.0) p (filter (λ (q : ℕ × ℕ). is_member rs q.0) ps) rises.1 (joined-ends p.0 ps rs rises.2)

all-joined-ends : (rs qs : List (ℕ × ℕ)) → Ends IsScalar (flat_map (joined_to_one fold_pairs) rs)
all-joined-ends [] qs = tt
all-joined-ends (r ∷ rs) qs = ends-append (joined_to_one fold_pairs r) (flat_map (joined_to_one fold_pairs) rs)
    (joined-ends 0 fold_pairs (r ∷ []) fold_pairs-rises) (all-joined-ends rs qs)

folded-ends : (rs : List (ℕ × ℕ)) → HaveScalarEnds rs → Ends IsScalar (rs ++ joined_to fold_pairs rs)
folded-ends rs ends = ends-append rs (joined_to fold_pairs rs) (ends-from-scalars rs ends) (joined-ends 0 fold_pairs rs fold_pairs-rises)

-- what is joined to one range after another
pub folded-by_ranges : (rs : List (ℕ × ℕ)) → HaveScalarEnds rs → fewest next_scalar (rs ++ flat_map (joined_to_one fold_pairs) rs) ≡ folded rs
unfolding folded
folded-by_ranges rs ends =
    fewest-same next_scalar IsScalar scalars-succeed (rs ++ flat_map (joined_to_one fold_pairs) rs) (rs ++ joined_to fold_pairs rs)
    (ends-append rs (flat_map (joined_to_one fold_pairs) rs) (ends-from-scalars rs ends) (all-joined-ends rs rs))
    (folded-ends rs ends)
    (λ n.
    list_any-append _ rs (flat_map (joined_to_one fold_pairs) rs)
    ∙ ap (λ b. is_member rs n || b) (range_by_range fold_pairs rs n)
    ∙ sym (list_any-append _ rs (joined_to fold_pairs rs)))

-- The laws.

pub AreScalarRanges-folded : (rs : List (ℕ × ℕ)) → HaveScalarEnds rs → AreScalarRanges (folded rs)
unfolding folded
AreScalarRanges-folded rs ends = (
  fewest-fewest next_scalar IsScalar scalars-succeed (rs ++ joined_to fold_pairs rs),
  scalars-from-ends (folded rs) (fewest-ends next_scalar IsScalar scalars-succeed (rs ++ joined_to fold_pairs rs) (folded-ends rs ends)),
)

folded-members : (rs : List (ℕ × ℕ)) → HaveScalarEnds rs → (c : ℕ) → IsScalar c → is_member (folded rs) c ≡ (is_member rs c || list_any (joins rs c) fold_pairs)
unfolding folded
folded-members rs ends c is =
    fewest-members next_scalar IsScalar scalars-succeed (rs ++ joined_to fold_pairs rs) (folded-ends rs ends) c is
    ∙ list_any-append _ rs (joined_to fold_pairs rs)
    ∙ ap (λ b. is_member rs c || b) (joined-members fold_pairs rs c)

inside-one : (x n : ℕ) → inside (x, x) n ≡ true → x ≡ n
inside-one x n h =
    let parts = and_parts (nat_le x n) (nat_le n x) h in
    omega (arith, leb-true x n parts.0, leb-true n x parts.1)

shares-from : (rs : List (ℕ × ℕ)) (c : ℕ) → (is_member rs c || list_any (joins rs c) fold_pairs) ≡ true → SharesFolding rs c
shares-from rs c h = elim (or_cases (is_member rs c) (list_any (joins rs c) fold_pairs) h) [
  | inl own ↦ (c, own, refl)
  | inr joined ↦
      let found = Contains-from_list_any (joins rs c) fold_pairs joined in
      let p = found.0 in
      let parts = and_parts (is_member rs p.0) (inside (p.1, p.1) c) found.2 in
      let alike = ((IsFoldPairs-fold_pairs p.0 p.1).0 found.1).1 in
      (p.0, parts.0, alike ∙ ap simple_fold (inside-one p.1 c parts.1))
]

shares-to : (rs : List (ℕ × ℕ)) (c m : ℕ) → is_member rs m ≡ true → simple_fold m ≡ simple_fold c → (b : Bool) → (m == c) ≡ b
    → (is_member rs c || list_any (joins rs c) fold_pairs) ≡ true
shares-to rs c m own same true is =
    ap (λ b. b || list_any (joins rs c) fold_pairs) (ap (is_member rs) (sym (eqb-true m c is)) ∙ own)
shares-to rs c m own same false is =
    let pair = (IsFoldPairs-fold_pairs m c).1 ((λ (e : m ≡ c). grind (arith, nat_tests)), same) in
    let joined =
    list_any-from_Contains (joins rs c) fold_pairs (m, c) pair (ap (λ b. b && inside (c, c) c) own ∙ inside-true (c, c) c (omega arith) (omega arith)) in
    ap (λ b. is_member rs c || b) joined ∙ or-true (is_member rs c)

pub folded-orbits : (rs : List (ℕ × ℕ)) → HaveScalarEnds rs → (c : ℕ) → IsScalar c → IsTrue (is_member (folded rs) c) ↔ SharesFolding rs c
folded-orbits rs ends c is = (
  λ h. shares-from rs c (sym (folded-members rs ends c is) ∙ h),
  λ shares. folded-members rs ends c is ∙ shares-to rs c shares.0 shares.1 shares.2 (shares.0 == c) refl,
)
