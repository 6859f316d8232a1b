-- Adding ranges in order of their first members gives the fewest ranges.
use Rattle.std.proofs.Common.{◌≡◌, ℕ, suc, ◌<◌, ◌≤◌, true, false, List, [], ◌∷◌, ◌++◌, length, get_or, refl, ap, sym, ◌∙◌, arith}
use Rattle.std.specs.Prelude.{min, max, nat_le, nat_lt, ◌||◌, if◌then◌else◌}
use Rattle.std.specs.List.Sorted.{IsNonDecreasingBy}
use Rattle.std.proofs.lemmas.Bool.{ltb-true, ltb-false, leb-true}
use Rattle.std.proofs.lemmas.Bool.Decides.{nat_tests}
use Rattle.rx_model.specs.Text.{is_member}
use Rattle.rx_class.specs.Ranges.{fewest, BeginPast, AreFewest}
use Rattle.rx_class.specs.Merged.{extend, add, add_all}
use Rattle.rx_class.proofs.RangeLemmas.{inside, inside-joined, inside-none, IsSuccessor, Ends, max-counts, fewest-unique, fewest-fewest, fewest-ends, fewest-members, choose}
use Rattle.rx_model.proofs.lemmas.runs.RunLemmas.{or-swap}
use Rattle.std.proofs.Math.Bool.{or_assoc, or-false}

-- every range begins at n or before
abbrev BeginUpTo : ℕ → List (ℕ × ℕ) → Type 0
BeginUpTo n [] = Unit {0}
BeginUpTo n (r ∷ rs) = (r.0 ≤ n) × BeginUpTo n rs

begin-later : (m n : ℕ) (rs : List (ℕ × ℕ)) → m ≤ n → BeginUpTo m rs → BeginUpTo n rs
begin-later m n [] le begin = tt
begin-later m n (r ∷ rs) le begin = (omega (arith, begin.0), begin-later m n rs le begin.1)

-- the ranges come in order of their first members, from n on
abbrev pub Rise : ℕ → List (ℕ × ℕ) → Type 0
Rise n [] = Unit {0}
Rise n (r ∷ rs) = (n ≤ r.0) × Rise r.0 rs

pub rise-sorted : (n : ℕ) (rs : List (ℕ × ℕ)) → ((d : ℕ × ℕ) → 0 < length rs → n ≤ (get_or rs 0 d).0) → IsNonDecreasingBy (λ (r : ℕ × ℕ). r.0) rs → Rise n rs
rise-sorted n [] first up = tt
rise-sorted n (r ∷ rs) first up =
    (first r (omega arith), rise-sorted r.0 rs (λ d lt. up 0 1 d (omega arith) (omega arith)) (λ i j d le lt. up (suc i) (suc j) d (omega arith) (omega arith)))

module _ (next : ℕ → ℕ) (Counts : ℕ → Type 0) (succ : IsSuccessor next Counts) where
  extend-past : (n low high : ℕ) (r : ℕ × ℕ) (rs : List (ℕ × ℕ)) → n < r.0 → BeginPast n (extend next (r ∷ rs) low high)
  extend-past n low high r [] past = choose (BeginPast n) (nat_lt (next r.1) low) _ _ (λ _. past) (λ _. past)
  extend-past n low high r (s ∷ rs) past = past

  extend-fewest : (low high : ℕ) (rs : List (ℕ × ℕ)) → low ≤ high → AreFewest next rs → AreFewest next (extend next rs low high)
  extend-fewest low high [] le h = (le, tt, tt)
  extend-fewest low high (r ∷ []) le h =
      choose (AreFewest next) (nat_lt (next r.1) low) _ _ (λ e. (h.0, ltb-true (next r.1) low e, (le, tt, tt))) (λ _. (omega (arith, h.0), tt, tt))
  extend-fewest low high (r ∷ s ∷ rs) le h = (h.0, extend-past (next r.1) low high s rs h.1, extend-fewest low high (s ∷ rs) le h.2)

  extend-ends : (low high : ℕ) (rs : List (ℕ × ℕ)) → Counts low → Counts high → Ends Counts rs → Ends Counts (extend next rs low high)
  extend-ends low high [] first last ends = (first, last, tt)
  extend-ends low high (r ∷ []) first last ends =
      choose (Ends Counts) (nat_lt (next r.1) low) _ _ (λ _. (ends.0, ends.1, (first, last, tt)))
      (λ _. (ends.0, max-counts next Counts succ r.1 high ends.1 last, tt))
  extend-ends low high (r ∷ s ∷ rs) first last ends = (ends.0, ends.1, extend-ends low high (s ∷ rs) first last ends.2)

  extend-begin : (low high : ℕ) (rs : List (ℕ × ℕ)) → BeginUpTo low rs → BeginUpTo low (extend next rs low high)
  extend-begin low high [] begin = (omega arith, tt)
  extend-begin low high (r ∷ []) begin = choose (BeginUpTo low) (nat_lt (next r.1) low) _ _ (λ _. (begin.0, (omega arith, tt))) (λ _. (begin.0, tt))
  extend-begin low high (r ∷ s ∷ rs) begin = (begin.0, extend-begin low high (s ∷ rs) begin.1)

  extend-members : (low high : ℕ) (rs : List (ℕ × ℕ)) → low ≤ high → Counts high → BeginUpTo low rs → AreFewest next rs → Ends Counts rs
      → (n : ℕ) → Counts n → is_member (extend next rs low high) n ≡ (inside (low, high) n || is_member rs n)
  extend-members low high [] le last begin h ends n counts = refl
  extend-members low high (r ∷ []) le last begin h ends n counts =
      choose (λ ys. is_member ys n ≡ (inside (low, high) n || is_member (r ∷ []) n)) (nat_lt (next r.1) low) _ _
      (λ _. or-swap (inside r n) (inside (low, high) n) false)
      (λ e.
      let first : r.0 ≡ min low r.0 = omega (arith, begin.0) in
      let greatest : max r.1 high ≡ max high r.1 = omega arith in
      let joined = inside-joined r.0 r.1 low high n h.0 le
      (λ lt. let up = succ.between r.1 n ends.1 counts lt in let meet = ltb-false (next r.1) low e in omega arith)
      (λ lt. omega (arith, begin.0)) in
      ap (λ (q : ℕ × ℕ). inside q n || false) (λ i. (first i, greatest i)) ∙ ap (λ b. b || false) joined ∙ or_assoc (inside (low, high) n) (inside r n) false)
  extend-members low high (r ∷ s ∷ rs) le last begin h ends n counts =
      ap (λ b. inside r n || b) (extend-members low high (s ∷ rs) le last begin.1 h.2 ends.2 n counts)
      ∙ or-swap (inside r n) (inside (low, high) n) (is_member (s ∷ rs) n)

  -- fewest ranges that hold what two lists hold
  record Hold (xs ys all : List (ℕ × ℕ)) : Type 0 where
    are_fewest : AreFewest next all
    ends : Ends Counts all
    members : (n : ℕ) → Counts n → is_member all n ≡ (is_member xs n || is_member ys n)

  added : (low : ℕ) (rs qs : List (ℕ × ℕ)) → AreFewest next rs → Ends Counts rs → BeginUpTo low rs → Rise low qs → Ends Counts qs
      → Hold rs qs (add_all next rs qs)
  added low rs [] h ends begin rise more = record { are_fewest = h; ends = ends; members = λ n counts. sym (or-false (is_member rs n)) }
  added low rs (q ∷ qs) h ends begin rise more =
      let begun : BeginUpTo q.0 rs = begin-later low q.0 rs rise.0 begin in
      choose (λ ys. Hold rs (q ∷ qs) (add_all next ys qs)) (nat_le q.0 q.1) _ _
      (λ e.
      let le = leb-true q.0 q.1 e in
      let rest =
      added q.0 (extend next rs q.0 q.1) qs (extend-fewest q.0 q.1 rs le h) (extend-ends q.0 q.1 rs more.0 more.1 ends) (extend-begin q.0 q.1 rs begun) rise.1
      more.2 in
      record {
        are_fewest = rest.are_fewest;
        ends = rest.ends;
        members = λ n counts. rest.members n counts
            ∙ ap (λ b. b || is_member qs n) (extend-members q.0 q.1 rs le more.1 begun h ends n counts)
            ∙ or_assoc (inside q n) (is_member rs n) (is_member qs n) ∙ or-swap (inside q n) (is_member rs n) (is_member qs n);
      })
      (λ e.
      let rest = added q.0 rs qs h ends begun rise.1 more.2 in
      record {
        are_fewest = rest.are_fewest;
        ends = rest.ends;
        members = λ n counts. rest.members n counts ∙ ap (λ b. is_member rs n || b) (sym (ap (λ b. b || is_member qs n) (inside-none next Counts succ q n e)));
      })

  -- sorted ranges, added one by one, are the fewest ranges of the same ranges in any order
  pub add_all-fewest : (sorted ranges : List (ℕ × ℕ)) → Rise 0 sorted → Ends Counts sorted → Ends Counts ranges
      → ((n : ℕ) → is_member ranges n ≡ is_member sorted n) → AreFewest next (add_all next [] sorted) × Ends Counts (add_all next [] sorted)
      × (add_all next [] sorted ≡ fewest next ranges)
  add_all-fewest sorted ranges rise ends all same =
      let held = added 0 [] sorted tt tt tt rise ends in (
        held.are_fewest,
        held.ends,
        fewest-unique next Counts succ (add_all next [] sorted) (fewest next ranges) held.are_fewest (fewest-fewest next Counts succ ranges) held.ends
            (fewest-ends next Counts succ ranges all)
            (λ n counts. held.members n counts ∙ sym (same n) ∙ sym (fewest-members next Counts succ ranges all n counts)),
      )

pub extend-last : (next : ℕ → ℕ) (rs : List (ℕ × ℕ)) (r : ℕ × ℕ) (low high : ℕ) → extend next (rs ++ r ∷ []) low high ≡ rs ++ extend next (r ∷ []) low high
extend-last next [] r low high = refl
extend-last next (q ∷ []) r low high = refl
extend-last next (q ∷ s ∷ rs) r low high = ap (λ ys. q ∷ ys) (extend-last next (s ∷ rs) r low high)

pub add-last : (next : ℕ → ℕ) (all rs : List (ℕ × ℕ)) (r : ℕ × ℕ) (low high : ℕ) → all ≡ rs ++ r ∷ [] → low ≤ high
    → add next all low high ≡ rs ++ extend next (r ∷ []) low high
add-last next all rs r low high e le =
    let ordered : nat_le low high ≡ true = grind (arith, nat_tests) in
    ap (λ b. if b then extend next all low high else all) ordered ∙ ap (λ ys. extend next ys low high) e ∙ extend-last next rs r low high
