-- What lies outside fewest ranges.
use Rattle.std.proofs.Common.{◌≡◌, ℕ, suc, ◌+◌, ◌<◌, ◌≤◌, Bool, true, false, not, List, [], ◌∷◌, ◌++◌, length, drop, get_or, refl, ◌∙◌, ap, sym, subst, arith, inl, inr, append_assoc, add-one, drop-cons}
use Rattle.std.specs.Prelude.{nat_lt, ◌||◌, if◌then◌else◌}
use Rattle.std.proofs.lemmas.Bool.{cases_lt, ltb-true, ltb-false}
use Rattle.std.proofs.lemmas.List.{drop_all}
use Rattle.rx_model.specs.Text.{is_member}
use Rattle.rx_class.specs.Ranges.{BeginPast, AreFewest}
use Rattle.rx_class.specs.Outside.{up_to, from, outside}
use Rattle.rx_class.proofs.RangeLemmas.{inside-true, inside-after, IsSuccessor, Ends, none-up-to, none-before, first-member}

-- numbers with the one before and the one after each, up to a greatest one; and those at which a range may begin
pub record IsOrder (next previous : ℕ → ℕ) (greatest : ℕ) (Counts MayBegin : ℕ → Type 0) : Type 0 where
  pub successor : IsSuccessor next Counts
  pub next_previous : (c : ℕ) → Counts c → 0 < c → next (previous c) ≡ c
  pub previous_counts : (c : ℕ) → Counts c → 0 < c → Counts (previous c)
  pub previous_from : (low c : ℕ) → MayBegin low → low < c → low ≤ previous c
  pub begins_before : (low c : ℕ) → MayBegin low → Counts c → low < c → Counts low
  pub begins_within : (low : ℕ) → MayBegin low → low ≤ greatest → Counts low
  pub next_begins : (c : ℕ) → Counts c → MayBegin (next c)
  pub zero_begins : MayBegin 0
  pub greatest_counts : Counts greatest

-- the ranges begin at `low` or later
abbrev BeginFrom : ℕ → List (ℕ × ℕ) → Type 0
BeginFrom low [] = Unit {0}
BeginFrom low (r ∷ rs) = low ≤ r.0

BeginFrom-past : (n : ℕ) (rs : List (ℕ × ℕ)) → BeginPast n rs → BeginFrom n rs
BeginFrom-past n [] past = tt
BeginFrom-past n (s ∷ rs) past = omega arith

BeginFrom-start : (rs : List (ℕ × ℕ)) → BeginFrom 0 rs
BeginFrom-start [] = tt
BeginFrom-start (r ∷ rs) = omega arith

module _ (next previous : ℕ → ℕ) (greatest : ℕ) (Counts MayBegin : ℕ → Type 0) (order : IsOrder next previous greatest Counts MayBegin) where
  previous-below : (c : ℕ) → Counts c → 0 < c → previous c < c
  previous-below c counts more =
      let above = order.successor.above (previous c) in
      let e = order.next_previous c counts more in
      omega arith

  before-previous : (n c : ℕ) → Counts n → Counts c → n < c → n ≤ previous c
  before-previous n c first second lt = elim (cases_lt (previous c) n) [
    | inl past ↦
        let up = order.successor.between (previous c) n (order.previous_counts c second (omega arith)) first past in
        let e = order.next_previous c second (omega arith) in
        absurd (omega arith)
    | inr le ↦ le
  ]

  -- fewest ranges, from `low` on, of what ranges don't hold
  pub record IsOutside (low : ℕ) (rs found : List (ℕ × ℕ)) : Type 0 where
    pub are_fewest : AreFewest next found
    pub ends : Ends Counts found
    pub begin : (n : ℕ) → n < low → BeginPast n found
    pub members : (n : ℕ) → Counts n → low ≤ n → n ≤ greatest → is_member found n ≡ not (is_member rs n)

  outside-end : (low : ℕ) (b : Bool) → nat_lt greatest low ≡ b → MayBegin low → IsOutside low [] (if b then [] else (low, greatest) ∷ [])
  outside-end low true past may =
      let lt : greatest < low = ltb-true greatest low past in
      record { are_fewest = tt; ends = tt; begin = λ n less. tt; members = λ n counts ge le. absurd (omega arith) }
  outside-end low false past may =
      let upto : low ≤ greatest = ltb-false greatest low past in
      record {
        are_fewest = (upto, tt, tt);
        ends = (order.begins_within low may upto, order.greatest_counts, tt);
        begin = λ n less. less;
        members = λ n counts ge le. ap (λ b. b || false) (inside-true (low, greatest) n ge le);
      }

  -- from the first member of a range on
  after-first : (r : ℕ × ℕ) (rs rest : List (ℕ × ℕ)) → Counts r.1 → AreFewest next (r ∷ rs) → IsOutside (next r.1) rs rest
      → (n : ℕ) → Counts n → r.0 ≤ n → n ≤ greatest → is_member rest n ≡ not (is_member (r ∷ rs) n)
  after-first r rs rest last h others n counts ge le = elim (cases_lt r.1 n) [
    | inl past ↦
        others.members n counts (order.successor.between r.1 n last counts past) le
        ∙ ap (λ b. not (b || is_member rs n)) (sym (inside-after r n past))
    | inr within ↦
        let above = order.successor.above r.1 in
        let none = none-up-to next Counts order.successor n rest (others.begin n (omega arith)) others.are_fewest n (omega arith) in
        none ∙ ap not (sym (first-member next Counts order.successor r rs n ge within))
  ]

  outside-more : (low : ℕ) (r : ℕ × ℕ) (rs rest : List (ℕ × ℕ)) (b : Bool) → nat_lt low r.0 ≡ b → MayBegin low → Counts r.0 → Counts r.1 → low ≤ r.0
      → AreFewest next (r ∷ rs) → IsOutside (next r.1) rs rest → IsOutside low (r ∷ rs) ((if b then (low, previous r.0) ∷ [] else []) ++ rest)
  outside-more low r rs rest true lt may first last le h others =
      let below : low < r.0 = ltb-true low r.0 lt in
      let joins = order.next_previous r.0 first (omega arith) in
      let earlier = previous-below r.0 first (omega arith) in
      let above = order.successor.above r.1 in
      record {
        are_fewest = (
          order.previous_from low r.0 may below,
          subst (λ (n : ℕ). BeginPast n rest) (sym joins) (others.begin r.0 (omega (arith, h.0))),
          others.are_fewest,
        );
        ends = (order.begins_before low r.0 may first below, order.previous_counts r.0 first (omega arith), others.ends);
        begin = λ n less. less;
        members = λ n counts ge upto. elim (cases_lt n r.0) [
          | inl before ↦
              ap (λ b. b || is_member rest n) (inside-true (low, previous r.0) n ge (before-previous n r.0 counts first before))
              ∙ ap not (sym (none-before next Counts order.successor r rs h n before))
          | inr since ↦
              ap (λ b. b || is_member rest n) (inside-after (low, previous r.0) n (omega arith))
              ∙ after-first r rs rest last h others n counts since upto
        ];
      }
  outside-more low r rs rest false lt may first last le h others =
      let since : r.0 ≤ low = ltb-false low r.0 lt in
      let above = order.successor.above r.1 in
      record {
        are_fewest = others.are_fewest;
        ends = others.ends;
        begin = λ n less. others.begin n (omega (arith, h.0));
        members = λ n counts ge upto. after-first r rs rest last h others n counts (omega arith) upto;
      }

  outside-from : (low : ℕ) (rs : List (ℕ × ℕ)) → MayBegin low → BeginFrom low rs → Ends Counts rs → AreFewest next rs
      → IsOutside low rs (outside next previous greatest low rs)
  unfolding outside
  outside-from low [] may begin ends h = outside-end low (nat_lt greatest low) refl may
  outside-from low (r ∷ rs) may begin ends h =
      outside-more low r rs (outside next previous greatest (next r.1) rs) (nat_lt low r.0) refl may ends.0 ends.1 begin h
      (outside-from (next r.1) rs (order.next_begins r.1 ends.1) (BeginFrom-past (next r.1) rs h.1) ends.2 h.2)

  pub outside-holds : (rs : List (ℕ × ℕ)) → Ends Counts rs → AreFewest next rs → IsOutside 0 rs (outside next previous greatest 0 rs)
  outside-holds rs ends h = outside-from 0 rs order.zero_begins (BeginFrom-start rs) ends h

pub outside-step : (next previous : ℕ → ℕ) (greatest : ℕ) (rs found more : List (ℕ × ℕ)) (i low after : ℕ) (d r : ℕ × ℕ) → i < length rs → r ≡ get_or rs i d
    → after ≡ next r.1 → more ≡ found ++ up_to previous low r.0
    → more ++ outside next previous greatest after (drop (i + 1) rs) ≡ found ++ outside next previous greatest low (drop i rs)
unfolding outside
outside-step next previous greatest rs found more i low after d r lt is after_is more_is =
    let here : drop i rs ≡ r ∷ drop (suc i) rs = drop-cons rs i d lt ∙ ap (λ (x : ℕ × ℕ). x ∷ drop (suc i) rs) (sym is) in
    rw (more_is, add-one, here, after_is) (append_assoc found (up_to previous low r.0) (outside next previous greatest (next r.1) (drop (suc i) rs)))

pub outside-last : (next previous : ℕ → ℕ) (greatest : ℕ) (rs found : List (ℕ × ℕ)) (i low : ℕ) → length rs ≤ i
    → found ++ outside next previous greatest low (drop i rs) ≡ found ++ from greatest low
unfolding outside
outside-last next previous greatest rs found i low le = rw (drop_all i rs le)
