-- Fewest ranges: that they hold the same members, and that there is only one list of them.
use Rattle.std.proofs.Common.{◌≡◌, ◌↔◌, ℕ, ◌-◌, ◌<◌, ◌≤◌, Bool, true, false, List, [], ◌∷◌, length, get_or, Some, refl, ap, sym, ◌∙◌, subst, arith, inl, inr}
use Rattle.std.specs.Prelude.{min, max, nat_le, nat_lt, ◌&&◌, ◌||◌, if◌then◌else◌}
use Rattle.std.specs.List.{list_all, slice_get}
use Rattle.std.proofs.lemmas.Bool.{false≢true, and_parts, or_cases, cases_lt, ltb-true, ltb-false, leb-true, le-leb}
use Rattle.std.proofs.lemmas.Bool.Decides.{nat_tests}
use Rattle.std.proofs.lemmas.Option.{slice_get_within, get_or_from_slice_get}
use Rattle.rx_model.specs.Text.{is_member}
use Rattle.rx_class.specs.Ranges.{insert, fewest, BeginPast, AreFewest}
use Rattle.std.proofs.Math.Bool.{or-true, or_assoc, and-true}
use Rattle.rx_model.proofs.lemmas.runs.RunLemmas.{or-swap}

-- the number lies in the range
abbrev pub inside : ℕ × ℕ → ℕ → Bool
inside r n = nat_le r.0 n && nat_le n r.1

pub inside-true : (r : ℕ × ℕ) (n : ℕ) → r.0 ≤ n → n ≤ r.1 → inside r n ≡ true
inside-true r n low high = grind (arith, nat_tests)

pub inside-before : (r : ℕ × ℕ) (n : ℕ) → n < r.0 → inside r n ≡ false
inside-before r n lt = grind (arith, nat_tests)

pub inside-after : (r : ℕ × ℕ) (n : ℕ) → r.1 < n → inside r n ≡ false
inside-after r n lt = grind (arith, nat_tests)

-- what follows from a test may be joined to it
follows : (a b : Bool) → (b ≡ true → a ≡ true) → b ≡ (a && b)
follows true b f = refl
follows false true f = sym (f refl)
follows false false f = refl

same-first : (x y z : Bool) → x ≡ true → y ≡ true → x ≡ (y || z)
same-first x y z e f = e ∙ sym (ap (λ b. b || z) f)

same-second : (x y z : Bool) → x ≡ true → z ≡ true → x ≡ (y || z)
same-second x y z e f = e ∙ sym (ap (λ b. y || b) f ∙ or-true y)

same-neither : (x y z : Bool) → x ≡ false → y ≡ false → z ≡ false → x ≡ (y || z)
same-neither x y z e f g = e ∙ sym (ap (λ b. b || z) f ∙ g)

-- the union of two ranges between which the number does not lie
pub inside-joined : (a b low high n : ℕ) → a ≤ b → low ≤ high → (b < n → low ≤ n) → (high < n → a ≤ n)
    → inside (min low a, max high b) n ≡ (inside (low, high) n || inside (a, b) n)
inside-joined a b low high n le ordered meets follows =
    let both = inside (min low a, max high b) n in
    let first = inside (low, high) n in
    let second = inside (a, b) n in
    elim (cases_lt b n) [
      | inl past ↦ elim (cases_lt high n) [
        | inl beyond ↦ same-neither both first second (inside-after (min low a, max high b) n (omega arith)) (inside-after (low, high) n beyond)
            (inside-after (a, b) n past)
        | inr within ↦
            let from : low ≤ n = meets past in
            same-first both first second (inside-true (min low a, max high b) n (omega arith) (omega arith)) (inside-true (low, high) n from within)
      ]
      | inr upto ↦ elim (cases_lt n a) [
        | inr from ↦ same-second both first second (inside-true (min low a, max high b) n (omega arith) (omega arith)) (inside-true (a, b) n from upto)
        | inl early ↦ elim (cases_lt n low) [
          | inl before ↦ same-neither both first second (inside-before (min low a, max high b) n (omega arith)) (inside-before (low, high) n before)
              (inside-before (a, b) n early)
          | inr since ↦
              let within : n ≤ high = elim (cases_lt high n) [ inl beyond ↦ let from = follows beyond in absurd (omega arith) | inr fits ↦ fits ] in
              same-first both first second (inside-true (min low a, max high b) n (omega arith) (omega arith)) (inside-true (low, high) n since within)
        ]
      ]
    ]

-- a number and the next one: none that counts lies between them
pub record IsSuccessor (next : ℕ → ℕ) (Counts : ℕ → Type 0) : Type 0 where
  pub above : (n : ℕ) → n < next n
  pub between : (m n : ℕ) → Counts m → Counts n → m < n → next m ≤ n
  pub counts : (m n : ℕ) → Counts m → Counts n → m < n → Counts (next m)

-- the ends of each range count
abbrev pub Ends : (ℕ → Type 0) → List (ℕ × ℕ) → Type 0
Ends Counts [] = Unit {0}
Ends Counts (r ∷ rs) = Counts r.0 × Counts r.1 × Ends Counts rs

-- what holds of both choices
pub choose : (P : List (ℕ × ℕ) → Type 0) (b : Bool) (x y : List (ℕ × ℕ)) → (b ≡ true → P x) → (b ≡ false → P y) → P (if b then x else y)
choose P true x y f g = f refl
choose P false x y f g = g refl

pub past-weaker : (m n : ℕ) (rs : List (ℕ × ℕ)) → m ≤ n → BeginPast n rs → BeginPast m rs
past-weaker m n [] le past = tt
past-weaker m n (r ∷ rs) le past = omega arith

module _ (next : ℕ → ℕ) (Counts : ℕ → Type 0) (succ : IsSuccessor next Counts) where
  past-tail : (n : ℕ) (r : ℕ × ℕ) (rs : List (ℕ × ℕ)) → n ≤ r.1 → AreFewest next (r ∷ rs) → BeginPast n rs
  past-tail n r rs le h = past-weaker n (next r.1) rs (omega (arith, succ.above r.1)) h.1

  -- no member lies up to where the ranges begin
  pub none-up-to : (m : ℕ) (rs : List (ℕ × ℕ)) → BeginPast m rs → AreFewest next rs → (n : ℕ) → n ≤ m → is_member rs n ≡ false
  none-up-to m [] past h n le = refl
  none-up-to m (r ∷ rs) past h n le =
      ap (λ b. b || is_member rs n) (inside-before r n (omega arith))
      ∙ none-up-to r.1 rs (past-tail r.1 r rs (omega arith) h) h.2 n (omega (arith, h.0))

  pub none-before : (r : ℕ × ℕ) (rs : List (ℕ × ℕ)) → AreFewest next (r ∷ rs) → (n : ℕ) → n < r.0 → is_member (r ∷ rs) n ≡ false
  none-before r rs h n lt =
      ap (λ b. b || is_member rs n) (inside-before r n lt)
      ∙ none-up-to r.1 rs (past-tail r.1 r rs (omega arith) h) h.2 n (omega (arith, h.0))

  -- up to the next number after a range its ranges hold what it holds
  rest-none : (r : ℕ × ℕ) (rs : List (ℕ × ℕ)) → AreFewest next (r ∷ rs) → (n : ℕ) → n ≤ next r.1 → is_member rs n ≡ false
  rest-none r rs h n le = none-up-to (next r.1) rs h.1 h.2 n le

  pub first-member : (r : ℕ × ℕ) (rs : List (ℕ × ℕ)) (n : ℕ) → r.0 ≤ n → n ≤ r.1 → is_member (r ∷ rs) n ≡ true
  first-member r rs n low high = ap (λ b. b || is_member rs n) (inside-true r n low high)

  SameMembers : List (ℕ × ℕ) → List (ℕ × ℕ) → Type 0
  SameMembers xs ys = (n : ℕ) → Counts n → is_member xs n ≡ is_member ys n

  -- a list that holds the first number of another begins no later
  begins-no-later : (r s : ℕ × ℕ) (xs ys : List (ℕ × ℕ)) → AreFewest next (r ∷ xs) → s.0 ≤ s.1 → Counts s.0
      → ((n : ℕ) → Counts n → is_member (r ∷ xs) n ≡ is_member (s ∷ ys) n) → r.0 ≤ s.0
  begins-no-later r s xs ys h le counts same = elim (cases_lt s.0 r.0) [
    | inl lt ↦ absurd (false≢true (sym (none-before r xs h s.0 lt) ∙ same s.0 counts ∙ first-member s ys s.0 (omega arith) le))
    | inr ge ↦ ge
  ]

  -- where two lists begin alike, the first range of one ends no later than that of the other
  ends-no-later : (r s : ℕ × ℕ) (xs ys : List (ℕ × ℕ)) → AreFewest next (r ∷ xs) → s.0 ≤ r.0 → Counts r.1 → Counts s.1
      → ((n : ℕ) → Counts n → is_member (r ∷ xs) n ≡ is_member (s ∷ ys) n) → s.1 ≤ r.1
  ends-no-later r s xs ys h begin own other same = elim (cases_lt r.1 s.1) [
    | inl lt ↦
        let n = next r.1 in
        let above = succ.above r.1 in
        let le = succ.between r.1 s.1 own other lt in
        let none : is_member (r ∷ xs) n ≡ false = ap (λ b. b || is_member xs n) (inside-after r n above) ∙ rest-none r xs h n (omega arith) in
        absurd (false≢true (sym none ∙ same n (succ.counts r.1 s.1 own other lt) ∙ first-member s ys n (omega (arith, h.0)) le))
    | inr ge ↦ ge
  ]

  no-member-of-none : (s : ℕ × ℕ) (ys : List (ℕ × ℕ)) → s.0 ≤ s.1 → Counts s.0 → ((n : ℕ) → Counts n → is_member [] n ≡ is_member (s ∷ ys) n) → ⊥
  no-member-of-none s ys le counts same = false≢true (same s.0 counts ∙ first-member s ys s.0 (omega arith) le)

  -- lists of fewest ranges that hold the same numbers are equal
  pub fewest-unique : (xs ys : List (ℕ × ℕ)) → AreFewest next xs → AreFewest next ys → Ends Counts xs → Ends Counts ys
      → ((n : ℕ) → Counts n → is_member xs n ≡ is_member ys n) → xs ≡ ys
  fewest-unique [] [] h k ex ey same = refl
  fewest-unique [] (s ∷ ys) h k ex ey same = absurd (no-member-of-none s ys k.0 ey.0 same)
  fewest-unique (r ∷ xs) [] h k ex ey same = absurd (no-member-of-none r xs h.0 ex.0 (λ n c. sym (same n c)))
  fewest-unique (r ∷ xs) (s ∷ ys) h k ex ey same =
      let back : (n : ℕ) → Counts n → is_member (s ∷ ys) n ≡ is_member (r ∷ xs) n = λ n c. sym (same n c) in
      let first_le = begins-no-later r s xs ys h k.0 ey.0 same in
      let first_ge = begins-no-later s r ys xs k h.0 ex.0 back in
      let last_ge = ends-no-later r s xs ys h (omega arith) ex.1 ey.1 same in
      let last_le = ends-no-later s r ys xs k (omega arith) ey.1 ex.1 back in
      let first : r.0 ≡ s.0 = omega arith in
      let last : r.1 ≡ s.1 = omega arith in
      let rest : (n : ℕ) → Counts n → is_member xs n ≡ is_member ys n =
      λ n c. elim (cases_lt r.1 n) [
        | inl lt ↦ sym (ap (λ b. b || is_member xs n) (inside-after r n lt)) ∙ same n c ∙ ap (λ b. b || is_member ys n) (inside-after s n (omega arith))
        | inr le ↦ rest-none r xs h n (omega (arith, succ.above r.1)) ∙ sym (rest-none s ys k n (omega (arith, succ.above s.1)))
      ] in
      let same_range : r ≡ s = λ i. (first i, last i) in
      let same_rest = fewest-unique xs ys h.2 k.2 ex.2 ey.2 rest in
      λ i. same_range i ∷ same_rest i

  -- Putting a range among fewest ranges.

  min-counts : (a b : ℕ) → Counts a → Counts b → Counts (min a b)
  min-counts a b first second = elim (cases_lt a b) [
    | inl lt ↦ let e : a ≡ min a b = omega arith in subst Counts e first
    | inr le ↦ let e : b ≡ min a b = omega arith in subst Counts e second
  ]

  pub max-counts : (a b : ℕ) → Counts a → Counts b → Counts (max a b)
  max-counts a b first second = elim (cases_lt a b) [
    | inl lt ↦ let e : b ≡ max a b = omega arith in subst Counts e second
    | inr le ↦ let e : a ≡ max a b = omega arith in subst Counts e first
  ]

  -- the three places that a range may have
  places : (P : List (ℕ × ℕ) → Type 0) (a b : Bool) (x y z : List (ℕ × ℕ)) → (a ≡ true → P x) → (b ≡ true → P y) → (a ≡ false → b ≡ false → P z)
      → P (if a then x else if b then y else z)
  places P true b x y z f g h = f refl
  places P false true x y z f g h = g refl
  places P false false x y z f g h = h refl refl

  past-insert : (n low high : ℕ) (rs : List (ℕ × ℕ)) → n < low → BeginPast n rs → AreFewest next rs → BeginPast n (insert next low high rs)
  unfolding insert
  past-insert n low high [] lt past h = lt
  past-insert n low high (r ∷ rs) lt past h =
      let rest = past-insert n (min low r.0) (max high r.1) rs (omega arith) (past-tail n r rs (omega (arith, h.0)) h) h.2 in
      places (BeginPast n) (nat_lt (next high) r.0) (nat_lt (next r.1) low) _ _ _ (λ _. lt) (λ _. past) (λ _ _. rest)

  pub insert-fewest : (low high : ℕ) (rs : List (ℕ × ℕ)) → low ≤ high → AreFewest next rs → AreFewest next (insert next low high rs)
  unfolding insert
  insert-fewest low high [] le h = (le, tt, tt)
  insert-fewest low high (r ∷ rs) le h =
      let after = insert-fewest low high rs le h.2 in
      let rest = insert-fewest (min low r.0) (max high r.1) rs (omega (arith, h.0)) h.2 in
      places (AreFewest next) (nat_lt (next high) r.0) (nat_lt (next r.1) low) _ _ _
      (λ e. (le, ltb-true (next high) r.0 e, h)) (λ e. (h.0, past-insert (next r.1) low high rs (ltb-true (next r.1) low e) h.1 h.2, after)) (λ _ _. rest)

  pub insert-ends : (low high : ℕ) (rs : List (ℕ × ℕ)) → Counts low → Counts high → Ends Counts rs → Ends Counts (insert next low high rs)
  unfolding insert
  insert-ends low high [] first last ends = (first, last, ends)
  insert-ends low high (r ∷ rs) first last ends =
      let after = insert-ends low high rs first last ends.2 in
      let rest = insert-ends (min low r.0) (max high r.1) rs (min-counts low r.0 first ends.0) (max-counts high r.1 last ends.1) ends.2 in
      places (Ends Counts) (nat_lt (next high) r.0) (nat_lt (next r.1) low) _ _ _ (λ _. (first, last, ends)) (λ _. (ends.0, ends.1, after)) (λ _ _. rest)

  pub insert-members : (low high : ℕ) (rs : List (ℕ × ℕ)) → low ≤ high → Counts low → Counts high → AreFewest next rs → Ends Counts rs
      → (n : ℕ) → Counts n → is_member (insert next low high rs) n ≡ (inside (low, high) n || is_member rs n)
  unfolding insert
  insert-members low high [] le first last h ends n counts = refl
  insert-members low high (r ∷ rs) le first last h ends n counts =
      let after = insert-members low high rs le first last h.2 ends.2 n counts in
      let rest =
      insert-members (min low r.0) (max high r.1) rs (omega (arith, h.0)) (min-counts low r.0 first ends.0) (max-counts high r.1 last ends.1) h.2 ends.2 n
      counts in
      places (λ ys. is_member ys n ≡ (inside (low, high) n || is_member (r ∷ rs) n)) (nat_lt (next high) r.0) (nat_lt (next r.1) low) _ _ _
      (λ _. refl)
      (λ _. ap (λ b. inside r n || b) after ∙ or-swap (inside r n) (inside (low, high) n) (is_member rs n))
      (λ e f. rest ∙ ap (λ b. b || is_member rs n)
      (inside-joined r.0 r.1 low high n h.0 le
      (λ lt. let up = succ.between r.1 n ends.1 counts lt in let meet = ltb-false (next r.1) low f in omega arith)
      (λ lt. let up = succ.between high n last counts lt in let meet = ltb-false (next high) r.0 e in omega arith))
      ∙ or_assoc (inside (low, high) n) (inside r n) (is_member rs n))

  -- Fewest ranges of any.

  pub fewest-fewest : (rs : List (ℕ × ℕ)) → AreFewest next (fewest next rs)
  unfolding fewest
  fewest-fewest [] = tt
  fewest-fewest (r ∷ rs) =
      choose (AreFewest next) (nat_le r.0 r.1) _ _ (λ e. insert-fewest r.0 r.1 (fewest next rs) (leb-true r.0 r.1 e) (fewest-fewest rs)) (λ _. fewest-fewest rs)

  pub fewest-ends : (rs : List (ℕ × ℕ)) → Ends Counts rs → Ends Counts (fewest next rs)
  unfolding fewest
  fewest-ends [] ends = tt
  fewest-ends (r ∷ rs) ends =
      choose (Ends Counts) (nat_le r.0 r.1) _ _ (λ _. insert-ends r.0 r.1 (fewest next rs) ends.0 ends.1 (fewest-ends rs ends.2)) (λ _. fewest-ends rs ends.2)

  pub inside-none : (r : ℕ × ℕ) (n : ℕ) → nat_le r.0 r.1 ≡ false → inside r n ≡ false
  inside-none r n e = grind (arith, nat_tests)

  pub fewest-members : (rs : List (ℕ × ℕ)) → Ends Counts rs → (n : ℕ) → Counts n → is_member (fewest next rs) n ≡ is_member rs n
  unfolding fewest
  fewest-members [] ends n counts = refl
  fewest-members (r ∷ rs) ends n counts =
      let rest = fewest-members rs ends.2 n counts in
      choose (λ ys. is_member ys n ≡ is_member (r ∷ rs) n) (nat_le r.0 r.1) _ _
      (λ e. insert-members r.0 r.1 (fewest next rs) (leb-true r.0 r.1 e) ends.0 ends.1 (fewest-fewest rs) (fewest-ends rs ends.2) n counts
      ∙ ap (λ b. inside r n || b) rest)
      (λ e. rest ∙ sym (ap (λ b. b || is_member rs n) (inside-none r n e)))

  -- ranges with the same members have the same fewest ranges
  pub fewest-same : (xs ys : List (ℕ × ℕ)) → Ends Counts xs → Ends Counts ys → ((n : ℕ) → is_member xs n ≡ is_member ys n) → fewest next xs ≡ fewest next ys
  fewest-same xs ys ex ey same =
      fewest-unique (fewest next xs) (fewest next ys) (fewest-fewest xs) (fewest-fewest ys) (fewest-ends xs ex) (fewest-ends ys ey)
      (λ n counts. fewest-members xs ex n counts ∙ same n ∙ sym (fewest-members ys ey n counts))

  -- the last range tells whether all end by a number
  pub last-tells : (r : ℕ × ℕ) (rs : List (ℕ × ℕ)) (n : ℕ) (d : ℕ × ℕ) → AreFewest next (r ∷ rs)
      → nat_le (get_or (r ∷ rs) (length rs) d).1 n ≡ list_all (λ (q : ℕ × ℕ). nat_le q.1 n) (r ∷ rs)
  last-tells r [] n d h = sym (and-true (nat_le r.1 n))
  last-tells r (s ∷ rs) n d h =
      last-tells s rs n d h.2
      ∙ follows (nat_le r.1 n) (list_all (λ (q : ℕ × ℕ). nat_le q.1 n) (s ∷ rs))
      (λ all. le-leb r.1 n
      (omega (arith, succ.above r.1, h.1, h.2.0, leb-true s.1 n (and_parts (nat_le s.1 n) (list_all (λ (q : ℕ × ℕ). nat_le q.1 n) rs) all).0)))

  pub last-decides : (rs : List (ℕ × ℕ)) (n : ℕ) (last d : ℕ × ℕ) → AreFewest next rs → 0 < length rs → last ≡ get_or rs (length rs - 1) d
      → nat_le last.1 n ≡ list_all (λ (q : ℕ × ℕ). nat_le q.1 n) rs
  last-decides [] n last d h some is = absurd (omega arith)
  last-decides (r ∷ rs) n last d h some is =
      let place : length (r ∷ rs) - 1 ≡ length rs = omega arith in
      ap (λ (q : ℕ × ℕ). nat_le q.1 n) (is ∙ ap (λ k. get_or (r ∷ rs) k d) place) ∙ last-tells r rs n d h

  pub all-from-last : (rs : List (ℕ × ℕ)) (n : ℕ) (last : ℕ × ℕ) → AreFewest next rs → slice_get rs (length rs - 1) ≡ Some last
      → nat_le last.1 n ≡ list_all (λ (q : ℕ × ℕ). nat_le q.1 n) rs
  all-from-last rs n last h e =
      let within = slice_get_within rs (length rs - 1) last e in
      last-decides rs n last last h (omega (arith, within)) (sym (get_or_from_slice_get rs (length rs - 1) last last e))

  ends-members : (rs : List (ℕ × ℕ)) (greatest : ℕ) → list_all (λ (q : ℕ × ℕ). nat_le q.1 greatest) rs ≡ true → (n : ℕ) → is_member rs n ≡ true → n ≤ greatest
  ends-members [] greatest h n m = cc
  ends-members (r ∷ rs) greatest h n m =
      let parts = and_parts (nat_le r.1 greatest) (list_all (λ (q : ℕ × ℕ). nat_le q.1 greatest) rs) h in
      elim (or_cases (inside r n) (is_member rs n) m) [
        | inl here ↦
            let bounds = and_parts (nat_le r.0 n) (nat_le n r.1) here in
            omega (arith, leb-true n r.1 bounds.1, leb-true r.1 greatest parts.0)
        | inr later ↦ ends-members rs greatest parts.1 n later
      ]

  members-ends : (rs : List (ℕ × ℕ)) (greatest : ℕ) → AreFewest next rs → ((n : ℕ) → is_member rs n ≡ true → n ≤ greatest)
      → list_all (λ (q : ℕ × ℕ). nat_le q.1 greatest) rs ≡ true
  members-ends [] greatest h f = refl
  members-ends (r ∷ rs) greatest h f =
      ap (λ b. b && list_all (λ (q : ℕ × ℕ). nat_le q.1 greatest) rs) (le-leb r.1 greatest (f r.1 (first-member r rs r.1 h.0 (omega arith))))
      ∙ members-ends rs greatest h.2 (λ n m. f n (ap (λ b. inside r n || b) m ∙ or-true (inside r n)))

  -- all ranges end by a number where all members do
  pub ends-bound : (rs : List (ℕ × ℕ)) (greatest : ℕ) → AreFewest next rs
      → (list_all (λ (q : ℕ × ℕ). nat_le q.1 greatest) rs ≡ true) ↔ ((n : ℕ) → is_member rs n ≡ true → n ≤ greatest)
  ends-bound rs greatest h = (ends-members rs greatest, members-ends rs greatest h)
