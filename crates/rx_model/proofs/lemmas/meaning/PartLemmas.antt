-- What the parts of a graph spell, whatever the walks are that go through them, as long as a choice goes on to each of its
-- states at the same place. A walk of n steps from state c at place i: `Goes n c i`.
use Rattle.std.proofs.Common.{◌≡◌, ℕ, zero, suc, ◌+◌, ◌-◌, ◌≤◌, ◌⊎◌, List, [], ◌∷◌, refl, sym, subst, inl, inr, ⊎_elim, arith, length}
use Rattle.std.specs.Prelude.{Bool, true, false, Option, Some, None, Contains, IfSome}
use Rattle.rx_model.specs.Meaning.{Pieces, IsCount}
use Rattle.rx_model.specs.Graph.{State, choice, Part, Builder, build_nothing, build_then, prefer, loop, loop_once, build_optional, copies, options, build_repetition, Parts, no_parts, build_beside, build_choice}
use Rattle.rx_model.proofs.lemmas.runs.MemberLemmas.{first-among, later-among, none-among, split-among}
use Rattle.rx_model.proofs.lemmas.graphs.PlacedLemmas.{Placed, Placed-front, Placed-back, Placed-first, Placed-rest}
use Rattle.rx_model.proofs.lemmas.graphs.StateLemmas.{IsStateOf}
use Rattle.rx_model.proofs.lemmas.meaning.PieceLemmas.{pieces-rise}

-- walks stay within the end, and go through choices
pub record Chooses (whole : List State) (Goes : ℕ → ℕ → ℕ → Type 0) (end : ℕ) : Type 0 where
  pub within : (n c i : ℕ) → Goes n c i → i ≤ end
  pub walked : (n c i : ℕ) (qs : List ℕ) → IsStateOf whole c (choice qs) → Goes n c i → (m : ℕ) × (n ≡ suc m) × (q : ℕ) × Contains qs q × Goes m q i
  pub walks : (m c i : ℕ) (qs : List ℕ) (q : ℕ) → IsStateOf whole c (choice qs) → Contains qs q → Goes m q i → Goes (suc m) c i

module _ (whole : List State) (Goes : ℕ → ℕ → ℕ → Type 0) (end : ℕ) (chooses : Chooses whole Goes end) where
  abbrev IsState : ℕ → State → Type 0
  IsState q s = IsStateOf whole q s

  -- The parts that the builder makes spell M: a walk through one is a piece that M means, and a shorter
  -- walk from the next state.
  pub record Spells (M : ℕ → ℕ → Type 0) (build : Builder) : Type 0 where
    pub rises : (i j : ℕ) → M i j → i ≤ j
    pub walked : (next base n i : ℕ) → Placed whole base (build next base).states → Goes n (build next base).start i
        → (j m : ℕ) × M i j × (m ≤ n) × Goes m next j
    pub walks : (next base m i j : ℕ) → Placed whole base (build next base).states → M i j → Goes m next j
        → (n : ℕ) × Goes n (build next base).start i

  pub Spells-nothing : Spells (λ i j. i ≡ j) build_nothing
  Spells-nothing = record {
    rises = λ i j e. omega arith;
    walked = λ next base n i placed h. (i, n, refl, omega arith, h);
    walks = λ next base m i j placed e h. (m, subst (λ k. Goes m next k) (sym e) h);
  }

  pub Spells-then : (M N : ℕ → ℕ → Type 0) (first second : Builder) → Spells M first → Spells N second
      → Spells (λ i j. (k : ℕ) × M i k × N k j) (build_then first second)
  Spells-then M N first second a b = record {
    rises = λ i j h. (let x = a.rises i h.0 h.1 in let y = b.rises h.0 j h.2 in omega arith);
    walked = λ next base n i placed h.
        (let s = second next base in
        let f = first s.start (base + length s.states) in
        let x = a.walked s.start (base + length s.states) n i (Placed-back whole base s.states f.states placed) h in
        let y = b.walked next base x.1 x.0 (Placed-front whole base s.states f.states placed) x.4 in
        (y.0, y.1, (x.0, x.2, y.2), (let p = x.3 in let q = y.3 in omega arith), y.4));
    walks = λ next base m i j placed h goes.
        (let s = second next base in
        let f = first s.start (base + length s.states) in
        let y = b.walks next base m h.0 j (Placed-front whole base s.states f.states placed) h.2 goes in
        a.walks s.start (base + length s.states) y.0 i h.0 (Placed-back whole base s.states f.states placed) h.1 y.1);
  }

  pub Spells-same : (M N : ℕ → ℕ → Type 0) (b : Builder) → Spells M b → ((i j : ℕ) → M i j → N i j) → ((i j : ℕ) → N i j → M i j) → Spells N b
  Spells-same M N b a to from = record {
    rises = λ i j h. a.rises i j (from i j h);
    walked = λ next base n i placed h. (let x = a.walked next base n i placed h in (x.0, x.1, to i x.0 x.2, x.3, x.4));
    walks = λ next base m i j placed h goes. a.walks next base m i j placed (from i j h) goes;
  }

  -- the same, where the walks are within the end
  pub Spells-within : (M N : ℕ → ℕ → Type 0) (b : Builder) → Spells M b → ((i j : ℕ) → N i j → i ≤ j) → ((i j : ℕ) → i ≤ j → j ≤ end → M i j → N i j)
      → ((i j : ℕ) → i ≤ j → j ≤ end → N i j → M i j) → Spells N b
  Spells-within M N b a rises to from = record {
    rises = rises;
    walked = λ next base n i placed h. (let x = a.walked next base n i placed h in
        (x.0, x.1, to i x.0 (a.rises i x.0 x.2) (chooses.within x.1 next x.0 x.4) x.2, x.3, x.4));
    walks = λ next base m i j placed h goes. a.walks next base m i j placed (from i j (rises i j h) (chooses.within m next j goes) h) goes;
  }

  -- a walk from a choice of two
  Goes-prefer : (n q i : ℕ) (greedy : Bool) (body exit : ℕ) → IsState q (prefer greedy body exit) → Goes n q i
      → (m : ℕ) × (n ≡ suc m) × (Goes m body i ⊎ Goes m exit i)
  Goes-prefer n q i true body exit is h =
      let x = chooses.walked n q i (body ∷ exit ∷ []) is h in (
        x.0,
        x.1,
        ⊎_elim (λ e. inl (subst (λ y. Goes x.0 y i) (sym e) x.4))
            (λ more. ⊎_elim (λ e. inr (subst (λ y. Goes x.0 y i) (sym e) x.4)) (λ none. absurd (none-among x.2 none)) (split-among exit x.2 [] more))
            (split-among body x.2 (exit ∷ []) x.3),
      )
  Goes-prefer n q i false body exit is h =
      let x = chooses.walked n q i (exit ∷ body ∷ []) is h in (
        x.0,
        x.1,
        ⊎_elim (λ e. inr (subst (λ y. Goes x.0 y i) (sym e) x.4))
            (λ more. ⊎_elim (λ e. inl (subst (λ y. Goes x.0 y i) (sym e) x.4)) (λ none. absurd (none-among x.2 none)) (split-among body x.2 [] more))
            (split-among exit x.2 (body ∷ []) x.3),
      )

  prefer-Goes-body : (m q i : ℕ) (greedy : Bool) (body exit : ℕ) → IsState q (prefer greedy body exit) → Goes m body i → Goes (suc m) q i
  prefer-Goes-body m q i true body exit is h = chooses.walks m q i (body ∷ exit ∷ []) body is (first-among body (exit ∷ [])) h
  prefer-Goes-body m q i false body exit is h = chooses.walks m q i (exit ∷ body ∷ []) body is (later-among exit body (body ∷ []) (first-among body [])) h

  prefer-Goes-exit : (m q i : ℕ) (greedy : Bool) (body exit : ℕ) → IsState q (prefer greedy body exit) → Goes m exit i → Goes (suc m) q i
  prefer-Goes-exit m q i true body exit is h = chooses.walks m q i (body ∷ exit ∷ []) exit is (later-among body exit (exit ∷ []) (first-among exit [])) h
  prefer-Goes-exit m q i false body exit is h = chooses.walks m q i (exit ∷ body ∷ []) exit is (first-among exit (body ∷ [])) h

  module _ (M : ℕ → ℕ → Type 0) (greedy : Bool) (body : Builder) (a : Spells M body) where
    pub Spells-optional : Spells (λ i j. M i j ⊎ (i ≡ j)) (build_optional greedy body)
    Spells-optional = record {
      rises = λ i j h. elim h [ inl m ↦ a.rises i j m | inr e ↦ omega arith ];
      walked = λ next base n i placed h.
          (let b = body next (suc base) in
          let x = Goes-prefer n base i greedy b.start next (Placed-first whole base (prefer greedy b.start next) b.states placed) h in
          elim x.2 [
            | inl goes ↦
                let y = a.walked next (suc base) x.0 i (Placed-rest whole base (prefer greedy b.start next) b.states placed) goes in
                (y.0, y.1, inl y.2, (let e = x.1 in let le = y.3 in omega arith), y.4)
            | inr goes ↦ (i, x.0, inr refl, (let e = x.1 in omega arith), goes)
          ]);
      walks = λ next base m i j placed h goes.
          (let b = body next (suc base) in
          let is = Placed-first whole base (prefer greedy b.start next) b.states placed in
          elim h [
            | inl piece ↦
                let y = a.walks next (suc base) m i j (Placed-rest whole base (prefer greedy b.start next) b.states placed) piece goes in
                (suc y.0, prefer-Goes-body y.0 base i greedy b.start next is y.1)
            | inr e ↦ (suc m, prefer-Goes-exit m base i greedy b.start next is (subst (λ k. Goes m next k) (sym e) goes))
          ]);
    }

    module _ (next base : ℕ) (placed : Placed whole base (loop greedy body next base).states) where
      abbrev inner : Part
      inner = body base (suc base)

      is_choice : IsState base (prefer greedy inner.start next)
      is_choice = Placed-first whole base (prefer greedy inner.start next) inner.states placed

      is_body : Placed whole (suc base) inner.states
      is_body = Placed-rest whole base (prefer greedy inner.start next) inner.states placed

      -- a walk from the choice
      rounds-walked : (bound n i : ℕ) → n ≤ bound → Goes n base i → (j m : ℕ) × ((k : ℕ) × Pieces M k i j) × (m ≤ n) × Goes m next j
      rounds-walked zero n i le h =
          let x = Goes-prefer n base i greedy inner.start next is_choice h in
          let e = x.1 in absurd (omega arith)
      rounds-walked (suc bound) n i le h =
          let x = Goes-prefer n base i greedy inner.start next is_choice h in
          let e = x.1 in
          elim x.2 [
            | inl goes ↦
                let y = a.walked base (suc base) x.0 i is_body goes in
                let less = y.3 in
                let z = rounds-walked bound y.1 y.0 (omega arith) y.4 in
                (z.0, z.1, (suc z.2.0, (y.0, y.2, z.2.1)), (let le' = z.3 in omega arith), z.4)
            | inr goes ↦ (i, x.0, (0, refl), omega arith, goes)
          ]

      rounds-walk : (k m i j : ℕ) → Pieces M k i j → Goes m next j → (n : ℕ) × Goes n base i
      rounds-walk zero m i j e goes = (suc m, prefer-Goes-exit m base i greedy inner.start next is_choice (subst (λ x. Goes m next x) (sym e) goes))
      rounds-walk (suc k) m i j h goes =
          let later = rounds-walk k m h.0 j h.2 goes in
          let now = a.walks base (suc base) later.0 i h.0 is_body h.1 later.1 in
          (suc now.0, prefer-Goes-body now.0 base i greedy inner.start next is_choice now.1)

    pub Spells-loop : Spells (λ i j. (k : ℕ) × Pieces M k i j) (loop greedy body)
    Spells-loop = record {
      rises = λ i j h. pieces-rise M a.rises h.0 i j h.1;
      walked = λ next base n i placed h. rounds-walked next base placed n n i (omega arith) h;
      walks = λ next base m i j placed h goes. rounds-walk next base placed h.0 m i j h.1 goes;
    }

    pub Spells-loop_once : Spells (λ i j. (k : ℕ) × Pieces M (suc k) i j) (loop_once greedy body)
    Spells-loop_once = record {
      rises = λ i j h. pieces-rise M a.rises (suc h.0) i j h.1;
      walked = λ next base n i placed h.
          (let x = a.walked base (suc base) n i (is_body next base placed) h in
          let y = rounds-walked next base placed x.1 x.1 x.0 (omega arith) x.4 in
          (y.0, y.1, (y.2.0, (x.0, x.2, y.2.1)), (let p = x.3 in let q = y.3 in omega arith), y.4));
      walks = λ next base m i j placed h goes.
          (let later = rounds-walk next base placed h.0 m h.1.0 j h.1.2 goes in
          a.walks base (suc base) later.0 i h.1.0 (is_body next base placed) h.1.1 later.1);
    }

    Pieces-append : (m n i k j : ℕ) → Pieces M m i k → Pieces M n k j → Pieces M (m + n) i j
    Pieces-append zero n i k j e h = let zero_more : n ≡ zero + n = omega arith in subst (λ c. Pieces M c i j) zero_more (subst (λ x. Pieces M n x j) (sym e) h)
    Pieces-append (suc m) n i k j h later =
        let moved : suc (m + n) ≡ suc m + n = omega arith in
        subst (λ c. Pieces M c i j) moved (h.0, h.1, Pieces-append m n h.0 k j h.2 later)

    Pieces-split : (m n i j : ℕ) → Pieces M (m + n) i j → (k : ℕ) × Pieces M m i k × Pieces M n k j
    Pieces-split zero n i j h = let zero_more : zero + n ≡ n = omega arith in (i, refl, subst (λ c. Pieces M c i j) zero_more h)
    Pieces-split (suc m) n i j h =
        let moved : suc m + n ≡ suc (m + n) = omega arith in
        let h' : Pieces M (suc (m + n)) i j = subst (λ c. Pieces M c i j) moved h in
        let x = Pieces-split m n h'.0 j h'.2 in
        (x.0, (h'.0, h'.1, x.1), x.2)

    -- n copies and the last part
    Spells-copies : (L : ℕ → ℕ → Type 0) (last : Builder) → Spells L last → (n : ℕ) → Spells (λ i j. (k : ℕ) × Pieces M n i k × L k j) (copies n body last)
    Spells-copies L last l zero =
        Spells-same L (λ i j. (k : ℕ) × (i ≡ k) × L k j) last l (λ i j h. (i, refl, h)) (λ i j h. subst (λ x. L x j) (sym h.1) h.2)
    Spells-copies L last l (suc n) =
        Spells-same (λ i j. (k : ℕ) × M i k × ((x : ℕ) × Pieces M n k x × L x j)) (λ i j. (k : ℕ) × Pieces M (suc n) i k × L k j) (copies (suc n) body last)
        (Spells-then M (λ i j. (x : ℕ) × Pieces M n i x × L x j) body (copies n body last) a (Spells-copies L last l n))
        (λ i j h. (h.2.0, (h.0, h.1, h.2.1), h.2.2)) (λ i j h. (h.1.0, h.1.1, (h.0, h.1.2, h.2)))

    -- up to n options
    Spells-options : (n : ℕ) → Spells (λ i j. (k : ℕ) × (k ≤ n) × Pieces M k i j) (options greedy n body)
    Spells-options zero =
        Spells-same (λ i j. i ≡ j) (λ i j. (k : ℕ) × (k ≤ 0) × Pieces M k i j) build_nothing Spells-nothing
        (λ i j e. (0, omega arith, e)) (λ i j h. (let le = h.1 in let none : h.0 ≡ 0 = omega arith in subst (λ k. Pieces M k i j) none h.2))
    Spells-options (suc n) =
        let later = Spells-options n in
        record {
          rises = λ i j h. pieces-rise M a.rises h.0 i j h.2;
          walked = λ next base x i placed h.
              (let o = options greedy n body next base in
              let c = base + length o.states in
              let b = body o.start (suc c) in
              let front = Placed-front whole base o.states (prefer greedy b.start next ∷ b.states) placed in
              let back = Placed-back whole base o.states (prefer greedy b.start next ∷ b.states) placed in
              let step = Goes-prefer x c i greedy b.start next (Placed-first whole c (prefer greedy b.start next) b.states back) h in
              elim step.2 [
                | inl goes ↦
                    let y = a.walked o.start (suc c) step.0 i (Placed-rest whole c (prefer greedy b.start next) b.states back) goes in
                    let z = later.walked next base y.1 y.0 front y.4 in (
                      z.0,
                      z.1,
                      (suc z.2.0, (let le = z.2.1 in omega arith), (y.0, y.2, z.2.2)),
                      (let e = step.1 in let p = y.3 in let q = z.3 in omega arith),
                      z.4,
                    )
                | inr goes ↦ (i, step.0, (0, omega arith, refl), (let e = step.1 in omega arith), goes)
              ]);
          walks = λ next base m i j placed h goes.
              (let o = options greedy n body next base in
              let c = base + length o.states in
              let b = body o.start (suc c) in
              let front = Placed-front whole base o.states (prefer greedy b.start next ∷ b.states) placed in
              let back = Placed-back whole base o.states (prefer greedy b.start next ∷ b.states) placed in
              let is = Placed-first whole c (prefer greedy b.start next) b.states back in
              options-walk (λ m' k' j'. later.walks next base m' k' j' front) is
              (λ m' i' k'. a.walks o.start (suc c) m' i' k' (Placed-rest whole c (prefer greedy b.start next) b.states back)) m i j h.0 h.1 h.2 goes);
        }
      where
        options-walk : {next start c q : ℕ}
            → ((m k j : ℕ) → ((x : ℕ) × (x ≤ n) × Pieces M x k j) → Goes m next j → (y : ℕ) × Goes y start k)
            → IsState c (prefer greedy q next)
            → ((m i k : ℕ) → M i k → Goes m start k → (y : ℕ) × Goes y q i)
            → (m i j k : ℕ) → k ≤ suc n → Pieces M k i j → Goes m next j → (y : ℕ) × Goes y c i
        options-walk {next} {start} {c} {q} later is now m i j zero le e goes = (
          suc m,
          prefer-Goes-exit m c i greedy q next is
              (subst (λ x. Goes m next x) (sym e) goes),
        )
        options-walk {next} {start} {c} {q} later is now m i j (suc k) le h goes =
            let x = later m h.0 j (k, omega arith, h.2) goes in
            let y = now x.0 i h.0 h.1 x.1 in
            (suc y.0, prefer-Goes-body y.0 c i greedy q next is y.1)

    Spells-between : (n m : ℕ) → n ≤ m → Spells (λ i j. (x : ℕ) × IsCount n (Some m) x × Pieces M x i j) (copies n body (options greedy (m - n) body))
    Spells-between n m le =
        Spells-same (λ i j. (k : ℕ) × Pieces M n i k × ((x : ℕ) × (x ≤ m - n) × Pieces M x k j)) (λ i j. (x : ℕ) × IsCount n (Some m) x × Pieces M x i j)
        (copies n body (options greedy (m - n) body))
        (Spells-copies (λ i j. (x : ℕ) × (x ≤ m - n) × Pieces M x i j) (options greedy (m - n) body) (Spells-options (m - n)) n)
        (λ i j h. (n + h.2.0, (omega arith, (let few = h.2.1 in omega arith)), Pieces-append n h.2.0 i h.0 j h.1 h.2.2))
        (λ i j h. (let low = h.1.0 in
        let high = h.1.1 in
        let split : h.0 ≡ n + (h.0 - n) = omega arith in
        let x = Pieces-split n (h.0 - n) i j (subst (λ c. Pieces M c i j) split h.2) in
        (x.0, x.1, (h.0 - n, omega arith, x.2))))

  module _ (M : ℕ → ℕ → Type 0) (greedy : Bool) (body : Builder) (a : Spells M body) where
    -- a repetition whose counts are in order
    pub Spells-repetition : (consumes : Bool) (min : ℕ) (max : Option ℕ) → IfSome max (λ m. min ≤ m)
        → Spells (λ i j. (n : ℕ) × IsCount min max n × Pieces M n i j) (build_repetition consumes min max greedy body)
    Spells-repetition true zero None ordered =
        Spells-same (λ i j. (k : ℕ) × Pieces M k i j) (λ i j. (n : ℕ) × IsCount zero None n × Pieces M n i j) (loop greedy body) (Spells-loop M greedy body a)
        (λ i j h. (h.0, (omega arith, tt), h.1)) (λ i j h. (h.0, h.2))
    Spells-repetition false zero None ordered =
        Spells-same (λ i j. ((k : ℕ) × Pieces M (suc k) i j) ⊎ (i ≡ j)) (λ i j. (n : ℕ) × IsCount zero None n × Pieces M n i j)
        (build_optional greedy (loop_once greedy body))
        (Spells-optional (λ i j. (k : ℕ) × Pieces M (suc k) i j) greedy (loop_once greedy body) (Spells-loop_once M greedy body a))
        (λ i j h. elim h [ inl more ↦ (suc more.0, (omega arith, tt), more.1) | inr e ↦ (0, (omega arith, tt), e) ])
        (λ i j h. any_number h.0 i j h.2)
      where
        any_number : (n i j : ℕ) → Pieces M n i j → ((k : ℕ) × Pieces M (suc k) i j) ⊎ (i ≡ j)
        any_number zero i j e = inr e
        any_number (suc n) i j h = inl (n, h)
    Spells-repetition consumes (suc n) None ordered =
        Spells-same (λ i j. (k : ℕ) × Pieces M n i k × ((x : ℕ) × Pieces M (suc x) k j)) (λ i j. (x : ℕ) × IsCount (suc n) None x × Pieces M x i j)
        (copies n body (loop_once greedy body))
        (Spells-copies M greedy body a (λ i j. (x : ℕ) × Pieces M (suc x) i j) (loop_once greedy body) (Spells-loop_once M greedy body a) n)
        (λ i j h. (n + suc h.2.0, (omega arith, tt), Pieces-append M greedy body a n (suc h.2.0) i h.0 j h.1 h.2.1))
        (λ i j h. (let le = h.1.0 in
        let split : h.0 ≡ n + suc (h.0 - suc n) = omega arith in
        let x = Pieces-split M greedy body a n (suc (h.0 - suc n)) i j (subst (λ c. Pieces M c i j) split h.2) in
        (x.0, x.1, (h.0 - suc n, x.2))))
    Spells-repetition consumes zero (Some m) ordered = Spells-between M greedy body a zero m ordered
    Spells-repetition consumes (suc n) (Some m) ordered = Spells-between M greedy body a (suc n) m ordered

  -- alternatives
  pub record SpellsOne (M : ℕ → ℕ → Type 0) (parts : (next base : ℕ) → Parts) : Type 0 where
    pub rises : (i j : ℕ) → M i j → i ≤ j
    pub walked : (next base n i q : ℕ) → Placed whole base (parts next base).states → Contains (parts next base).starts q → Goes n q i
        → (j m : ℕ) × M i j × (m ≤ n) × Goes m next j
    pub walks : (next base m i j : ℕ) → Placed whole base (parts next base).states → M i j → Goes m next j
        → (n q : ℕ) × Contains (parts next base).starts q × Goes n q i

  pub SpellsOne-none : SpellsOne (λ i j. ⊥) no_parts
  SpellsOne-none = record {
    rises = λ i j h. absurd h;
    walked = λ next base n i q placed m h. absurd (let lt = m.1 in omega arith);
    walks = λ next base m i j placed h goes. absurd h;
  }

  pub SpellsOne-beside : (M N : ℕ → ℕ → Type 0) (first : Builder) (others : (next base : ℕ) → Parts) → Spells M first → SpellsOne N others
      → SpellsOne (λ i j. M i j ⊎ N i j) (build_beside first others)
  SpellsOne-beside M N first others a b = record {
    rises = λ i j h. elim h [ inl x ↦ a.rises i j x | inr y ↦ b.rises i j y ];
    walked = λ next base n i q placed m h.
        (let f = first next base in
        let o = others next (base + length f.states) in
        elim (split-among f.start q o.starts m) [
          | inl e ↦
              let x = a.walked next base n i (Placed-front whole base f.states o.states placed) (subst (λ s. Goes n s i) (sym e) h) in
              (x.0, x.1, inl x.2, x.3, x.4)
          | inr more ↦
              let y = b.walked next (base + length f.states) n i q (Placed-back whole base f.states o.states placed) more h in
              (y.0, y.1, inr y.2, y.3, y.4)
        ]);
    walks = λ next base m i j placed h goes.
        (let f = first next base in
        let o = others next (base + length f.states) in
        elim h [
          | inl x ↦
              let y = a.walks next base m i j (Placed-front whole base f.states o.states placed) x goes in
              (y.0, f.start, (0, omega arith, refl), y.1)
          | inr x ↦
              let y = b.walks next (base + length f.states) m i j (Placed-back whole base f.states o.states placed) x goes in
              (y.0, y.1, (suc y.2.0, (let lt = y.2.1 in omega arith), y.2.2), y.3)
        ]);
  }

  pub SpellsOne-same : (M N : ℕ → ℕ → Type 0) (p : ((next base : ℕ) → Parts)) → SpellsOne M p → ((i j : ℕ) → M i j → N i j) → ((i j : ℕ) → N i j → M i j)
      → SpellsOne N p
  SpellsOne-same M N p a to from = record {
    rises = λ i j h. a.rises i j (from i j h);
    walked = λ next base n i q placed m h. (let x = a.walked next base n i q placed m h in (x.0, x.1, to i x.0 x.2, x.3, x.4));
    walks = λ next base m i j placed h goes. a.walks next base m i j placed (from i j h) goes;
  }

  pub Spells-choice : (M : ℕ → ℕ → Type 0) (parts : ((next base : ℕ) → Parts)) → SpellsOne M parts → Spells M (build_choice parts)
  Spells-choice M parts a = record {
    rises = a.rises;
    walked = λ next base n i placed h.
        (let p = parts next base in
        let c = base + length p.states in
        let is = Placed-first whole c (choice p.starts) [] (Placed-back whole base p.states (choice p.starts ∷ []) placed) in
        let x = chooses.walked n c i p.starts is h in
        let z = a.walked next base x.0 i x.2 (Placed-front whole base p.states (choice p.starts ∷ []) placed) x.3 x.4 in
        (z.0, z.1, z.2, (let e = x.1 in let le = z.3 in omega arith), z.4));
    walks = λ next base m i j placed h goes.
        (let p = parts next base in
        let c = base + length p.states in
        let is = Placed-first whole c (choice p.starts) [] (Placed-back whole base p.states (choice p.starts ∷ []) placed) in
        let x = a.walks next base m i j (Placed-front whole base p.states (choice p.starts ∷ []) placed) h goes in
        (suc x.0, chooses.walks x.0 c i p.starts x.1 is x.2 x.3));
  }
