-- What lists of alternatives spell that are made one after another.
use Rattle.std.proofs.Common.{ℕ, suc, ◌+◌, ◌≤◌, ◌⊎◌, List, [], ◌∷◌, ◌++◌, refl, sym, subst, inl, inr, ⊎_elim, arith, length}
use Rattle.std.specs.Prelude.{Contains, map}
use Rattle.rx_model.specs.Graph.{State, choice, Builder, no_parts}
use Rattle.rx_model.proofs.lemmas.graphs.PlacedLemmas.{Placed, Placed-front, Placed-back, Placed-first}
use Rattle.rx_model.proofs.lemmas.graphs.StateLemmas.{IsStateOf}
use Rattle.rx_model.proofs.lemmas.runs.MemberLemmas.{first-among, only-among, none-among, split-among, either-among, front-among, back-among}
use Rattle.rx_model.proofs.lemmas.meaning.PartLemmas.{Chooses, Spells, SpellsOne, SpellsOne-none, SpellsOne-same}
use Rattle.rx_nfa.specs.Directed.{PartsBuilder, build_both, build_all, build_one, join, build_joined}

module _ (whole : List State) (Goes : ℕ → ℕ → ℕ → Type 0) (end : ℕ) (chooses : Chooses whole Goes end) where
  pub SpellsOne-both : (M N : ℕ → ℕ → Type 0) (first second : PartsBuilder) → SpellsOne whole Goes end chooses M first
      → SpellsOne whole Goes end chooses N second → SpellsOne whole Goes end chooses (λ i j. M i j ⊎ N i j) (build_both first second)
  SpellsOne-both M N first second a b = record {
    rises = λ i j h. elim h [ inl x ↦ a.rises i j x | inr y ↦ b.rises i j y ];
    walked = λ next base n i q placed m h.
        (let f = first next base in
        let s = second next (base + length f.states) in
        elim (either-among f.starts s.starts q m) [
          | inl here ↦ let x = a.walked next base n i q (Placed-front whole base f.states s.states placed) here h in (x.0, x.1, inl x.2, x.3, x.4)
          | inr more ↦ let y =
              b.walked next (base + length f.states) n i q (Placed-back whole base f.states s.states placed) more h in (y.0, y.1, inr y.2, y.3, y.4)
        ]);
    walks = λ next base m i j placed h goes.
        (let f = first next base in
        let s = second next (base + length f.states) in
        elim h [
          | inl x ↦ let y =
              a.walks next base m i j (Placed-front whole base f.states s.states placed) x goes in (y.0, y.1, front-among f.starts s.starts y.1 y.2, y.3)
          | inr x ↦ let y = b.walks next (base + length f.states) m i j (Placed-back whole base f.states s.states placed) x
              goes in (y.0, y.1, back-among f.starts s.starts y.1 y.2, y.3)
        ]);
  }

  -- a part as the only alternative
  pub SpellsOne-one : (M : ℕ → ℕ → Type 0) (b : Builder) → Spells whole Goes end chooses M b → SpellsOne whole Goes end chooses M (build_one b)
  SpellsOne-one M b a = record {
    rises = a.rises;
    walked = λ next base n i q placed m h.
        (let e = only-among (b next base).start q m in a.walked next base n i placed (subst (λ y. Goes n y i) (sym e) h));
    walks = λ next base m i j placed h goes.
        (let x = a.walks next base m i j placed h goes in (x.0, (b next base).start, first-among (b next base).start [], x.1));
  }

  -- The only alternative, or a choice.

  joined-placed : (starts : List ℕ) (states : List State) (base : ℕ) → Placed whole base (join starts states base).states → Placed whole base states
  joined-placed [] states base placed = Placed-front whole base states (choice [] ∷ []) placed
  joined-placed (q ∷ []) states base placed = placed
  joined-placed (q ∷ r ∷ qs) states base placed = Placed-front whole base states (choice (q ∷ r ∷ qs) ∷ []) placed

  is-chosen : (starts : List ℕ) (states : List State) (base : ℕ) → Placed whole base (states ++ choice starts ∷ [])
      → IsStateOf whole (base + length states) (choice starts)
  is-chosen starts states base placed = Placed-first whole (base + length states) (choice starts) [] (Placed-back whole base states (choice starts ∷ []) placed)

  chosen-walked : (starts : List ℕ) (states : List State) (base n i : ℕ) → Placed whole base (states ++ choice starts ∷ []) → Goes n (base + length states) i
      → (m q : ℕ) × Contains starts q × Goes m q i × (m ≤ n)
  chosen-walked starts states base n i placed h =
      let x = chooses.walked n (base + length states) i starts (is-chosen starts states base placed) h in
      (x.0, x.2, x.3, x.4, (let e = x.1 in omega arith))

  joined-walked : (starts : List ℕ) (states : List State) (base n i : ℕ) → Placed whole base (join starts states base).states
      → Goes n (join starts states base).start i → (m q : ℕ) × Contains starts q × Goes m q i × (m ≤ n)
  joined-walked [] states base n i placed h = chosen-walked [] states base n i placed h
  joined-walked (q ∷ []) states base n i placed h = (n, q, first-among q [], h, omega arith)
  joined-walked (q ∷ r ∷ qs) states base n i placed h = chosen-walked (q ∷ r ∷ qs) states base n i placed h

  joined-walk : (starts : List ℕ) (states : List State) (base n q i : ℕ) → Placed whole base (join starts states base).states → Contains starts q → Goes n q i
      → (m : ℕ) × Goes m (join starts states base).start i
  joined-walk [] states base n q i placed m h = absurd (none-among q m)
  joined-walk (r ∷ []) states base n q i placed m h = (n, subst (λ y. Goes n y i) (sym (only-among r q m)) h)
  joined-walk (r ∷ s ∷ rs) states base n q i placed m h =
      (suc n, chooses.walks n (base + length states) i (r ∷ s ∷ rs) q (is-chosen (r ∷ s ∷ rs) states base placed) m h)

  pub Spells-joined : (M : ℕ → ℕ → Type 0) (parts : PartsBuilder) → SpellsOne whole Goes end chooses M parts
      → Spells whole Goes end chooses M (build_joined parts)
  Spells-joined M parts a = record {
    rises = a.rises;
    walked = λ next base n i placed h.
        (let p = parts next base in
        let x = joined-walked p.starts p.states base n i placed h in
        let z = a.walked next base x.0 i x.1 (joined-placed p.starts p.states base placed) x.2 x.3 in
        (z.0, z.1, z.2, (let le = x.4 in let le' = z.3 in omega arith), z.4));
    walks = λ next base m i j placed h goes.
        (let p = parts next base in
        let x = a.walks next base m i j (joined-placed p.starts p.states base placed) h goes in
        joined-walk p.starts p.states base x.0 x.1 i placed x.2 x.3);
  }

  -- what one of a list of alternatives spells
  pub SpellsOne-all : {A : Type 0} (build : A → PartsBuilder) (M : A → ℕ → ℕ → Type 0) (xs : List A)
      → ((x : A) → Contains xs x → SpellsOne whole Goes end chooses (M x) (build x))
      → SpellsOne whole Goes end chooses (λ i j. (x : A) × Contains xs x × M x i j) (build_all (map build xs))
  SpellsOne-all {A} build M [] each =
      SpellsOne-same whole Goes end chooses (λ i j. ⊥) (λ i j. (x : A) × Contains [] x × M x i j) no_parts (SpellsOne-none whole Goes end chooses)
      (λ i j h. absurd h) (λ i j h. (let lt = h.1.1 in absurd (omega arith)))
  SpellsOne-all {A} build M (x ∷ xs) each =
      SpellsOne-same whole Goes end chooses (λ i j. M x i j ⊎ ((y : A) × Contains xs y × M y i j)) (λ i j. (y : A) × Contains (x ∷ xs) y × M y i j)
      (build_both (build x) (build_all (map build xs)))
      (SpellsOne-both (M x) (λ i j. (y : A) × Contains xs y × M y i j) (build x) (build_all (map build xs)) (each x (0, omega arith, refl))
      (SpellsOne-all build M xs (λ y m. each y (suc m.0, (let lt = m.1 in omega arith), m.2))))
      (λ i j h. elim h [ inl m ↦ (x, (0, omega arith, refl), m) | inr more ↦ (more.0, (suc more.1.0, (let lt = more.1.1 in omega arith), more.1.2), more.2) ])
      (λ i j h. ⊎_elim (λ e. inl (subst (λ z. M z i j) (sym e) h.2)) (λ more. inr (h.0, more, h.2)) (split-among x h.0 xs h.1))
