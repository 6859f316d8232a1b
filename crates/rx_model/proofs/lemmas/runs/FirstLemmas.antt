-- The search in order of preference finds the least accepting run.
use Rattle.std.proofs.Common.{◌≡◌, ◌≢◌, ◌⊎◌, List, [], ◌∷◌, refl, sym, ◌∙◌, ap, subst, inl, inr, arith}
use Rattle.std.specs.Prelude.{Option, Some, None, option_map, is_some, Contains}
use Rattle.rx_model.specs.Runs.{Configuration, PriorityGraph, Passed, and_at, IsRun, IsBefore, IsLess, IsFirst, first_some, first_past, IsBounded}
use Rattle.rx_model.proofs.lemmas.runs.RunLemmas.{by_test, equal_or_not, same-differ, past-passed, past-accepted, past-step}
use Rattle.rx_model.proofs.lemmas.runs.MemberLemmas.{first-among, later-among, split-among}

pub some-is : {A : Type 0} {x y : A} → ◌≡◌ {A = Option A} (Some x) (Some y) → x ≡ y
some-is e = cc

pub none-is-some : {A P : Type 0} {x : A} → ◌≡◌ {A = Option A} None (Some x) → P
none-is-some e = cc

-- what is known of an option
abbrev pub Tells : {A : Type 0} → Option A → Type 0
Tells {A} o = (o ≡ None) ⊎ ((x : A) × (o ≡ Some x))

pub tells : {A : Type 0} (o : Option A) → Tells o
tells None = inl refl
tells (Some x) = inr (x, refl)

-- the search takes a successor that leads to a run
pub taken : (go : Configuration → Option (List Configuration)) (ds run : List Configuration) → first_some (λ d. option_map (λ r. d ∷ r) (go d)) ds ≡ Some run
    → (d : Configuration) × (r : List Configuration) × (run ≡ d ∷ r) × Contains ds d × (go d ≡ Some r)
taken go [] run h = none-is-some h
taken go (x ∷ xs) run h =
    elim (tells (go x)) [
      | inl none ↦ let rest = taken go xs run (rw none at h) in (rest.0, rest.1, rest.2, later-among x rest.0 xs rest.3, rest.4)
      | inr some ↦ (x, some.0, sym (some-is (rw some.1 at h)), first-among x xs, some.1)
    ]

-- it takes one at or before each that leads to a run
pub taken_early : (go : Configuration → Option (List Configuration)) (ds : List Configuration) (e : Configuration) (s : List Configuration) → Contains ds e
    → go e ≡ Some s
    → (d : Configuration) × (r : List Configuration) × (first_some (λ x. option_map (λ t. x ∷ t) (go x)) ds ≡ Some (d ∷ r)) × (go d ≡ Some r)
    × (IsBefore ds d e ⊎ (d ≡ e))
taken_early go [] e s member found = absurd (let lt = member.1 in omega arith)
taken_early go (x ∷ xs) e s member found =
    elim (equal_or_not x e) [
      | inl equal ↦ let found' : go x ≡ Some s = ap go equal ∙ found in (x, s, rw found' refl, found', inr equal)
      | inr apart ↦
          let differ : x ≢ e = same-differ x e apart in
          elim (tells (go x)) [
            | inl none ↦
                let member' : Contains xs e = elim (split-among x e xs member) [ inl equal ↦ absurd (differ equal) | inr m ↦ m ] in
                let rest = taken_early go xs e s member' found in
                (rest.0, rest.1, rw none rest.2, rest.3, elim rest.4 [ inl before ↦ inl (differ, inr before) | inr equal ↦ inr equal ])
            | inr some ↦ (x, some.0, rw some.1 refl, some.1, inl (differ, inl refl))
          ]
    ]

before-itself : (xs : List Configuration) (d : Configuration) → IsBefore xs d d → ⊥
before-itself [] d h = h
before-itself (x ∷ xs) d h = elim h.1 [ inl e ↦ h.0 e | inr later ↦ before-itself xs d later ]

before-both : (xs : List Configuration) (d e : Configuration) → IsBefore xs d e → IsBefore xs e d → ⊥
before-both [] d e h k = h
before-both (x ∷ xs) d e h k =
    elim h.1 [
      | inl is ↦ k.0 is
      | inr later ↦ elim k.1 [ inl is ↦ h.0 is | inr later' ↦ before-both xs d e later later' ]
    ]

-- of two runs one is less
less-both : (g : PriorityGraph) (c : Configuration) (r s : List Configuration) → IsLess g c r s → IsLess g c s r → ⊥
less-both g c [] [] h k = h
less-both g c [] (e ∷ s) h k = k
less-both g c (d ∷ r) [] h k = h
less-both g c (d ∷ r) (e ∷ s) h k =
    elim h [
      | inl before ↦
          elim k [
            | inl before' ↦ before-both (g.successors c) d e before before'
            | inr later ↦ before-itself (g.successors c) d (subst (λ x. IsBefore (g.successors c) d x) later.0 before)
          ]
      | inr later ↦
          elim k [
            | inl before ↦ before-itself (g.successors c) e (subst (λ x. IsBefore (g.successors c) e x) later.0 before)
            | inr later' ↦ less-both g d r s later.1 (subst (λ x. IsLess g x s r) later'.0 later'.1)
          ]
    ]

module _ (g : PriorityGraph) (bounded : IsBounded g) where
  -- a run that is found is one
  pub found-is_run : (run : List Configuration) (p : Passed) (c : Configuration) → first_past g p c ≡ Some run → IsRun g p c run
  found-is_run [] p c h =
      by_test (p c)
      (λ seen. none-is-some (sym (past-passed g p c seen) ∙ h))
      (λ new.
      by_test (is_some (g.accepted c))
      (λ accepts. (new, accepts))
      (λ none.
      let t = taken (first_past g (and_at c p)) (g.successors c) [] (sym (past-step g p bounded c new none) ∙ h) in
      absurd (let e = t.2 in cc)))
  found-is_run (d ∷ run) p c h =
      by_test (p c)
      (λ seen. none-is-some (sym (past-passed g p c seen) ∙ h))
      (λ new.
      by_test (is_some (g.accepted c))
      (λ accepts. absurd (let e = some-is (sym (past-accepted g p bounded c new accepts) ∙ h) in cc))
      (λ none.
      let t = taken (first_past g (and_at c p)) (g.successors c) (d ∷ run) (sym (past-step g p bounded c new none) ∙ h) in
      let heads : d ≡ t.0 = let e = t.2 in cc in
      let tails : run ≡ t.1 = let e = t.2 in cc in (
        new,
        subst (λ x. Contains (g.successors c) x) (sym heads) t.3,
        found-is_run run (and_at c p) d (ap (first_past g (and_at c p)) heads ∙ t.4 ∙ ap Some (sym tails)),
      )))

  -- where later-among is a run, one is found that is at most that
  pub run-is_found : (run : List Configuration) (p : Passed) (c : Configuration) → IsRun g p c run
      → (r : List Configuration) × (first_past g p c ≡ Some r) × ((r ≡ run) ⊎ IsLess g c r run)
  run-is_found [] p c run = ([], past-accepted g p bounded c run.0 run.1, inl refl)
  run-is_found (e ∷ s) p c run =
      by_test (is_some (g.accepted c))
      (λ accepts. ([], past-accepted g p bounded c run.0 accepts, inr tt))
      (λ none.
      let later = run-is_found s (and_at c p) e run.2 in
      let t = taken_early (first_past g (and_at c p)) (g.successors c) e later.0 run.1 later.1 in (
        t.0 ∷ t.1,
        past-step g p bounded c run.0 none ∙ t.2,
        elim t.4 [
          | inl before ↦ inr (inl before)
          | inr equal ↦
              let same_run : t.1 ≡ later.0 = some-is (sym t.3 ∙ ap (first_past g (and_at c p)) equal ∙ later.1) in
              elim later.2 [
                | inl e ↦ inl (λ i. equal i ∷ (same_run ∙ e) i)
                | inr less ↦ inr (inr (equal, subst (λ x. IsLess g x t.1 s) (sym equal) (subst (λ y. IsLess g e y s) (sym same_run) less)))
              ]
        ],
      ))

  -- the answer of the search is the least accepting run
  pub first-is_first : (p : Passed) (c : Configuration) (run : List Configuration) → first_past g p c ≡ Some run → IsFirst g p c run
  first-is_first p c run h = record {
    accepting = found-is_run run p c h;
    least = λ other is.
        let found = run-is_found other p c is in
        let e : found.0 ≡ run = some-is (sym found.1 ∙ h) in
        subst (λ r. (r ≡ other) ⊎ IsLess g c r other) e found.2;
  }

  -- where it finds none, later-among is none
  pub none-is_none : (p : Passed) (c : Configuration) → first_past g p c ≡ None → (run : List Configuration) → IsRun g p c run → ⊥
  none-is_none p c h run is = let found = run-is_found run p c is in none-is-some (sym h ∙ found.1)

  -- the least accepting run is the answer of the search
  pub is_first-found : (p : Passed) (c : Configuration) (run : List Configuration) → IsFirst g p c run → first_past g p c ≡ Some run
  is_first-found p c run first =
      let found = run-is_found run p c first.accepting in
      let same : found.0 ≡ run =
      elim found.2 [
        | inl e ↦ e
        | inr less ↦
            elim (first.least found.0 (found-is_run found.0 p c found.1)) [
              | inl e ↦ sym e
              | inr less' ↦ absurd (less-both g c found.0 run less less')
            ]
      ] in
      found.1 ∙ ap Some same
