-- The states of a graph at known places: the steps from them, and what they accept.
use Rattle.std.proofs.Common.{◌≡◌, ℕ, ◌+◌, ◌≤◌, ◌<◌, ◌⊎◌, List, [], ◌∷◌, refl, ap, subst, inl, inr, arith, length, get_or}
use Rattle.std.proofs.lemmas.Bool.Decides.{nat_tests}
use Rattle.std.specs.Prelude.{Bool, true, false, Option, Some, None, Contains, nat_le}
use Rattle.rx_model.specs.Runs.{Configuration, PriorityGraph}
use Rattle.rx_model.specs.Machine.{is_inside, graph_of}
use Rattle.rx_model.specs.Graph.{State, choice, prefer, at, go_by, state_step, state_accepts, machine_of, runs_of}
use Rattle.rx_model.proofs.lemmas.runs.RunLemmas.{by_test}
use Rattle.rx_model.proofs.lemmas.runs.MemberLemmas.{split-among, only-among, none-among}

-- what is known at a place of a known state
abbrev pub IsStateOf : List State → ℕ → State → Type 0
IsStateOf whole q s = (q < length whole) × (get_or whole q (choice []) ≡ s)

pub prefer-accepts : (greedy : Bool) (body exit : ℕ) → state_accepts (prefer greedy body exit) ≡ None
prefer-accepts true body exit = refl
prefer-accepts false body exit = refl

module _ (terminator : ℕ) (hay : List ℕ) (end : ℕ) where
  pub go_by-member : (o : Option ℕ) (next i : ℕ) (d : Configuration) → Contains (go_by terminator hay end o next i) d
      → (n : ℕ) × (o ≡ Some n) × (at next (i + n) ≡ d)
  go_by-member None next i d m = absurd (none-among d m)
  go_by-member (Some n) next i d m =
      by_test (nat_le (i + n) end)
      (λ le. (n, refl, only-among _ d (rw le at m)))
      (λ gt. absurd (none-among d (rw gt at m)))

  pub go_by-target : (o : Option ℕ) (next i : ℕ) (d : Configuration) → Contains (go_by terminator hay end o next i) d → next ≡ d.state
  go_by-target o next i d m = ap (λ (c : Configuration). c.state) (go_by-member o next i d m).2

  pub prefer-cases : (greedy : Bool) (body exit i : ℕ) (d : Configuration) → Contains (state_step terminator hay end (prefer greedy body exit) i) d
      → (at body i ≡ d) ⊎ (at exit i ≡ d)
  prefer-cases true body exit i d m =
      elim (split-among (at body i) d (at exit i ∷ []) m) [ inl e ↦ inl e | inr more ↦ inr (only-among (at exit i) d more) ]
  prefer-cases false body exit i d m =
      elim (split-among (at exit i) d (at body i ∷ []) m) [ inl e ↦ inr e | inr more ↦ inl (only-among (at body i) d more) ]

  module _ (whole : List State) where
    abbrev g : PriorityGraph
    g = runs_of terminator hay end whole

    pub successors-at : (q i : ℕ) (s : State) → IsStateOf whole q s → i ≤ end → g.successors (at q i) ≡ state_step terminator hay end s i
    unfolding runs_of graph_of
    successors-at q i s is place =
        let state = is.0 in
        let inside : is_inside (machine_of terminator hay end whole) end (at q i) ≡ true = grind (arith, nat_tests) in
        rw inside (ap (λ x. state_step terminator hay end x i) is.1)

    pub accepted-at : (q i : ℕ) (s : State) → IsStateOf whole q s → i ≤ end → g.accepted (at q i) ≡ state_accepts s
    unfolding runs_of graph_of
    accepted-at q i s is place =
        let state = is.0 in
        let inside : is_inside (machine_of terminator hay end whole) end (at q i) ≡ true = grind (arith, nat_tests) in
        rw inside (ap state_accepts is.1)

    pub successors-past : (c : Configuration) → end < c.place → g.successors c ≡ []
    unfolding runs_of graph_of
    successors-past c past =
        let out : is_inside (machine_of terminator hay end whole) end c ≡ false = grind (arith, nat_tests) in
        rw out refl

    pub accepted-past : (c : Configuration) → end < c.place → g.accepted c ≡ None
    unfolding runs_of graph_of
    accepted-past c past =
        let out : is_inside (machine_of terminator hay end whole) end c ≡ false = grind (arith, nat_tests) in
        rw out refl

    -- a state's successors are those of its step
    pub successors-in : (c d : Configuration) (s : State) → IsStateOf whole c.state s → Contains (g.successors c) d
        → Contains (state_step terminator hay end s c.place) d
    successors-in c d s is m =
        by_test (nat_le c.place end)
        (λ e. let le : c.place ≤ end = grind (arith, nat_tests) in subst (λ ds. Contains ds d) (successors-at c.state c.place s is le) m)
        (λ e. let past : end < c.place = grind (arith, nat_tests) in absurd (none-among d (subst (λ ds. Contains ds d) (successors-past c past) m)))
