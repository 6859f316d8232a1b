-- A run of an expression without groups writes where it starts and where it ends, and nothing else.
use Rattle.std.proofs.Common.{◌≡◌, ℕ, zero, suc, ◌+◌, ◌*◌, ◌≤◌, ◌<◌, List, [], ◌∷◌, ◌++◌, length, get_or, Option, Some, None, refl, sym, ◌∙◌, ap, subst, arith}
use Rattle.std.specs.Prelude.{Contains, if◌then◌else◌, ◌==◌}
use Rattle.std.proofs.lemmas.Bool.Decides.{nat_tests}
use Rattle.std.proofs.lemmas.List.{get_or_append_left}
use Rattle.rx_model.specs.Text.{stands_at, member_len}
use Rattle.rx_model.specs.Look.{holds}
use Rattle.rx_model.specs.Runs.{Configuration, PriorityGraph, Passed, nowhere, and_at, IsRun, Trace, trace, with_write, first_past}
use Rattle.rx_model.specs.Machine.{is_inside, graph_of}
use Rattle.rx_model.specs.Expression.{Expression}
use Rattle.rx_model.specs.Graph.{State, text, set, assertion, slot, choice, accept, build, build_pattern, at, state_step, state_accepts, state_writes, machine_of, runs_of}
use Rattle.rx_model.specs.Search.{Patterns, slot_of, first}
use Rattle.rx_model.specs.Matches.{StandsIn, part_of, runs_of_pattern}
use Rattle.rx_model.proofs.lemmas.runs.RunLemmas.{by_test}
use Rattle.rx_model.proofs.lemmas.runs.FirstLemmas.{none-is-some, found-is_run}
use Rattle.rx_model.proofs.lemmas.runs.RiseLemmas.{mapped-some}
use Rattle.rx_model.proofs.lemmas.runs.MemberLemmas.{choice-member, only-among, none-among}
use Rattle.rx_model.proofs.lemmas.meaning.CoverLemmas.{run-pattern, Placed-whole}
use Rattle.rx_model.proofs.lemmas.graphs.GraphLemmas.{runs_of-accepts, runs_of-bounded}
use Rattle.rx_model.proofs.lemmas.graphs.PlacedLemmas.{Placed-back, Placed-first, Placed-rest}
use Rattle.rx_model.proofs.lemmas.graphs.StateLemmas.{go_by-target}
use Rattle.rx_model.proofs.lemmas.matches.SlotLemmas.{IsBetween, IsBody, AreBody, build-body}

-- nothing is written in the body
abbrev Silent : ℕ → Type 0
Silent n = ⊥

module _ (terminator : ℕ) (hay : List ℕ) (end high : ℕ) where
  stay-next : (q i : ℕ) (d : Configuration) → Contains (at q i ∷ []) d → q ≡ d.state
  stay-next q i d m = ap (λ (c : Configuration). c.state) (only-among (at q i) d m)

  abbrev Between : ℕ → Type 0
  Between q = IsBetween 1 high Silent q

  body-step : (s : State) (i : ℕ) (d : Configuration) → IsBody 1 high Silent s → Contains (state_step terminator hay end s i) d → Between d.state
  body-step (text bytes next) i d is m = subst Between (go_by-target terminator hay end
      (if stands_at hay i bytes then Some (length bytes) else None) next i d m) is
  body-step (set members next) i d is m = subst Between (go_by-target terminator hay end (member_len hay members i) next i d m) is
  body-step (assertion kind next) i d is m =
      by_test (holds terminator hay kind i)
      (λ e. subst Between (stay-next next i d (rw e at m)) is)
      (λ e. absurd (none-among d (rw e at m)))
  body-step (slot number next) i d is m = absurd is.0
  body-step (choice states) i d is m =
      let x = choice-member states i d m in
      subst Between (ap (λ (c : Configuration). c.state) x.2) (is x.0 x.1)
  body-step (accept pattern) i d is m = absurd is

  body-accepts : (s : State) → IsBody 1 high Silent s → state_accepts s ≡ None
  body-accepts (text bytes next) is = refl
  body-accepts (set members next) is = refl
  body-accepts (assertion kind next) is = refl
  body-accepts (slot number next) is = refl
  body-accepts (choice states) is = refl
  body-accepts (accept pattern) is = absurd is

  body-silent : (s : State) → IsBody 1 high Silent s → state_writes s ≡ None
  body-silent (text bytes next) is = refl
  body-silent (set members next) is = refl
  body-silent (assertion kind next) is = refl
  body-silent (slot number next) is = absurd is.0
  body-silent (choice states) is = refl
  body-silent (accept pattern) is = refl

  module _ (whole : List State) where
    abbrev graph : PriorityGraph
    graph = runs_of terminator hay end whole

    abbrev state : Configuration → State
    state c = get_or whole c.state (choice [])

    step-of : (c d : Configuration) → Contains (graph.successors c) d → Contains (state_step terminator hay end (state c) c.place) d
    unfolding runs_of graph_of
    step-of c d m =
        by_test (is_inside (machine_of terminator hay end whole) end c)
        (λ e. rw e at m)
        (λ e. absurd (none-among d (rw e at m)))

    written-of : (c : Configuration) → graph.written c ≡ state_writes (state c)
    unfolding runs_of graph_of
    written-of c = refl

    -- a run from a state that does not accept takes a step
    silent-step : (passed : Passed) (c : Configuration) (run : List Configuration) → state_accepts (state c) ≡ None → IsRun graph passed c run
        → (d : Configuration) × (rest : List Configuration) × (run ≡ d ∷ rest) × Contains (state_step terminator hay end (state c) c.place) d
        × IsRun graph (and_at c passed) d rest
    silent-step passed c [] none r =
        let q = run-pattern graph passed c [] r in
        none-is-some (sym none ∙ runs_of-accepts terminator hay end whole c q.0 q.1)
    silent-step passed c (d ∷ rest) none r = (d, rest, refl, step-of c d r.1, r.2)

    silent-empty : (passed : Passed) (c : Configuration) → state_accepts (state c) ≡ None → IsRun graph passed c [] → ⊥
    silent-empty passed c none r = let x = silent-step passed c [] none r in let e = x.2 in cc

    module _ (p first : ℕ) (accepts : get_or whole 0 (choice []) ≡ accept p) (closing : get_or whole 1 (choice []) ≡ slot (suc first) 0)
        (body : (q : ℕ) → 2 ≤ q → q < high → IsBody 1 high Silent (get_or whole q (choice []))) where
      -- the accepting state goes nowhere
      last-run : (passed : Passed) (d : Configuration) (run : List Configuration) → d.state ≡ 0 → IsRun graph passed d run → run ≡ []
      last-run passed d [] is_zero r = refl
      last-run passed d (e ∷ run) is_zero r =
          let is : state d ≡ accept p = ap (λ q. get_or whole q (choice [])) is_zero ∙ accepts in
          absurd (none-among e (subst (λ s. Contains (state_step terminator hay end s d.place) e) is (step-of d e r.1)))

      -- where the run ends is written, and it is all that is written
      abbrev Ends : Trace → Type 0
      Ends t = t.writes ≡ (suc first, t.end) ∷ []

      closing-run : (passed : Passed) (c : Configuration) (run : List Configuration) → c.state ≡ 1 → IsRun graph passed c run → Ends (trace graph c run)
      closing-run passed c run one r =
          let is : state c ≡ slot (suc first) 0 = ap (λ q. get_or whole q (choice [])) one ∙ closing in
          let x = silent-step passed c run (ap state_accepts is) r in
          let d = x.0 in
          let on : at 0 c.place ≡ d = only-among (at 0 c.place) d (subst (λ s. Contains (state_step terminator hay end s c.place) d) is x.3) in
          let same_place : d.place ≡ c.place = ap (λ (y : Configuration). y.place) (sym on) in
          let ends : x.1 ≡ [] = last-run (and_at c passed) d x.1 (ap (λ (y : Configuration). y.state) (sym on)) x.4 in
          let whole_run : run ≡ d ∷ [] = x.2 ∙ ap (λ ys. d ∷ ys) ends in
          let writes : graph.written c ≡ Some (suc first) = written-of c ∙ ap state_writes is in
          subst (λ ys. Ends (trace graph c ys)) (sym whole_run)
          (subst (λ o. Ends (with_write o c.place (trace graph d []))) (sym writes) (ap (λ i. (suc first, i) ∷ []) (sym same_place)))

      body-run : (passed : Passed) (c : Configuration) (run : List Configuration) → Between c.state → IsRun graph passed c run → Ends (trace graph c run)
      body-run passed c [] within r =
          by_test (c.state == 1)
          (λ e. closing-run passed c [] (grind (arith, nat_tests)) r)
          (λ e.
          let from = within.0 in
          let is = body c.state (grind (arith, nat_tests)) within.1 in
          absurd (silent-empty passed c (body-accepts (state c) is) r))
      body-run passed c (d ∷ run) within r =
          by_test (c.state == 1)
          (λ e. closing-run passed c (d ∷ run) (grind (arith, nat_tests)) r)
          (λ e.
          let from = within.0 in
          let is = body c.state (grind (arith, nat_tests)) within.1 in
          let m = step-of c d r.1 in
          let writes : graph.written c ≡ None = written-of c ∙ body-silent (state c) is in
          subst (λ o. Ends (with_write o c.place (trace graph d run))) (sym writes)
          (body-run (and_at c passed) d run (body-step (state c) c.place d is m) r.2))

      opening-run : (passed : Passed) (c : Configuration) (run : List Configuration) (start : ℕ) → state c ≡ slot first start → Between start
          → IsRun graph passed c run → (trace graph c run).writes ≡ (first, c.place) ∷ (suc first, (trace graph c run).end) ∷ []
      opening-run passed c run start is within r =
          let x = silent-step passed c run (ap state_accepts is) r in
          let d = x.0 in
          let on : at start c.place ≡ d = only-among (at start c.place) d (subst (λ s. Contains (state_step terminator hay end s c.place) d) is x.3) in
          let writes : graph.written c ≡ Some first = written-of c ∙ ap state_writes is in
          let told = body-run (and_at c passed) d x.1 (subst (λ (y : Configuration). Between y.state) on within) x.4 in
          subst (λ ys. (trace graph c ys).writes ≡ (first, c.place) ∷ (suc first, (trace graph c ys).end) ∷ []) (sym x.2)
          (subst (λ o. (with_write o c.place (trace graph d x.1)).writes ≡ (first, c.place) ∷ (suc first, (with_write o c.place (trace graph d x.1)).end) ∷ [])
          (sym writes) (ap (λ ws. (first, c.place) ∷ ws) told))

-- what an accepting run of a pattern writes
module _ (terminator : ℕ) (hay : List ℕ) (end : ℕ) (slots : ℕ → Option ℕ) (p : ℕ) (h : Expression) (no_groups : (g : ℕ) → StandsIn g h → ⊥) where
  abbrev pattern_graph : PriorityGraph
  pattern_graph = runs_of terminator hay end (build_pattern slots p h).states

  run-writes : (i : ℕ) (run : List Configuration) → IsRun pattern_graph nowhere (at (build_pattern slots p h).start i) run
      → (trace pattern_graph (at (build_pattern slots p h).start i) run).writes
      ≡ (2 * p, i) ∷ (suc (2 * p), (trace pattern_graph (at (build_pattern slots p h).start i) run).end) ∷ []
  unfolding build_pattern
  run-writes i run r =
      let b = build slots h 1 2 in
      let first = 2 * p in
      let inner = slot (suc first) 0 ∷ b.states in
      let opening = slot first b.start ∷ [] in
      let high = 1 + length inner in
      let whole = accept p ∷ (inner ++ opening) in
      let placed = Placed-rest whole 0 (accept p) (inner ++ opening) (Placed-whole whole) in
      let is_body = build-body 1 high Silent slots (λ g. StandsIn g h) (λ g n stands e. absurd (no_groups g stands)) h (λ g s. s) 1 2
      ((omega arith, omega arith), omega arith, omega arith) in
      opening-run terminator hay end high whole p first refl refl
      (body-states b.states high opening is_body.1 (omega arith))
      nowhere (at high i) run b.start (Placed-first whole high (slot first b.start) [] (Placed-back whole 1 inner opening placed)).1 is_body.0 r
    where
      body-states : (states : List State) (high : ℕ) (rest : List State) → AreBody 1 high Silent states → high ≤ 2 + length states
          → (q : ℕ) → 2 ≤ q → q < high → IsBody 1 high Silent (get_or (accept p ∷ slot (suc (2 * p)) 0 ∷ (states ++ rest)) q (choice []))
      body-states states high rest are le zero from below = absurd (omega arith)
      body-states states high rest are le (suc zero) from below = absurd (omega arith)
      body-states states high rest are le (suc (suc k)) from below =
          subst (IsBody 1 high Silent) (sym (get_or_append_left states rest (choice []) k (omega arith))) (are k)

-- what the first run of a pattern writes
pub first-writes : (r : Patterns) (hay : List ℕ) (end p : ℕ) (h : Expression) → ((g : ℕ) → StandsIn g h → ⊥) → (i : ℕ) (t : Trace)
    → first r hay end p h i ≡ Some t → t.writes ≡ (2 * p, i) ∷ (suc (2 * p), t.end) ∷ []
unfolding first
first-writes r hay end p h none i t e =
    let graph = runs_of_pattern r hay end p h in
    let c = at (part_of r p h).start i in
    let x = mapped-some (trace graph c) (first_past graph nowhere c) t e in
    let is = found-is_run graph (runs_of-bounded r.terminator hay end (part_of r p h).states) x.0 nowhere c x.1 in
    subst (λ (u : Trace). u.writes ≡ (2 * p, i) ∷ (suc (2 * p), u.end) ∷ []) x.2 (run-writes r.terminator hay end (slot_of r p) p h none i x.0 is)
