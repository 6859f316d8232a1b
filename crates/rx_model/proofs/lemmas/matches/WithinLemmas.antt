-- Accepting runs within an end are accepting runs within a later one, and what is known of a match.
use Rattle.std.proofs.Common.{◌≡◌, ◌≢◌, ℕ, suc, ◌+◌, ◌*◌, ◌≤◌, ◌<◌, true, List, [], ◌∷◌, length, Option, Some, None, slice_get, refl, sym, ◌∙◌, ap, subst, inl, inr, arith, true≢false}
use Rattle.std.specs.Prelude.{Contains, is_some, if◌then◌else◌, nat_le, option_map, unwrap_or}
use Rattle.std.proofs.lemmas.Bool.Decides.{nat_tests}
use Rattle.std.proofs.lemmas.Option.{slice_get_within}
use Rattle.rx_model.specs.Text.{stands_at, member_len}
use Rattle.rx_model.specs.Expression.{Expression, AreOrdered}
use Rattle.rx_model.specs.Meaning.{Means}
use Rattle.rx_model.specs.Runs.{Configuration, PriorityGraph, Passed, nowhere, and_at, IsRun, Trace, trace, with_write, last_of, first_past}
use Rattle.rx_model.specs.Machine.{is_inside, graph_of}
use Rattle.rx_model.specs.Graph.{State, text, set, assertion, slot, choice, accept, at, go_by, state_step, state_at, machine_of, runs_of}
use Rattle.rx_model.specs.Search.{Patterns, slot_of, first, Anchor, free, anchored, anchored_to, Match, next_match, slot_value}
use Rattle.rx_model.specs.Matches.{IsStart, HasFirstRun, IsMatch, IsSlotOf, IsExplicit, part_of, runs_of_pattern}
use Rattle.rx_model.proofs.lemmas.runs.RunLemmas.{by_test}
use Rattle.rx_model.proofs.lemmas.runs.FirstLemmas.{some-is, tells, found-is_run, run-is_found}
use Rattle.rx_model.proofs.lemmas.runs.RiseLemmas.{trace-end, run-rises, run-accepts, mapped-some}
use Rattle.rx_model.proofs.lemmas.meaning.CoverLemmas.{run-means}
use Rattle.rx_model.proofs.lemmas.graphs.GraphLemmas.{runs_of-bounded, runs_of-rises, runs_of-within}
use Rattle.rx_model.proofs.lemmas.matches.MatchLemmas.{IsStart-within, next-is, next-none}
use Rattle.rx_model.proofs.lemmas.matches.SlotLemmas.{TellsSpan, pattern-span, explicit-own, explicit-apart}
use Rattle.rx_model.proofs.lemmas.runs.MemberLemmas.{none-among}

-- accepting runs within `end`, in the graph of the same states up to a later end
module _ (terminator : ℕ) (hay : List ℕ) (states : List State) (end later : ℕ) (le : end ≤ later) where
  abbrev near : PriorityGraph
  near = runs_of terminator hay end states

  abbrev far : PriorityGraph
  far = runs_of terminator hay later states

  inside-later : (c : Configuration) → is_inside (machine_of terminator hay end states) end c ≡ true
      → is_inside (machine_of terminator hay later states) later c ≡ true
  inside-later c e = grind (arith, nat_tests)

  go_by-later : (o : Option ℕ) (next i : ℕ) (d : Configuration) → Contains (go_by terminator hay end o next i) d
      → Contains (go_by terminator hay later o next i) d
  go_by-later None next i d m = m
  go_by-later (Some n) next i d m =
      by_test (nat_le (i + n) end)
      (λ fits. let fits' : nat_le (i + n) later ≡ true = grind (arith, nat_tests) in rw fits' (rw fits at m))
      (λ none. absurd (none-among d (rw none at m)))

  step-later : (s : State) (i : ℕ) (d : Configuration) → Contains (state_step terminator hay end s i) d → Contains (state_step terminator hay later s i) d
  step-later (text bytes next) i d m = go_by-later (if stands_at hay i bytes then Some (length bytes) else None) next i d m
  step-later (set members next) i d m = go_by-later (member_len hay members i) next i d m
  step-later (assertion kind next) i d m = m
  step-later (slot number next) i d m = m
  step-later (choice qs) i d m = m
  step-later (accept pattern) i d m = m

  pub successor-later : (c d : Configuration) → Contains (near.successors c) d → Contains (far.successors c) d
  unfolding runs_of graph_of
  successor-later c d m =
      by_test (is_inside (machine_of terminator hay end states) end c)
      (λ e. rw (inside-later c e) (step-later (state_at states c.state) c.place d (rw e at m)))
      (λ e. absurd (none-among d (rw e at m)))

  accepted-later : (c : Configuration) → is_some (near.accepted c) ≡ true → far.accepted c ≡ near.accepted c
  unfolding runs_of graph_of
  accepted-later c accepts =
      by_test (is_inside (machine_of terminator hay end states) end c)
      (λ e. rw (inside-later c e, e) refl)
      (λ e. absurd (true≢false (sym (rw e at accepts))))

  pub written-later : (c : Configuration) → near.written c ≡ far.written c
  unfolding runs_of graph_of
  written-later c = refl

  pub run-later : (passed : Passed) (c : Configuration) (run : List Configuration) → IsRun near passed c run → IsRun far passed c run
  run-later passed c [] r = (r.0, ap is_some (accepted-later c r.1) ∙ r.1)
  run-later passed c (d ∷ run) r = (r.0, successor-later c d r.1, run-later (and_at c passed) d run r.2)

  -- it tells the same
  pub trace-later : (passed : Passed) (c : Configuration) (run : List Configuration) → IsRun near passed c run → trace near c run ≡ trace far c run
  trace-later passed c [] r = λ i. record { pattern = unwrap_or (sym (accepted-later c r.1) i) 0; end = c.place; writes = [] }
  trace-later passed c (d ∷ run) r = λ i. with_write (written-later c i) c.place (trace-later (and_at c passed) d run r.2 i)

module _ (r : Patterns) (hay : List ℕ) (anchor : Anchor) where
  IsStart-later : (anchor : Anchor) (e b a i : ℕ) → e ≤ b → IsStart anchor e a i → IsStart anchor b a i
  IsStart-later free e b a i le s = let high = s.1 in (s.0, omega arith)
  IsStart-later anchored e b a i le s = let high = s.1 in (s.0, omega arith)
  IsStart-later (anchored_to p) e b a i le s = let high = s.1 in (s.0, omega arith)

  module _ (b a : ℕ) where
    -- the run of a next match
    pub next-run : (m : Match) → next_match r hay anchor b a ≡ Some m → IsMatch r hay anchor b a m
    unfolding first
    next-run m e =
        let is = next-is r hay anchor b a m e in
        let p = m.trace.pattern in
        let h = is.run.1.0 in
        let graph = runs_of_pattern r hay b p h in
        let c = at (part_of r p h).start m.start in
        let x = mapped-some (trace graph c) (first_past graph nowhere c) m.trace is.run.1.2 in
        record {
          start = is.start;
          sought = is.run.0;
          expression = h;
          is_there = is.run.1.1;
          run = x.0;
          accepting = found-is_run graph (runs_of-bounded r.terminator hay b (part_of r p h).states) x.0 nowhere c x.1;
          tells = sym x.2;
        }

    module _ (m : Match) (is : IsMatch r hay anchor b a m) where
      abbrev p : ℕ
      p = m.trace.pattern

      abbrev c : Configuration
      c = at (part_of r p is.expression).start m.start

      abbrev graph : PriorityGraph
      graph = runs_of_pattern r hay b p is.expression

      abbrev states : List State
      states = (part_of r p is.expression).states

      match-ends : (last_of c is.run).place ≡ m.trace.end
      match-ends = sym (trace-end graph c is.run) ∙ ap (λ (t : Trace). t.end) (sym is.tells)

      -- a match lies in the span
      pub match-within : (a ≤ m.start) × (m.start ≤ m.trace.end) × (m.trace.end ≤ b)
      match-within =
          let up = run-rises graph (runs_of-rises r.terminator hay b states) nowhere c is.run is.accepting in
          let stop = runs_of-within r.terminator hay b states (last_of c is.run) (run-accepts graph nowhere c is.run is.accepting) in
          let ends = match-ends in
          ((IsStart-within anchor b a m.start is.start.0).0, omega arith, omega arith)

      -- its expression means it
      pub match-means : (h : Expression) → slice_get r.expressions p ≡ Some h → AreOrdered h → Means r.terminator hay h m.start m.trace.end
      match-means h there ordered =
          let same : h ≡ is.expression = some-is (sym there ∙ is.is_there) in
          let ordered' : AreOrdered is.expression = subst AreOrdered same ordered in
          subst (λ x. Means r.terminator hay x m.start m.trace.end) (sym same)
          (subst (λ j. Means r.terminator hay is.expression m.start j) match-ends
          (run-means r.terminator hay b (slot_of r p) p is.expression ordered' m.start is.run is.accepting))

      -- its pattern has a first run from its start
      pub match-first : (t : Trace) × HasFirstRun r hay anchor b m.start p t
      unfolding first
      match-first =
          let x = run-is_found graph (runs_of-bounded r.terminator hay b states) is.run nowhere c is.accepting in
          (trace graph c x.0, (is.sought, (is.expression, is.is_there, ap (option_map (trace graph c)) x.1)))

      -- so there is a next match
      pub match-next : next_match r hay anchor b a ≢ None
      match-next none = let x = match-first in next-none r hay anchor b a none m.start p x.0 is.start x.1

      -- which starts no later
      pub match-earliest : (n : Match) → next_match r hay anchor b a ≡ Some n → n.start ≤ m.start
      match-earliest n e = let x = match-first in (next-is r hay anchor b a n e).least_start m.start p x.0 is.start x.1

      match-pattern : p < length r.expressions
      match-pattern = slice_get_within r.expressions p is.expression is.is_there

      match-tells : TellsSpan (2 * p) (IsExplicit r p is.expression) m.start m.trace
      match-tells =
          subst (TellsSpan (2 * p) (IsExplicit r p is.expression) m.start) (sym is.tells)
          (pattern-span r.terminator hay b (slot_of r p) p is.expression (IsExplicit r p is.expression) (explicit-own r p is.expression)
          (explicit-apart r p is.expression match-pattern) m.start is.run is.accepting)

      -- the two slots of its pattern are its span
      pub match-slots : (p < length r.expressions) × (slot_value m (2 * p) ≡ Some m.start) × (slot_value m (2 * p + 1) ≡ Some m.trace.end)
      match-slots =
          let next : suc (2 * p) ≡ 2 * p + 1 = omega arith in
          (match-pattern, match-tells.opens, subst (λ k. slot_value m k ≡ Some m.trace.end) next match-tells.closes)

      -- the slots that have a place are its pattern's, and the places lie in it
      pub match-own : (h : Expression) → slice_get r.expressions p ≡ Some h → (k place : ℕ) → slot_value m k ≡ Some place
          → IsSlotOf r p h k × (m.start ≤ place) × (place ≤ m.trace.end)
      match-own h there k place e =
          let x = match-tells.each k place e in
          let same : is.expression ≡ h = some-is (sym is.is_there ∙ there) in (
            elim x.0 [
              | inl opens ↦ inl opens
              | inr other ↦ elim other [ inl closes ↦ inr (inl (omega arith)) | inr own ↦ inr (inr (subst (λ y. IsExplicit r p y k) same own)) ]
            ],
            x.1,
            x.2,
          )

      -- all others have none
      pub match-others : (h : Expression) → slice_get r.expressions p ≡ Some h → (k : ℕ) → (IsSlotOf r p h k → ⊥) → slot_value m k ≡ None
      match-others h there k other =
          elim (tells (slot_value m k)) [
            | inl none ↦ none
            | inr some ↦ absurd (other (match-own h there k some.0 some.1).0)
          ]

  -- a next match within an end is a match within each later end
  pub next-later : (e b a : ℕ) (m : Match) → next_match r hay anchor e a ≡ Some m → e ≤ b → IsMatch r hay anchor b a m
  next-later e b a m found le =
      let is = next-run e a m found in
      let p = m.trace.pattern in
      let part = part_of r p is.expression in
      let c = at part.start m.start in
      record {
        start = (IsStart-later anchor e b a m.start le is.start.0, is.start.1);
        sought = is.sought;
        expression = is.expression;
        is_there = is.is_there;
        run = is.run;
        accepting = run-later r.terminator hay part.states e b le nowhere c is.run is.accepting;
        tells = is.tells ∙ trace-later r.terminator hay part.states e b le nowhere c is.run is.accepting;
      }
