-- The places that a match leaves in the slots lie within it.
use Rattle.std.proofs.Common.{◌≡◌, ◌⊎◌, ℕ, ◌≤◌, List, [], ◌∷◌, length, get_or, sym, ◌∙◌, ap, inl, inr, arith}
use Rattle.std.proofs.lemmas.Bool.Decides.{nat_tests}
use Rattle.std.proofs.lemmas.List.{get_or_past, get_or-replicate, length-replicate}
use Rattle.std.specs.Prelude.{Bool, Option, Some, None, replicate, nat_lt, ◌==◌}
use Rattle.rx_model.specs.Runs.{Configuration, PriorityGraph, Passed, nowhere, and_at, IsRun, IsBounded, NeverFalls, Trace, trace, with_write, last_write, first_past, first_trace}
use Rattle.rx_model.specs.Search.{Anchor, Match, is_permitted, starts, slot_value}
use Rattle.rx_model.proofs.lemmas.runs.RunLemmas.{by_test}
use Rattle.rx_model.proofs.lemmas.runs.FirstLemmas.{found-is_run, none-is-some, some-is, tells}
use Rattle.rx_model.proofs.lemmas.runs.RiseLemmas.{trace-end, run-rises, mapped-some}
use Rattle.rx_search.specs.Input.{InputValue}
use Rattle.rx_search.specs.Told.{AreWithin}
use Rattle.rx_nfa.specs.Automaton.{at, automaton, forwards}
use Rattle.rx_nfa.specs.Nfa.{Nfa}
use Rattle.rx_nfa.specs.NextMatch.{start_of, first_from, next_match_of}
use Rattle.rx_nfa.specs.declared.state.State.{State}
use Rattle.rx_nfa.proofs.lemmas.runs.AutomatonLemmas.{automaton-bounded, automaton-rises}
use Rattle.rx_nfa.proofs.lemmas.runs.NextMatchLemmas.{first_start-from, next_match_of-within}
use Rattle.rx_engines.specs.Walk.{Slots}

-- a write before the others
written-place : (o : Option ℕ) (i : ℕ) (t : Trace) (k place : ℕ) → last_write (with_write o i t).writes k ≡ Some place
    → (last_write t.writes k ≡ Some place) ⊎ (place ≡ i)
written-place None i t k place h = inl h
written-place (Some n) i t k place h =
    elim (tells (last_write t.writes k)) [
      | inl none ↦ inr (by_test (n == k) (λ e. sym (some-is (rw (none, e) at h))) (λ e. none-is-some (rw (none, e) at h)))
      | inr some ↦ inl (some.1 ∙ (rw some.1 at h))
    ]

run-places : (g : PriorityGraph) → NeverFalls g → (p : Passed) (c : Configuration) (run : List Configuration) → IsRun g p c run
    → (k place : ℕ) → last_write (trace g c run).writes k ≡ Some place → (c.place ≤ place) × (place ≤ (trace g c run).end)
run-places g rises p c [] r k place h = none-is-some h
run-places g rises p c (d ∷ run) r k place h =
    let up = rises c d r.1 in
    let above = run-rises g rises (and_at c p) d run r.2 in
    let ends = trace-end g d run in
    let same : (trace g c (d ∷ run)).end ≡ (trace g d run).end = trace-end g c (d ∷ run) ∙ sym ends in
    elim (written-place (g.written c) c.place (trace g d run) k place h) [
      | inl later ↦ let x = run-places g rises (and_at c p) d run r.2 k place later in let low = x.0 in let high = x.1 in (omega arith, omega arith)
      | inr here ↦ (omega arith, omega arith)
    ]

found-places : (g : PriorityGraph) → IsBounded g → NeverFalls g → (c : Configuration) (t : Trace) → first_trace g c ≡ Some t
    → (k place : ℕ) → last_write t.writes k ≡ Some place → (c.place ≤ place) × (place ≤ t.end)
found-places g bounded rises c t h k place writes =
    let x = mapped-some (trace g c) (first_past g nowhere c) t h in
    let y = run-places g rises nowhere c x.0 (found-is_run g bounded x.0 nowhere c x.1) k place (ap (λ (u : Trace). last_write u.writes k) x.2 ∙ writes) in
    let ends = ap (λ (u : Trace). u.end) x.2 in
    let high = y.1 in
    (y.0, omega arith)

first_from-places : (terminator : ℕ) (states : List State) (text : List ℕ) (end : ℕ) (start : Option ℕ) (i : ℕ) (t : Trace)
    → first_from terminator states text end start i ≡ Some t
    → (k place : ℕ) → last_write t.writes k ≡ Some place → (i ≤ place) × (place ≤ t.end)
first_from-places terminator states text end None i t h k place writes = none-is-some h
first_from-places terminator states text end (Some q) i t h k place writes =
    found-places (automaton terminator states text end) (automaton-bounded (forwards terminator text) states end)
    (automaton-rises (forwards terminator text) states end) (at q i) t h k place writes

-- a slot of the next match
pub next_match_of-places : (nfa : Nfa) (utf8_empty : Bool) (text : List ℕ) (anchor : Anchor) (end start : ℕ) (m : Match)
    → next_match_of nfa utf8_empty text anchor end start ≡ Some m
    → (k place : ℕ) → slot_value m k ≡ Some place → (start ≤ place) × (place ≤ end)
unfolding next_match_of
next_match_of-places nfa utf8_empty text anchor end start m h k place tells =
    let x = first_start-from (is_permitted utf8_empty text) (first_from nfa.terminator nfa.states text end (start_of nfa anchor)) (starts anchor start end)
    start m h in
    let y = first_from-places nfa.terminator nfa.states text end (start_of nfa anchor) m.start m.trace x.1 k place tells in
    let within = next_match_of-within nfa utf8_empty text anchor end start m h in
    let low = within.0 in
    let high = within.2 in
    let begins = y.0 in
    let ends = y.1 in
    (omega arith, omega arith)

-- each slot is empty
pub empty-within : (v : InputValue) (n : ℕ) (slots : Slots) → slots ≡ replicate n None → AreWithin v slots
empty-within v n slots is k place told = none-is-some (sym (ap (λ (s : Slots). get_or s k None) is ∙ empty) ∙ told)
  where
    no_places : Slots
    no_places = replicate n None

    nothing : Option ℕ
    nothing = None

    empty : get_or no_places k nothing ≡ nothing
    empty =
        let size : length no_places ≡ n = length-replicate n nothing in
        by_test (nat_lt k n)
        (λ e. get_or-replicate n k nothing nothing (grind (arith, nat_tests)))
        (λ e. let past : n ≤ k = grind (arith, nat_tests) in get_or_past no_places k nothing (omega arith))
