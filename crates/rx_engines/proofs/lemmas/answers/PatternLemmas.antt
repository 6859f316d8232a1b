-- The pattern of what is found is one of the NFA's.
use Rattle.std.proofs.Common.{◌≡◌, ℕ, ◌<◌, ◌≤◌, List, [], ◌∷◌, length, refl, sym, ◌∙◌, ap, arith, true≢false, inl, inr}
use Rattle.std.proofs.lemmas.Bool.Decides.{nat_tests}
use Rattle.std.proofs.lemmas.List.Elements.{All-get_or}
use Rattle.std.specs.Prelude.{Bool, true, Option, Some, None, is_some, unwrap_or, nat_lt}
use Rattle.rx_model.specs.Runs.{Configuration, PriorityGraph, Passed, nowhere, and_at, IsRun, Trace, trace, with_write, first_past, first_trace}
use Rattle.rx_model.specs.Search.{Anchor, Match, is_permitted, starts}
use Rattle.rx_model.proofs.lemmas.runs.RunLemmas.{by_test}
use Rattle.rx_model.proofs.lemmas.runs.FirstLemmas.{found-is_run, none-is-some, some-is, tells}
use Rattle.rx_model.proofs.lemmas.runs.RiseLemmas.{mapped-some}
use Rattle.rx_nfa.specs.Automaton.{at, automaton, forwards, state_at, state_accepts, IsWithin}
use Rattle.rx_nfa.specs.Nfa.{Nfa, IsInRange}
use Rattle.rx_nfa.specs.NextMatch.{start_of, first_from, next_match_of}
use Rattle.rx_nfa.specs.declared.state.State.{State}
use Rattle.rx_nfa.specs.declared.state.State.TheVariants.{ByteRange, Sparse, Look, Union, Capture, Fail, Match as Accepts}
use Rattle.rx_nfa.proofs.lemmas.runs.AutomatonLemmas.{automaton-bounded, automaton-accepts-within, automaton-accepted, automaton-accepted-beyond}
use Rattle.rx_nfa.proofs.lemmas.runs.NextMatchLemmas.{first_start-from}

-- a state names the pattern that it accepts
accepts-within : (patterns slots p : ℕ) (s : State) → IsWithin patterns slots s → state_accepts s ≡ Some p → p < patterns
accepts-within patterns slots p (ByteRange low high next) within accepts = none-is-some accepts
accepts-within patterns slots p (Sparse transitions) within accepts = none-is-some accepts
accepts-within patterns slots p (Look look next) within accepts = none-is-some accepts
accepts-within patterns slots p (Union alternates) within accepts = none-is-some accepts
accepts-within patterns slots p (Capture next pattern slot) within accepts = none-is-some accepts
accepts-within patterns slots p Fail within accepts = none-is-some accepts
accepts-within patterns slots p (Accepts pattern) within accepts =
    let lt : pattern < patterns = within in
    let same : pattern ≡ p = some-is accepts in
    omega arith

-- a write changes no pattern
written-pattern : (o : Option ℕ) (i : ℕ) (t : Trace) → (with_write o i t).pattern ≡ t.pattern
written-pattern None i t = refl
written-pattern (Some n) i t = refl

module _ (nfa : Nfa) (range : IsInRange nfa) (text : List ℕ) (end : ℕ) where
  abbrev graph : PriorityGraph
  graph = automaton nfa.terminator nfa.states text end

  accepted-within : (c : Configuration) (p : ℕ) → graph.accepted c ≡ Some p → p < length nfa.starts
  accepted-within c p h =
      let le : c.place ≤ end = automaton-accepts-within (forwards nfa.terminator text) nfa.states end c (ap is_some h) in
      by_test (nat_lt c.state (length nfa.states))
      (λ e.
      let lt : c.state < length nfa.states = grind (arith, nat_tests) in
      let accepts : state_accepts (state_at nfa.states c.state) ≡ Some p =
      sym (automaton-accepted (forwards nfa.terminator text) nfa.states end c.state c.place lt le) ∙ h in
      accepts-within (length nfa.starts) nfa.slots p (state_at nfa.states c.state)
      (All-get_or (IsWithin (length nfa.starts) nfa.slots) nfa.states c.state _ lt range.within) accepts)
      (λ e.
      none-is-some (sym (automaton-accepted-beyond (forwards nfa.terminator text) nfa.states end c.state c.place (grind (arith, nat_tests))) ∙ h))

  accepted-pattern : (c : Configuration) → is_some (graph.accepted c) ≡ true → unwrap_or (graph.accepted c) 0 < length nfa.starts
  accepted-pattern c accepts =
      elim (tells (graph.accepted c)) [
        | inl none ↦ absurd (true≢false (sym accepts ∙ ap is_some none))
        | inr some ↦
            let lt = accepted-within c some.0 some.1 in
            let same : unwrap_or (graph.accepted c) 0 ≡ some.0 = ap (λ (o : Option ℕ). unwrap_or o 0) some.1 in
            omega arith
      ]

  run-pattern : (passed : Passed) (c : Configuration) (run : List Configuration) → IsRun graph passed c run
      → (trace graph c run).pattern < length nfa.starts
  run-pattern passed c [] r = accepted-pattern c r.1
  run-pattern passed c (d ∷ run) r =
      let lt = run-pattern (and_at c passed) d run r.2 in
      let same = written-pattern (graph.written c) c.place (trace graph d run) in
      omega arith

  first-pattern : (c : Configuration) (t : Trace) → first_trace graph c ≡ Some t → t.pattern < length nfa.starts
  first-pattern c t h =
      let x = mapped-some (trace graph c) (first_past graph nowhere c) t h in
      let lt = run-pattern nowhere c x.0 (found-is_run graph (automaton-bounded (forwards nfa.terminator text) nfa.states end) x.0 nowhere c x.1) in
      let same = ap (λ (u : Trace). u.pattern) x.2 in
      omega arith

  first_from-pattern : (start : Option ℕ) (i : ℕ) (t : Trace) → first_from nfa.terminator nfa.states text end start i ≡ Some t
      → t.pattern < length nfa.starts
  first_from-pattern None i t h = none-is-some h
  first_from-pattern (Some q) i t h = first-pattern (at q i) t h

  pub next_match_of-pattern : (utf8_empty : Bool) (anchor : Anchor) (start : ℕ) (m : Match) → next_match_of nfa utf8_empty text anchor end start ≡ Some m
      → m.trace.pattern < length nfa.starts
  unfolding next_match_of
  next_match_of-pattern utf8_empty anchor start m h =
      let x = first_start-from (is_permitted utf8_empty text) (first_from nfa.terminator nfa.states text end (start_of nfa anchor)) (starts anchor start end)
      start m h in
      first_from-pattern (start_of nfa anchor) m.start m.trace x.1
