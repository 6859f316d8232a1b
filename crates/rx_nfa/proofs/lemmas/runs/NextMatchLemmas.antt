-- The next match of an NFA is that of its patterns, and lies within the search, with slots that are there.
use Rattle.std.proofs.Common.{◌≡◌, ◌≢◌, ℕ, zero, suc, ◌+◌, ◌<◌, ◌≤◌, ◌⊎◌, List, [], ◌∷◌, length, refl, sym, ◌∙◌, ap, inl, inr, arith}
use Rattle.std.proofs.lemmas.List.{get_or_past}
use Rattle.std.proofs.lemmas.List.Elements.{All-get_or}
use Rattle.std.proofs.lemmas.Option.{slice_get-get_or, slice_get_within, slice_get_past, slice_get_cases}
use Rattle.std.proofs.lemmas.Bool.Decides.{nat_tests, Decides-eqb}
use Rattle.std.specs.Prelude.{All, Bool, true, false, Option, Some, None, option_map, nat_lt, ◌==◌, if◌then◌else◌, slice_get}
use Rattle.std.specs.Option.{option_or}
use Rattle.rx_model.specs.Expression.{Expression}
use Rattle.rx_model.specs.Runs.{Configuration, PriorityGraph, Trace, trace, with_write, last_write, first_trace, first_past, nowhere}
use Rattle.rx_model.specs.Search.{Patterns, WhichCaptures, all as every_group, told, told_of, Anchor, free, anchored, anchored_to, Match, is_permitted, first_start, starts, starting_at, first_of_pattern, next_match, slot_value}
use Rattle.rx_model.proofs.lemmas.runs.RunLemmas.{by_test}
use Rattle.rx_model.proofs.lemmas.runs.FirstLemmas.{none-is-some, some-is}
use Rattle.rx_model.proofs.lemmas.runs.RiseLemmas.{found-end}
use Rattle.rx_nfa.specs.Automaton.{at, forwards, automaton, state_at, state_writes, IsWithin}
use Rattle.rx_nfa.specs.Nfa.{Nfa, IsInRange, HasRuns, HasFirstRuns}
use Rattle.rx_nfa.specs.NextMatch.{start_of, first_from, next_match_of}
use Rattle.rx_nfa.specs.declared.state.State.{State}
use Rattle.rx_nfa.specs.declared.state.State.TheVariants.{ByteRange, Sparse, Look, Union, Capture, Fail, Match as Accepts}
use Rattle.rx_nfa.proofs.lemmas.runs.PatternLemmas.{HasRuns-first}
use Rattle.rx_nfa.proofs.lemmas.runs.AutomatonLemmas.{automaton-bounded, automaton-rises, automaton-accepts-within, automaton-written}

-- where each start tells the same
pub first_start-alike : (permitted : ℕ → Bool) (f h : ℕ → Option Trace) (n i : ℕ) → ((j : ℕ) → i ≤ j → f j ≡ h j)
    → first_start permitted f n i ≡ first_start permitted h n i
unfolding first_start
first_start-alike permitted f h zero i alike = refl
first_start-alike permitted f h (suc n) i alike =
    rw (alike i (omega arith), first_start-alike permitted f h n (i + 1) (λ j le. alike j (omega arith))) refl

pick : (i : ℕ) (m : Match) (b : Bool) (o : Option Trace) (rest : Option Match)
    → option_or (if b then option_map (λ t. record { start = i; trace = t }) o else None) rest ≡ Some m
    → ((t : Trace) × (o ≡ Some t) × (record { start = i; trace = t } ≡ m)) ⊎ (rest ≡ Some m)
pick i m true (Some t) rest h = inl (t, refl, some-is h)
pick i m true None rest h = inr h
pick i m false o rest h = inr h

-- a match comes from one of the starts
pub first_start-from : (permitted : ℕ → Bool) (from : ℕ → Option Trace) (n i : ℕ) (m : Match) → first_start permitted from n i ≡ Some m
    → (i ≤ m.start) × (from m.start ≡ Some m.trace)
unfolding first_start
first_start-from permitted from zero i m h = none-is-some h
first_start-from permitted from (suc n) i m h =
    elim (pick i m (permitted i) (from i) (first_start permitted from n (i + 1)) h) [
      | inl now ↦
          let begins : i ≡ m.start = ap (λ (x : Match). x.start) now.2 in
          let same : now.0 ≡ m.trace = ap (λ (x : Match). x.trace) now.2 in
          (omega arith, sym (ap from begins) ∙ now.1 ∙ ap Some same)
      | inr later ↦ let x = first_start-from permitted from n (i + 1) m later in let le = x.0 in (omega arith, x.1)
    ]

-- what is told of the traces is told of the first match
first_start-told : (which : WhichCaptures) (permitted : ℕ → Bool) (from : ℕ → Option Trace) (n i : ℕ)
    → first_start permitted (λ j. option_map (told which) (from j)) n i ≡ option_map (told_of which) (first_start permitted from n i)
unfolding first_start
first_start-told which permitted from zero i = refl
first_start-told which permitted from (suc n) i =
    ap (λ rest. option_or (if permitted i then option_map (λ t. record { start = i; trace = t }) (option_map (told which) (from i)) else None) rest)
    (first_start-told which permitted from n (i + 1))
    ∙ told-pick (permitted i) (from i) (first_start permitted from n (i + 1))
  where
    told-pick : (b : Bool) (o : Option Trace) (rest : Option Match)
        → option_or (if b then option_map (λ t. record { start = i; trace = t }) (option_map (told which) o) else None) (option_map (told_of which) rest)
        ≡ option_map (told_of which) (option_or (if b then option_map (λ t. record { start = i; trace = t }) o else None) rest)
    told-pick true (Some t) rest = refl
    told-pick true None rest = refl
    told-pick false o rest = refl

module _ (nfa : Nfa) (r : Patterns) (text : List ℕ) (end : ℕ) (within : end ≤ length text) (has : HasRuns nfa r) where
  runs : HasFirstRuns nfa r
  runs = HasRuns-first nfa r has

  -- what a start tells is what is told of the patterns there
  starting-alike : (anchor : Anchor) (i : ℕ) → first_from nfa.terminator nfa.states text end (start_of nfa anchor) i ≡ option_map (told r.which_captures)
      (starting_at r text end anchor i)
  unfolding starting_at
  starting-alike free i = runs.all text end i within
  starting-alike anchored i = runs.all text end i within
  starting-alike (anchored_to p) i = named (slice_get r.expressions p) refl
    where
      named : (o : Option Expression) → slice_get r.expressions p ≡ o
          → first_from nfa.terminator nfa.states text end (slice_get nfa.starts p) i ≡ option_map (told r.which_captures) (first_of_pattern r text end p o i)
      named None e =
          elim (slice_get_cases r.expressions p).1 [
            | inl there ↦ none-is-some (sym e ∙ there.2)
            | inr past ↦
                let le = past.0 in
                let same = runs.patterns in
                ap (λ s. first_from nfa.terminator nfa.states text end s i) (slice_get_past nfa.starts p (omega arith))
          ]
      named (Some h) e =
          let lt = slice_get_within r.expressions p h e in
          let same = runs.patterns in
          ap (λ s. first_from nfa.terminator nfa.states text end s i) (slice_get-get_or nfa.starts p 0 (omega arith)) ∙ runs.each text end p i h within e

  pub next_match_of-patterns : (utf8_empty : Bool) (anchor : Anchor) (start : ℕ) → r.utf8_empty ≡ utf8_empty
      → next_match_of nfa utf8_empty text anchor end start ≡ option_map (told_of r.which_captures) (next_match r text anchor end start)
  unfolding next_match_of next_match
  next_match_of-patterns utf8_empty anchor start same =
      first_start-alike (is_permitted utf8_empty text) (first_from nfa.terminator nfa.states text end (start_of nfa anchor))
      (λ j. option_map (told r.which_captures) (starting_at r text end anchor j)) (starts anchor start end) start (λ j le. starting-alike anchor j)
      ∙ first_start-told r.which_captures (is_permitted utf8_empty text) (starting_at r text end anchor) (starts anchor start end) start
      ∙ ap (λ u. option_map (told_of r.which_captures) (first_start (is_permitted u text) (starting_at r text end anchor) (starts anchor start end) start))
      (sym same)

-- all is told of a match, but under `none`
pub told_of-all : (o : Option Match) → option_map (told_of every_group) o ≡ o
told_of-all None = refl
told_of-all (Some m) = refl

-- Slots are written only where they are there.

writes-within : (patterns slots slot : ℕ) (s : State) → IsWithin patterns slots s → state_writes s ≡ Some slot → slot < slots
writes-within patterns slots slot (ByteRange low high next) within writes = none-is-some writes
writes-within patterns slots slot (Sparse transitions) within writes = none-is-some writes
writes-within patterns slots slot (Look look next) within writes = none-is-some writes
writes-within patterns slots slot (Union alternates) within writes = none-is-some writes
writes-within patterns slots slot (Capture next pattern number) within writes = let same : number ≡ slot = some-is writes in let lt = within.1 in omega arith
writes-within patterns slots slot Fail within writes = none-is-some writes
writes-within patterns slots slot (Accepts pattern) within writes = none-is-some writes

pub writes-none : (patterns slots : ℕ) (s : State) → slots ≡ 0 → IsWithin patterns slots s → state_writes s ≡ None
writes-none patterns slots (ByteRange low high next) empty within = refl
writes-none patterns slots (Sparse transitions) empty within = refl
writes-none patterns slots (Look look next) empty within = refl
writes-none patterns slots (Union alternates) empty within = refl
writes-none patterns slots (Capture next pattern number) empty within = let lt = within.1 in absurd (omega arith)
writes-none patterns slots Fail empty within = refl
writes-none patterns slots (Accepts pattern) empty within = refl

-- where the states may write no slots nothing is written
pub written-none : (patterns slots : ℕ) (states : List State) → slots ≡ 0 → All (IsWithin patterns slots) states
    → (terminator : ℕ) (text : List ℕ) (end : ℕ) (c : Configuration) → (automaton terminator states text end).written c ≡ None
written-none patterns slots states empty within terminator text end c =
    automaton-written (forwards terminator text) states end c.state c.place
    ∙ by_test (nat_lt c.state (length states))
    (λ e.
    let lt : c.state < length states = grind (arith, nat_tests) in
    writes-none patterns slots (state_at states c.state) empty (All-get_or (IsWithin patterns slots) states c.state _ lt within))
    (λ e. let fails : state_at states c.state ≡ Fail = get_or_past states c.state Fail (grind (arith, nat_tests)) in ap state_writes fails)

module _ (nfa : Nfa) (range : IsInRange nfa) (text : List ℕ) (end slot : ℕ) (past : nfa.slots ≤ slot) where
  abbrev graph : PriorityGraph
  graph = automaton nfa.terminator nfa.states text end

  written-within : (c : Configuration) (k : ℕ) → graph.written c ≡ Some k → k ≢ slot
  written-within c k h same =
      let writes : state_writes (state_at nfa.states c.state) ≡ Some k =
      sym (automaton-written (forwards nfa.terminator text) nfa.states end c.state c.place) ∙ h in
      by_test (nat_lt c.state (length nfa.states))
      (λ e.
      let lt : c.state < length nfa.states = grind (arith, nat_tests) in
      let less = writes-within (length nfa.starts) nfa.slots k (state_at nfa.states c.state)
      (All-get_or (IsWithin (length nfa.starts) nfa.slots) nfa.states c.state _ lt range.within) writes in
      omega arith)
      (λ e.
      let fails : state_at nfa.states c.state ≡ Fail = get_or_past nfa.states c.state Fail (grind (arith, nat_tests)) in
      none-is-some (sym (ap state_writes fails) ∙ writes))

  write-kept : (o : Option ℕ) (place : ℕ) (t : Trace) → ((k : ℕ) → o ≡ Some k → k ≢ slot) → last_write t.writes slot ≡ None
      → last_write (with_write o place t).writes slot ≡ None
  write-kept None place t other none = none
  write-kept (Some k) place t other none =
      let differ : (k == slot) ≡ false = by_test (k == slot) (λ e. absurd (other k refl ((Decides-eqb k slot).0 e))) (λ e. e) in
      rw (none, differ) refl

  run-writes : (c : Configuration) (run : List Configuration) → last_write (trace graph c run).writes slot ≡ None
  run-writes c [] = refl
  run-writes c (d ∷ run) = write-kept (graph.written c) c.place (trace graph d run) (written-within c) (run-writes d run)

  found-writes : (c : Configuration) (t : Trace) → first_trace graph c ≡ Some t → last_write t.writes slot ≡ None
  found-writes c t h = of_run (first_past graph nowhere c) h
    where
      of_run : (o : Option (List Configuration)) → option_map (trace graph c) o ≡ Some t → last_write t.writes slot ≡ None
      of_run None e = none-is-some e
      of_run (Some run) e = ap (λ (x : Trace). last_write x.writes slot) (sym (some-is e)) ∙ run-writes c run

  first_from-writes : (start : Option ℕ) (i : ℕ) (t : Trace) → first_from nfa.terminator nfa.states text end start i ≡ Some t → last_write t.writes slot ≡ None
  first_from-writes None i t h = none-is-some h
  first_from-writes (Some q) i t h = found-writes (at q i) t h

  -- a slot that is not there stays empty
  pub next_match_of-slot : (utf8_empty : Bool) (anchor : Anchor) (start : ℕ) (m : Match) → next_match_of nfa utf8_empty text anchor end start ≡ Some m
      → slot_value m slot ≡ None
  unfolding next_match_of
  next_match_of-slot utf8_empty anchor start m h =
      let x = first_start-from (is_permitted utf8_empty text) (first_from nfa.terminator nfa.states text end (start_of nfa anchor))
      (starts anchor start end) start m h in
      first_from-writes (start_of nfa anchor) m.start m.trace x.1

-- Where a match lies.

first_from-within : (terminator : ℕ) (states : List State) (text : List ℕ) (end : ℕ) (start : Option ℕ) (i : ℕ) (t : Trace)
    → first_from terminator states text end start i ≡ Some t → (i ≤ t.end) × (t.end ≤ end)
first_from-within terminator states text end None i t h = none-is-some h
first_from-within terminator states text end (Some q) i t h =
    let ends = found-end (automaton terminator states text end) (automaton-bounded (forwards terminator text) states end)
    (automaton-rises (forwards terminator text) states end) end (automaton-accepts-within (forwards terminator text) states end) nowhere (at q i) t h in
    (ends.0, ends.1)

pub next_match_of-within : (nfa : Nfa) (utf8_empty : Bool) (text : List ℕ) (anchor : Anchor) (end start : ℕ) (m : Match)
    → next_match_of nfa utf8_empty text anchor end start ≡ Some m
    → (start ≤ m.start) × (m.start ≤ m.trace.end) × (m.trace.end ≤ end)
unfolding next_match_of
next_match_of-within nfa utf8_empty text anchor end start m h =
    let x = first_start-from (is_permitted utf8_empty text) (first_from nfa.terminator nfa.states text end (start_of nfa anchor))
    (starts anchor start end) start m h in
    let y = first_from-within nfa.terminator nfa.states text end (start_of nfa anchor) m.start m.trace x.1 in
    (x.0, y.0, y.1)
