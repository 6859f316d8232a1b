-- Along the bytes of a span the keys answer the next match of the NFA.
use Rattle.std.proofs.Common.{◌≡◌, ℕ, zero, suc, ◌+◌, ◌-◌, ◌≤◌, ◌<◌, List, [], ◌∷◌, ◌++◌, length, refl, sym, ◌∙◌, ap, subst, arith}
use Rattle.std.specs.Prelude.{Bool, true, false, not, ◌&&◌, Option, Some, None, option_map, is_some, All, nat_lt, if◌then◌else◌, slice_index_or}
use Rattle.std.specs.Option.{option_or}
use Rattle.std.proofs.lemmas.Bool.Decides.{nat_tests}
use Rattle.std.proofs.lemmas.List.{get_or_past}
use Rattle.std.proofs.lemmas.List.Elements.{All-get_or, All-nil, All-append}
use Rattle.std.proofs.lemmas.Option.{get_or_from_slice_get, slice_get_within}
use Rattle.rx_model.specs.Look as model
use Rattle.rx_model.specs.Runs.{PriorityGraph, nowhere}
use Rattle.rx_model.specs.Search.{Anchor, free, anchored, anchored_to, is_permitted, first_start, starts}
use Rattle.rx_model.proofs.lemmas.runs.RunLemmas.{by_test}
use Rattle.rx_model.proofs.lemmas.runs.FirstLemmas.{some-is}
use Rattle.rx_model.proofs.lemmas.runs.OptionLemmas.{or-none_right}
use Rattle.rx_search.specs.Matches.{HalfMatchValue, half_match_value}
use Rattle.rx_search.specs.declared.anchored.MatchKind.TheVariants.{LeftmostFirst}
use Rattle.rx_nfa.specs.Automaton.{at, automaton_over, state_at, state_accepts, NamesBelow, Surroundings, forwards, byte_within}
use Rattle.rx_nfa.specs.Nfa.{Nfa, IsInRange}
use Rattle.rx_nfa.specs.NextMatch.{start_of, first_from, next_match_of}
use Rattle.rx_nfa.specs.Ordered.{AreBelow, HoldsAt, first_told, first_on, resting, close, targets, accepts_at, cut, match_here, HasSteps, where_there, begun}
use Rattle.rx_nfa.specs.declared.state.State.{State}
use Rattle.rx_nfa.specs.declared.state.State.TheVariants.{Fail}
use Rattle.rx_nfa.proofs.lemmas.runs.AutomatonLemmas.{automaton-accepted, automaton-accepted-beyond}
use Rattle.rx_nfa.proofs.lemmas.lists.ClosureLemmas.{threads-first, close-below, resting-below}
use Rattle.rx_nfa.proofs.lemmas.lists.TargetLemmas.{targets-below, cut-below, step-first, end-first, cut-first}
use Rattle.rx_nfa.proofs.lemmas.lists.LaterLemmas.{told_later, told_later-none, seeded-first, begun-below, where_there-none, automaton-steps, place-parts}
use Rattle.rx_determinize.specs.Key.{Sight, Sees, accepts_in, listed, arrived, settled, start_key, step_key, end_key}
use Rattle.rx_determinize.specs.Span.{met, run_keys, run_from, loops_in, answer_of}
use Rattle.rx_determinize.proofs.lemmas.ArrivedLemmas.{arrived-first, arrived-below}
use Rattle.std.proofs.Math.Bool.{and-true}

-- what is met of the preferred pattern is its match
pub met-listed : (accepts : ℕ → Option ℕ) (i : ℕ) (best : Option HalfMatchValue) (qs : List ℕ)
    → met (listed (first_told accepts qs)) i best ≡ option_or (match_here accepts i qs) best
met-listed accepts i best qs = each (first_told accepts qs)
  where
    each : (o : Option ℕ) → met (listed o) i best ≡ option_or (option_map (λ p. record { pattern = p; offset = i }) o) best
    each None = refl
    each (Some p) = refl

-- a match is there where a pattern is
pub some-here : (accepts : ℕ → Option ℕ) (i : ℕ) (qs : List ℕ) → is_some (match_here accepts i qs) ≡ is_some (first_told accepts qs)
some-here accepts i qs = each (first_told accepts qs)
  where
    each : (o : Option ℕ) → is_some {T = HalfMatchValue} (option_map (λ p. record { pattern = p; offset = i }) o) ≡ is_some o
    each None = refl
    each (Some p) = refl

-- each place may be a start
abbrev pub anywhere : ℕ → Bool
anywhere i = true

-- the byte at a place before the end of the text
pub byte-here : (byte : ℕ → ℕ) (size i : ℕ) → i < size → byte_within byte size i ≡ Some (byte i)
byte-here byte size i lt = let e : nat_lt i size ≡ true = grind (arith, nat_tests) in rw e refl

module _ (around : Surroundings) (size : ℕ) (states : List State) (names : All (NamesBelow (length states)) states) (end start : ℕ)
    (inside : start < length states) (sight : Sight) (short : end ≤ size) where
  abbrev graph : PriorityGraph
  graph = automaton_over around states end

  abbrev accepts : ℕ → Option ℕ
  accepts = accepts_in states

  steps-there : HasSteps around states end graph
  steps-there = automaton-steps around states end

  -- up to the end the automaton accepts what its states accept
  pub accepts-here : (i : ℕ) → i ≤ end → accepts_at graph i ≡ accepts
  accepts-here i le k q = each k
    where
      each : graph.accepted (at q i) ≡ state_accepts (state_at states q)
      each =
          by_test (nat_lt q (length states))
          (λ e. automaton-accepted around states end q i (grind (arith, nat_tests)) le)
          (λ e.
          let past : length states ≤ q = grind (arith, nat_tests) in
          automaton-accepted-beyond around states end q i past ∙ ap state_accepts (sym (get_or_past states q Fail past)))

  -- the first match that starts at one of the n places from i on
  abbrev pub later : (n i : ℕ) → Option HalfMatchValue
  later n i = told_later graph anywhere start n i

  abbrev first : ℕ → List ℕ → Option HalfMatchValue
  first i qs = first_on graph nowhere i qs

  -- the threads of these states that count, as they stay at their place
  abbrev pub staying : (model.Look → Bool) → List ℕ → List ℕ
  staying holding qs = close states holding (length states) (cut accepts qs) []

  abbrev pub kept : List ℕ → (loops : Bool) → Bool
  kept qs loops = loops && not (is_some (first_told accepts qs))

  -- where they go on the byte, and where the loop begins a thread
  abbrev pub onto : List ℕ → ℕ → List ℕ
  onto xs i = targets states (around.byte i) (cut accepts (resting states xs))

  abbrev pub next_stack : List ℕ → Bool → ℕ → List ℕ
  next_stack xs loops i = onto xs i ++ begun start (kept (resting states xs) loops)

  pub staying-below : (holding : model.Look → Bool) (qs : List ℕ) → AreBelow (length states) qs → AreBelow (length states) (staying holding qs)
  staying-below holding qs below = close-below states names holding (length states) (cut accepts qs) [] (cut-below (length states) accepts qs below)
      (All-nil (λ q. q < length states))

  pub onto-below : (xs : List ℕ) (i : ℕ) → AreBelow (length states) xs → AreBelow (length states) (onto xs i)
  onto-below xs i below =
      targets-below states names (around.byte i) (cut accepts (resting states xs))
      (cut-below (length states) accepts (resting states xs) (resting-below (length states) states xs below))

  pub next_stack-below : (xs : List ℕ) (loops : Bool) (i : ℕ) → AreBelow (length states) xs → AreBelow (length states) (next_stack xs loops i)
  next_stack-below xs loops i below =
      All-append (λ q. q < length states) (onto xs i) (begun start (kept (resting states xs) loops)) (onto-below xs i below)
      (begun-below (length states) start (kept (resting states xs) loops) inside)

  -- the cut, and the closure of what is left
  pub settled-first : (holding : model.Look → Bool) (i : ℕ) → HoldsAt around states holding i → i ≤ end
      → (loops : Bool) (after : Option HalfMatchValue) (qs : List ℕ) → AreBelow (length states) qs
      → option_or (first i (resting states (staying holding qs))) (where_there (kept qs loops) after) ≡ option_or (first i qs) (where_there loops after)
  settled-first holding i holds le loops after qs below =
      (λ k. option_or (threads-first around states end graph steps-there names holding i le holds (cut accepts qs) (cut-below (length states) accepts qs below)
      k) (where_there (loops && not (sym (some-here accepts i qs) k)) after))
      ∙ subst (λ a. option_or (first i (cut a qs)) (where_there (loops && not (is_some (match_here a i qs))) after) ≡ option_or (first i qs)
      (where_there loops after))
      (accepts-here i le) (cut-first around states end graph steps-there i loops after qs)

  -- One step: what the next key answers, and else what matches here, is what this key answers.
  pub key-step : (n i : ℕ) → i < end → (loops : Bool) (before : Option ℕ) (best : Option HalfMatchValue) (qs : List ℕ) → AreBelow (length states) qs
      → HoldsAt around states (sight.holds before (Some (around.byte i))) i
      → option_or
      (option_or (first (i + 1) (arrived states (next_stack (staying (sight.holds before (Some (around.byte i))) qs) (kept qs loops) i)))
      (where_there (kept (resting states (staying (sight.holds before (Some (around.byte i))) qs)) (kept qs loops)) (later n (i + 1 + 1))))
      (option_or (match_here accepts i (resting states (staying (sight.holds before (Some (around.byte i))) qs))) best)
      ≡ option_or (option_or (first i qs) (where_there loops (later (suc n) (i + 1)))) best
  key-step n i lt loops before best qs below holds =
      let next : i + 1 ≤ end = omega arith in
      let le : i ≤ end = omega arith in
      let holding = sight.holds before (Some (around.byte i)) in
      let xs = staying holding qs in
      let ts = resting states xs in
      let l0 = kept qs loops in
      let l1 = kept ts l0 in
      let here = match_here accepts i ts in
      let after = later (suc n) (i + 1) in
      let arrives : first (i + 1) (arrived states (next_stack xs l0 i)) ≡ first (i + 1) (next_stack xs l0 i) =
      arrived-first around states names end graph steps-there (i + 1) next (next_stack xs l0 i) (next_stack-below xs l0 i (staying-below holding qs below)) in
      let begins : option_or (first (i + 1) (onto xs i ++ begun start (l1 && true))) (where_there l1 (later n (i + 1 + 1)))
      ≡ option_or (first (i + 1) (onto xs i)) (where_there l1 after) =
      seeded-first graph anywhere start n (i + 1) l1 (onto xs i) in
      let reads : option_or (first (i + 1) (onto xs i)) here ≡ first i ts =
      sym (subst (λ a. first i ts ≡ option_or (first (i + 1) (targets states (around.byte i) (cut a ts))) (match_here a i ts)) (accepts-here i le)
      (step-first around states end graph steps-there i lt xs)) in
      let gives_up : kept ts l0 ≡ (l0 && not (is_some here)) = λ k. l0 && not (sym (some-here accepts i ts) k) in
      (λ k. option_or (option_or (arrives k) (where_there l1 (later n (i + 1 + 1)))) (option_or here best))
      ∙ (λ k. option_or (option_or (first (i + 1) (onto xs i ++ begun start (sym (and-true l1) k))) (where_there l1 (later n (i + 1 + 1))))
      (option_or here best))
      ∙ ap (λ o. option_or o (option_or here best)) begins
      ∙ (λ k. option_or (option_or (first (i + 1) (onto xs i)) (where_there (gives_up k) after)) (option_or here best))
      ∙ place-parts l0 (first (i + 1) (onto xs i)) here after best
      ∙ (λ k. option_or (option_or (reads k) (where_there l0 after)) best)
      ∙ ap (λ o. option_or o best) (settled-first holding i holds le loops after qs below)

  -- at the end what matches is what the threads lead to
  pub key-end : (i : ℕ) → i ≡ end → (loops : Bool) (holding : model.Look → Bool) (qs : List ℕ) → AreBelow (length states) qs → HoldsAt around states holding i
      → match_here accepts i (resting states (staying holding qs)) ≡ option_or (first i qs) (where_there loops (later zero (i + 1)))
  key-end i same loops holding qs below holds =
      let le : i ≤ end = omega arith in
      let xs = staying holding qs in
      let ts = resting states xs in
      let last : first i ts ≡ match_here (accepts_at graph i) i ts =
      subst (λ e. first e ts ≡ match_here (accepts_at graph e) e ts) (sym same) (end-first around states end graph steps-there xs) in
      sym (last ∙ ap (λ a. match_here a i ts) (accepts-here i le))
      ∙ sym (or-none_right (first i ts))
      ∙ ap (option_or (first i ts)) (sym (ap (where_there (kept qs loops)) (told_later-none graph anywhere start (i + 1)) ∙ where_there-none (kept qs loops)))
      ∙ settled-first holding i holds le loops (later zero (i + 1)) qs below

  -- From a key on, the keys along n bytes answer what its threads lead to, then the later starts, and else what was met before.
  pub run-first : (n i : ℕ) → i + n ≡ end → (loops : Bool) (matches : List ℕ) (before : Option ℕ) (best : Option HalfMatchValue) (qs : List ℕ)
      → AreBelow (length states) qs
      → HoldsAt around states (sight.holds before (byte_within around.byte size i)) i
      → ((j : ℕ) → i ≤ j → j < end → HoldsAt around states (sight.holds (sight.class (around.byte j)) (byte_within around.byte size (j + 1))) (j + 1))
      → run_keys LeftmostFirst states start sight around size n i (settled LeftmostFirst states qs loops matches before) best
      ≡ option_or (option_or (first i qs) (where_there loops (later n (i + 1)))) best
  unfolding run_keys end_key step_key
  run-first zero i ends loops matches before best qs below holds onward =
      let same : i ≡ end = omega arith in
      let holding = sight.holds before (byte_within around.byte size i) in
      met-listed accepts i best (resting states (staying holding qs))
      ∙ ap (λ o. option_or o best) (key-end i same loops holding qs below holds)
  run-first (suc n) i ends loops matches before best qs below holds onward =
      let lt : i < end = omega arith in
      let byte = byte-here around.byte size i (omega arith) in
      let holding = sight.holds before (Some (around.byte i)) in
      let holds-byte : HoldsAt around states holding i = subst (λ o. HoldsAt around states (sight.holds before o) i) byte holds in
      let xs = staying holding qs in
      let ts = resting states xs in
      let l0 = kept qs loops in
      let l1 = kept ts l0 in
      let ys = next_stack xs l0 i in
      let here = listed (first_told accepts ts) in
      run-first n (i + 1) (omega arith) l1 here (sight.class (around.byte i)) (met here i best) (arrived states ys)
      (arrived-below states names ys (next_stack-below xs l0 i (staying-below holding qs below))) (onward i (omega arith) lt)
      (λ j from to. onward j (omega arith) to)
      ∙ ap (option_or (option_or (first (i + 1) (arrived states ys)) (where_there l1 (later n (i + 1 + 1))))) (met-listed accepts i best ts)
      ∙ key-step n i lt loops before best qs below holds-byte

  -- what the first key stands for
  pub start-first : (a : ℕ) → a ≤ end → (loops : Bool)
      → option_or (first a (arrived states (start ∷ []))) (where_there loops (later (end - a) (a + 1))) ≡ later (if loops then suc (end - a) else 1) a
  start-first a le loops =
      (λ k. option_or (arrived-first around states names end graph steps-there a le (start ∷ []) (begun-below (length states) start true inside) k)
      (where_there loops (later (end - a) (a + 1))))
      ∙ by_loops loops
    where
      by_loops : (l : Bool) → option_or (first a (start ∷ [])) (where_there l (later (end - a) (a + 1))) ≡ later (if l then suc (end - a) else 1) a
      by_loops true = seeded-first graph anywhere start (end - a) a true []
      by_loops false =
          ap (option_or (first a (start ∷ []))) (sym (told_later-none graph anywhere start (a + 1)))
          ∙ seeded-first graph anywhere start 0 a true []

  -- from the start
  pub start-keys : (a : ℕ) (before : Option ℕ) → a ≤ end → Sees sight around size states before end a → (loops : Bool)
      → run_keys LeftmostFirst states start sight around size (end - a) a (start_key LeftmostFirst states start loops before) None ≡ later
      (if loops then suc (end - a) else 1) a
  unfolding start_key
  start-keys a before le sees loops =
      run-first (end - a) a (omega arith) loops [] before None (arrived states (start ∷ []))
      (arrived-below states names (start ∷ []) (begun-below (length states) start true inside)) sees.begins sees.goes_on
      ∙ or-none_right (option_or (first a (arrived states (start ∷ []))) (where_there loops (later (end - a) (a + 1))))
      ∙ start-first a le loops

-- The keys of an NFA.

module _ (nfa : Nfa) (range : IsInRange nfa) (sight : Sight) (text : List ℕ) (b : ℕ) (within : b ≤ length text) where
  abbrev around : Surroundings
  around = forwards nfa.terminator text

  -- the state at which the runs start is there
  pub start-inside : (anchor : Anchor) (q : ℕ) → start_of nfa anchor ≡ Some q → q < length nfa.states
  start-inside free q h = let lt = range.start_anchored in let same : nfa.start_anchored ≡ q = some-is h in omega arith
  start-inside anchored q h = let lt = range.start_anchored in let same : nfa.start_anchored ≡ q = some-is h in omega arith
  start-inside (anchored_to p) q h =
      let lt = slice_get_within nfa.starts p q h in
      let below = All-get_or (λ k. k < length nfa.states) nfa.starts p q lt range.starts in
      let is : slice_index_or nfa.starts p q ≡ q = get_or_from_slice_get nfa.starts p q q h in
      omega arith

  -- how many starts the keys stand for
  pub as-many : (anchor : Anchor) (a : ℕ) → a ≤ b → (if loops_in anchor then suc (b - a) else 1) ≡ starts anchor a b
  as-many anchor a le = each anchor
    where
      in_order : nat_lt b a ≡ false
      in_order = grind (arith, nat_tests)

      each : (anchor : Anchor) → (if loops_in anchor then suc (b - a) else 1) ≡ starts anchor a b
      each free = let e : suc (b - a) ≡ b + 1 - a = omega arith in rw in_order e
      each anchored = rw in_order refl
      each (anchored_to p) = rw in_order refl

  -- from no state nothing starts
  pub none-starts : (may : ℕ → Bool) (n i : ℕ) → first_start may (first_from nfa.terminator nfa.states text b None) n i ≡ None
  unfolding first_start
  none-starts may zero i = refl
  none-starts may (suc n) i = by_test (may i) (λ e. rw e (none-starts may n (i + 1))) (λ e. rw e (none-starts may n (i + 1)))

  from-start : (a : ℕ) (first : Option ℕ) → a ≤ b → Sees sight around (length text) nfa.states first b a → (loops : Bool) (o : Option ℕ)
      → ((q : ℕ) → o ≡ Some q → q < length nfa.states)
      → run_from LeftmostFirst nfa.states sight around (length text) loops first b a o
      ≡ option_map half_match_value (first_start (is_permitted false text) (first_from nfa.terminator nfa.states text b o) (if loops then suc (b - a) else 1) a)
  from-start a first le sees loops None inside = sym
      (ap (option_map half_match_value) (none-starts (is_permitted false text) (if loops then suc (b - a) else 1) a))
  from-start a first le sees loops (Some q) inside = start-keys around (length text) nfa.states range.names b q (inside q refl) sight within a first le sees
      loops

  pub keys-answer : (anchor : Anchor) (a : ℕ) (first : Option ℕ) → a ≤ b → Sees sight around (length text) nfa.states first b a
      → answer_of nfa sight text anchor first b a ≡ option_map half_match_value (next_match_of nfa false text anchor b a)
  unfolding next_match_of
  keys-answer anchor a first le sees =
      from-start a first le sees (loops_in anchor) (start_of nfa anchor) (start-inside anchor)
      ∙ ap (λ n. option_map half_match_value (first_start (is_permitted false text) (first_from nfa.terminator nfa.states text b (start_of nfa anchor)) n a))
      (as-many anchor a le)
