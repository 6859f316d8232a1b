-- The starts to come, and the search by ordered lists: it finds the next match.
use Rattle.std.proofs.Common.{◌≡◌, ℕ, zero, suc, ◌+◌, ◌-◌, ◌≤◌, ◌<◌, List, [], ◌++◌, length, refl, sym, ◌∙◌, ap, subst, arith}
use Rattle.std.specs.Prelude.{Bool, true, false, not, ◌&&◌, Option, Some, None, option_map, is_some, All, nat_lt, if◌then◌else◌, slice_index_or}
use Rattle.std.specs.Option.{option_or}
use Rattle.std.proofs.lemmas.Bool.Decides.{nat_tests}
use Rattle.std.proofs.lemmas.List.{get_or_past}
use Rattle.std.proofs.lemmas.List.Elements.{All-get_or, All-nil, All-cons, All-append}
use Rattle.std.proofs.lemmas.Option.{get_or_from_slice_get, slice_get_within}
use Rattle.rx_model.specs.Look as model
use Rattle.rx_model.specs.Runs.{Sieve, sieved, PriorityGraph, nowhere, Trace, found}
use Rattle.rx_model.specs.Search.{Anchor, free, anchored, anchored_to, is_anchored, is_permitted, first_start, starts}
use Rattle.rx_model.proofs.lemmas.runs.RunLemmas.{by_test}
use Rattle.rx_model.proofs.lemmas.runs.FirstLemmas.{some-is}
use Rattle.rx_model.proofs.lemmas.graphs.SieveLemmas.{sieved-bounded, sieved-rises, sieved-none}
use Rattle.rx_model.proofs.lemmas.runs.OptionLemmas.{or-assoc, or-none_right}
use Rattle.rx_search.specs.Matches.{HalfMatchValue, half_match_value}
use Rattle.rx_nfa.specs.Automaton.{at, automaton, automaton_over, state_at, state_accepts, NamesBelow, Surroundings, forwards}
use Rattle.rx_nfa.specs.Nfa.{Nfa, IsInRange}
use Rattle.rx_nfa.specs.NextMatch.{start_of, first_from, next_match_of}
use Rattle.rx_nfa.specs.Ordered.{AreBelow, half, tell, first_on, threads_from, close, targets, accepts_at, cut, match_here, HasSteps, where_there, begun, list_search, list_search_of}
use Rattle.rx_nfa.specs.declared.state.State.{State}
use Rattle.rx_nfa.specs.declared.state.State.TheVariants.{Fail}
use Rattle.rx_nfa.proofs.lemmas.runs.AutomatonLemmas.{automaton-bounded, automaton-rises, automaton-successors, automaton-accepted, automaton-accepted-beyond}
use Rattle.rx_nfa.proofs.lemmas.lists.ClosureLemmas.{threads-first, close-below, resting-below}
use Rattle.rx_nfa.proofs.lemmas.lists.ListLemmas.{first_told-append}
use Rattle.rx_nfa.proofs.lemmas.lists.StageLemmas.{told_next, told_at, told_next-here, told_next-not_here, told_next-none}
use Rattle.rx_nfa.proofs.lemmas.lists.TargetLemmas.{targets-below, cut-below, step-first, end-first}

-- The starts to come.

module _ (g : PriorityGraph) (may : ℕ → Bool) (start : ℕ) where
  -- the pattern and the end of the match
  abbrev pub told_later : (n i : ℕ) → Option HalfMatchValue
  told_later n i = told_next half_match_value g may start n i nowhere

  half-start : (i : ℕ) (o : Option Trace) → told_at half_match_value i o ≡ option_map half o
  half-start i None = refl
  half-start i (Some t) = refl

  -- a thread that begins here stands for the start
  begun-first : (n i : ℕ) (b : Bool) → may i ≡ b → option_or (first_on g nowhere i (begun start b)) (told_later n (i + 1)) ≡ told_later (suc n) i
  begun-first n i true allowed =
      (λ k. option_or ((or-none_right (tell g nowhere i start) ∙ sym (half-start i (found g nowhere (at start i)))) k) (told_later n (i + 1)))
      ∙ sym (told_next-here half_match_value g may start n i nowhere allowed)
  begun-first n i false forbidden = sym (told_next-not_here half_match_value g may start n i nowhere forbidden)

  -- It stands behind the others on the list.
  pub seeded-first : (n i : ℕ) (loops : Bool) (qs : List ℕ)
      → option_or (first_on g nowhere i (qs ++ begun start (loops && may i))) (where_there loops (told_later n (i + 1)))
      ≡ option_or (first_on g nowhere i qs) (where_there loops (told_later (suc n) i))
  seeded-first n i true qs =
      ap (λ o. option_or o (told_later n (i + 1))) (first_told-append (tell g nowhere i) qs (begun start (may i)))
      ∙ or-assoc (first_on g nowhere i qs) (first_on g nowhere i (begun start (may i))) (told_later n (i + 1))
      ∙ ap (option_or (first_on g nowhere i qs)) (begun-first n i (may i) refl)
  seeded-first n i false qs =
      ap (λ o. option_or o None) (first_told-append (tell g nowhere i) qs [] ∙ or-none_right (first_on g nowhere i qs))

  pub told_later-none : (i : ℕ) → told_later zero i ≡ None
  told_later-none i = told_next-none half_match_value g may start i nowhere

pub where_there-none : {A : Type 0} (b : Bool) → where_there {A = A} b None ≡ None
where_there-none true = refl
where_there-none false = refl

pub begun-below : (n start : ℕ) (b : Bool) → start < n → AreBelow n (begun start b)
begun-below n start true lt = All-cons (λ q. q < n) start [] lt (All-nil (λ q. q < n))
begun-below n start false lt = All-nil (λ q. q < n)

-- One place: what the threads lead to over the byte, what matches here, and what comes later.
pub place-parts : (loops : Bool) (reads here later best : Option HalfMatchValue)
    → option_or (option_or reads (where_there (loops && not (is_some here)) later)) (option_or here best)
    ≡ option_or (option_or (option_or reads here) (where_there loops later)) best
place-parts true (Some r) here later best = refl
place-parts true None (Some h) later best = refl
place-parts true None None later best = refl
place-parts false (Some r) here later best = refl
place-parts false None (Some h) later best = refl
place-parts false None None later best = refl

-- The search by lists.

module _ (around : Surroundings) (states : List State) (names : All (NamesBelow (length states)) states) (end : ℕ) (g : PriorityGraph)
    (has_steps : HasSteps around states end g)
    (may : ℕ → Bool) (start : ℕ) (inside : start < length states) where
  abbrev looks_at : ℕ → model.Look → Bool
  looks_at i kind = around.looks kind i

  -- the threads at place i, with the one that begins there
  abbrev threads_at : (i : ℕ) → (loops : Bool) → List ℕ → List ℕ
  threads_at i loops qs = threads_from states (looks_at i) (qs ++ begun start (loops && may i))

  seeded-below : (i : ℕ) (loops : Bool) (qs : List ℕ) → AreBelow (length states) qs → AreBelow (length states) (qs ++ begun start (loops && may i))
  seeded-below i loops qs below = All-append (λ q. q < length states) qs (begun start (loops && may i)) below
      (begun-below (length states) start (loops && may i) inside)

  threads-below : (i : ℕ) (loops : Bool) (qs : List ℕ) → AreBelow (length states) qs → AreBelow (length states) (threads_at i loops qs)
  threads-below i loops qs below =
      resting-below (length states) states (close states (looks_at i) (length states) (qs ++ begun start (loops && may i)) [])
      (close-below states names (looks_at i) (length states) (qs ++ begun start (loops && may i)) [] (seeded-below i loops qs below)
      (All-nil (λ q. q < length states)))

  -- the threads at a place, and then the starts behind it
  threads-tell : (n i : ℕ) → i ≤ end → (loops : Bool) (qs : List ℕ) → AreBelow (length states) qs
      → option_or (first_on g nowhere i (threads_at i loops qs)) (where_there loops (told_later g may start n (i + 1)))
      ≡ option_or (first_on g nowhere i qs) (where_there loops (told_later g may start (suc n) i))
  threads-tell n i le loops qs below =
      ap (λ o. option_or o (where_there loops (told_later g may start n (i + 1))))
      (threads-first around states end g has_steps names (looks_at i) i le (λ q next look is. refl) (qs ++ begun start (loops && may i))
      (seeded-below i loops qs below))
      ∙ seeded-first g may start n i loops qs

  pub list_search-first : (n i : ℕ) → i + n ≡ end → (loops : Bool) (qs : List ℕ) → AreBelow (length states) qs → (best : Option HalfMatchValue)
      → list_search around states (accepts_at g) may start n i loops qs best
      ≡ option_or (option_or (first_on g nowhere i qs) (where_there loops (told_later g may start (suc n) i))) best
  unfolding list_search
  list_search-first zero i ends loops qs below best =
      let here : i ≡ end = omega arith in
      let le : i ≤ end = omega arith in
      let threads = threads_at i loops qs in
      let last : first_on g nowhere end threads ≡ match_here (accepts_at g end) end threads =
      end-first around states end g has_steps (close states (looks_at i) (length states) (qs ++ begun start (loops && may i)) []) in
      ap (λ o. option_or o best)
      (sym (subst (λ e. first_on g nowhere e threads ≡ match_here (accepts_at g e) e threads) (sym here) last)
      ∙ sym (or-none_right (first_on g nowhere i threads))
      ∙ ap (option_or (first_on g nowhere i threads)) (sym (ap (where_there loops) (told_later-none g may start (i + 1)) ∙ where_there-none loops))
      ∙ threads-tell zero i le loops qs below)
  list_search-first (suc n) i ends loops qs below best =
      let le : i ≤ end = omega arith in
      let lt : i < end = omega arith in
      let threads = threads_at i loops qs in
      let here = match_here (accepts_at g i) i threads in
      let onto = targets states (around.byte i) (cut (accepts_at g i) threads) in
      list_search-first n (i + 1) (omega arith) (loops && not (is_some here)) onto
      (targets-below states names (around.byte i) (cut (accepts_at g i) threads)
      (cut-below (length states) (accepts_at g i) threads (threads-below i loops qs below)))
      (option_or here best)
      ∙ place-parts loops (first_on g nowhere (i + 1) onto) here (told_later g may start (suc n) (i + 1)) best
      ∙ ap (λ o. option_or o best)
      (ap (λ o. option_or o (where_there loops (told_later g may start (suc n) (i + 1))))
      (sym (step-first around states end g has_steps i lt (close states (looks_at i) (length states) (qs ++ begun start (loops && may i)) [])))
      ∙ threads-tell (suc n) i le loops qs below)

  pub list_search-alike : (accepts accepts' : ℕ → ℕ → Option ℕ) (n i : ℕ) → ((j : ℕ) → j ≤ i + n → accepts j ≡ accepts' j)
      → (loops : Bool) (qs : List ℕ) (best : Option HalfMatchValue)
      → list_search around states accepts may start n i loops qs best ≡ list_search around states accepts' may start n i loops qs best
  unfolding list_search
  list_search-alike accepts accepts' zero i alike loops qs best =
      ap (λ a. option_or (match_here a i (threads_at i loops qs)) best) (alike i (omega arith))
  list_search-alike accepts accepts' (suc n) i alike loops qs best =
      let threads = threads_at i loops qs in
      list_search-alike accepts accepts' n (i + 1) (λ j le. alike j (omega arith)) (loops && not (is_some (match_here (accepts i) i threads)))
      (targets states (around.byte i) (cut (accepts i) threads)) (option_or (match_here (accepts i) i threads) best)
      ∙ ap (λ a. list_search around states accepts' may start n (i + 1) (loops && not (is_some (match_here a i threads)))
      (targets states (around.byte i) (cut a threads)) (option_or (match_here a i threads) best))
      (alike i (omega arith))

-- The automaton has its steps.
pub automaton-steps : (around : Surroundings) (states : List State) (end : ℕ) → HasSteps around states end (automaton_over around states end)
automaton-steps around states end = record {
  bounded = automaton-bounded around states end;
  rises = automaton-rises around states end;
  steps = λ q i lt le. automaton-successors around states end q i lt le;
  accepts = λ q i lt le none. automaton-accepted around states end q i lt le ∙ none;
}

-- and so has a graph that accepts less
pub sieved-steps : (ok : Sieve) (around : Surroundings) (states : List State) (end : ℕ) (g : PriorityGraph) → HasSteps around states end g
    → HasSteps around states end (sieved ok g)
sieved-steps ok around states end g has_steps = record {
  bounded = sieved-bounded ok g has_steps.bounded;
  rises = sieved-rises ok g has_steps.rises;
  steps = λ q i lt le. has_steps.steps q i lt le;
  accepts = λ q i lt le none. sieved-none ok g (at q i) (has_steps.accepts q i lt le none);
}

not-past : (a b : ℕ) → a ≤ b → nat_lt b a ≡ false
not-past a b le = grind (arith, nat_tests)

module _ (nfa : Nfa) (range : IsInRange nfa) (utf8_empty : Bool) (text : List ℕ) (b a : ℕ) (in_order : a ≤ b) (anchor : Anchor) (start : ℕ)
    (begins : start_of nfa anchor ≡ Some start) where
  abbrev graph : PriorityGraph
  graph = automaton nfa.terminator nfa.states text b

  abbrev may : ℕ → Bool
  may i = is_permitted utf8_empty text i

  -- what the automaton accepts up to the end
  accepts : (i : ℕ) → i ≤ b → (λ q. state_accepts (state_at nfa.states q)) ≡ accepts_at graph i
  accepts i le k q = sym (each q) k
    where
      each : (q : ℕ) → graph.accepted (at q i) ≡ state_accepts (state_at nfa.states q)
      each q =
          by_test (nat_lt q (length nfa.states))
          (λ e. automaton-accepted (forwards nfa.terminator text) nfa.states b q i (grind (arith, nat_tests)) le)
          (λ e.
          let past : length nfa.states ≤ q = grind (arith, nat_tests) in
          automaton-accepted-beyond (forwards nfa.terminator text) nfa.states b q i past ∙ ap state_accepts (sym (get_or_past nfa.states q Fail past)))

  inside : start < length nfa.states
  inside = of_anchor anchor begins
    where
      of_anchor : (anchor : Anchor) → start_of nfa anchor ≡ Some start → start < length nfa.states
      of_anchor free h = let lt = range.start_anchored in let same : nfa.start_anchored ≡ start = some-is h in omega arith
      of_anchor anchored h = let lt = range.start_anchored in let same : nfa.start_anchored ≡ start = some-is h in omega arith
      of_anchor (anchored_to p) h =
          let lt = slice_get_within nfa.starts p start h in
          let below = All-get_or (λ k. k < length nfa.states) nfa.starts p start lt range.starts in
          let is : slice_index_or nfa.starts p start ≡ start = get_or_from_slice_get nfa.starts p start start h in
          omega arith

  abbrev later : ℕ → Option HalfMatchValue
  later n = told_later graph may start n a

  from_start : (t : Bool) → option_or (option_or (first_on graph nowhere a (begun start (t && may a))) (where_there (not t) (later (suc (b - a))))) None ≡ later
      (if t then 1 else b + 1 - a)
  from_start true =
      or-none_right (option_or (first_on graph nowhere a (begun start (may a))) None)
      ∙ ap (option_or (first_on graph nowhere a (begun start (may a)))) (sym (told_later-none graph may start (a + 1)))
      ∙ begun-first graph may start 0 a (may a) refl
  from_start false = let e : suc (b - a) ≡ b + 1 - a = omega arith in or-none_right (later (suc (b - a))) ∙ ap later e

  -- the search by lists finds the next match
  pub list_search_of-next : list_search_of nfa utf8_empty text anchor b a start ≡ option_map half_match_value (next_match_of nfa utf8_empty text anchor b a)
  unfolding next_match_of
  list_search_of-next =
      let around = forwards nfa.terminator text in
      let known = not-past a b in_order in
      let qs = begun start (is_anchored anchor && may a) in
      list_search-alike around nfa.states range.names b graph (automaton-steps (forwards nfa.terminator text) nfa.states b) may start inside
      (λ i q. state_accepts (state_at nfa.states q)) (accepts_at graph) (b - a) a (λ j le. accepts j (omega arith)) (not (is_anchored anchor)) qs None
      ∙ list_search-first around nfa.states range.names b graph (automaton-steps (forwards nfa.terminator text) nfa.states b) may start inside (b - a) a
      (omega arith) (not (is_anchored anchor)) qs
      (begun-below (length nfa.states) start (is_anchored anchor && may a) inside) None
      ∙ from_start (is_anchored anchor)
      ∙ ap later (rw known refl)
      ∙ ap (λ o. option_map half_match_value (first_start may (first_from nfa.terminator nfa.states text b o) (starts anchor a b) a)) (sym begins)
