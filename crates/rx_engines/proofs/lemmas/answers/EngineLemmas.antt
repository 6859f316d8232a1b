-- What the search of a list of states finds, for an NFA and an input.
use Rattle.std.proofs.Common.{◌≡◌, ℕ, zero, suc, ◌+◌, ◌-◌, ◌≤◌, ◌<◌, List, length, get_or, refl, sym, ◌∙◌, ap, subst, arith}
use Rattle.std.proofs.lemmas.Bool.Decides.{nat_tests}
use Rattle.std.proofs.lemmas.List.Elements.{All-get_or}
use Rattle.std.proofs.lemmas.Option.{get_or_from_slice_get, slice_get_within}
use Rattle.std.proofs.lemmas.List.{get_or_past}
use Rattle.std.specs.Prelude.{Bool, true, false, ◌&&◌, replicate, Option, Some, None, option_map, is_some, IfSome, nat_lt, nat_le, if◌then◌else◌}
use Rattle.rx_model.specs.Runs.{Trace, first_trace}
use Rattle.rx_model.specs.Search.{Patterns, told_of, Anchor, free, anchored, anchored_to, is_anchored, Match, is_permitted, first_start, starts, next_match, slot_value}
use Rattle.rx_model.proofs.lemmas.runs.RunLemmas.{by_test}
use Rattle.rx_model.proofs.lemmas.runs.FirstLemmas.{none-is-some, some-is}
use Rattle.rx_model.proofs.lemmas.matches.WithinLemmas.{next-later}
use Rattle.rx_search.specs.Matches.{match_value, MatchValue}
use Rattle.rx_search.specs.Input.{InputValue, next_in}
use Rattle.rx_search.specs.Told.{IsMatchWith, HasSlots, AreWithin}
use Rattle.rx_nfa.specs.Automaton.{at, automaton, forwards}
use Rattle.rx_nfa.specs.Nfa.{Nfa, IsInRange, IsNfaOf}
use Rattle.rx_nfa.specs.NextMatch.{start_of, first_from, next_match_of, next_match_in}
use Rattle.rx_nfa.proofs.lemmas.runs.AutomatonLemmas.{automaton-bounded, automaton-rises, automaton-accepts-within}
use Rattle.rx_nfa.proofs.lemmas.lists.StageLemmas.{first_start-none, first_start-more, found-beyond}
use Rattle.rx_nfa.proofs.lemmas.runs.NextMatchLemmas.{first_start-alike, first_start-from, next_match_of-patterns, next_match_of-slot, next_match_of-within}
use Rattle.rx_engines.specs.Search.{IsInside, graph_until, may_start, PassesNoRun, next_until, next_of, first_place, stop_of, answer_of}
use Rattle.rx_engines.specs.declared.search.Search.{Search}
use Rattle.rx_engines.specs.Walk.{Slots}
use Rattle.rx_engines.specs.Room.{Room}
use Rattle.rx_engines.specs.Engine.{PikeVMValue, HasRoom, next_match_by, stop_in, answer_in, last_start, IsSearchOf, HasNoMatch}
use Rattle.rx_engines.proofs.lemmas.threads.StageLemmas.{first_place-within, first_place-alike, until-starts}
use Rattle.rx_engines.proofs.lemmas.answers.PatternLemmas.{next_match_of-pattern}
use Rattle.rx_engines.proofs.lemmas.answers.SpanLemmas.{next_match_of-places, empty-within}

module _ (nfa : Nfa) (utf8_empty : Bool) (text : List ℕ) (anchor : Anchor) (end start : ℕ) where
  -- nothing is left to search
  pub next_match_of-done : end < start → next_match_of nfa utf8_empty text anchor end start ≡ None
  unfolding next_match_of first_start
  next_match_of-done past = let e : nat_lt end start ≡ true = grind (arith, nat_tests) in rw e refl

  -- the pattern that is asked for is not there
  pub next_match_of-missing : start_of nfa anchor ≡ None → next_match_of nfa utf8_empty text anchor end start ≡ None
  unfolding next_match_of
  next_match_of-missing none =
      first_start-none (is_permitted utf8_empty text) (first_from nfa.terminator nfa.states text end (start_of nfa anchor)) (starts anchor start end) start
      (λ j le. ap (λ s. first_from nfa.terminator nfa.states text end s j) none)

  -- a search up to a later place looks at more starts, from which no run ends by here
  pub next_match_of-until : (top q : ℕ) → start ≤ end → end ≤ top → start_of nfa anchor ≡ Some q
      → first_start (is_permitted utf8_empty text) (λ i. first_trace (automaton nfa.terminator nfa.states text end) (at q i))
      ((if is_anchored anchor then start else top) + 1 - start) start ≡ next_match_of nfa utf8_empty text anchor end start
  unfolding next_match_of
  next_match_of-until top q low high is =
      fewer
      ∙ first_start-alike (is_permitted utf8_empty text) from_start (first_from nfa.terminator nfa.states text end (start_of nfa anchor))
      (starts anchor start end) start
      (λ j _. ap (λ s. first_from nfa.terminator nfa.states text end s j) (sym is))
    where
      from_start : ℕ → Option Trace
      from_start i = first_trace (automaton nfa.terminator nfa.states text end) (at q i)

      in_order : nat_lt end start ≡ false
      in_order = grind (arith, nat_tests)

      fewer : first_start (is_permitted utf8_empty text) from_start ((if is_anchored anchor then start else top) + 1 - start) start ≡ first_start
          (is_permitted utf8_empty text) from_start (starts anchor start end) start
      fewer =
          by_test (is_anchored anchor)
          (λ a. rw (in_order, a) (let one : start + 1 - start ≡ 1 = omega arith in ap (λ n. first_start (is_permitted utf8_empty text) from_start n start) one))
          (λ a. rw (in_order, a)
          (first_start-more (is_permitted utf8_empty text) from_start (end + 1 - start) (top + 1 - start) start (omega arith)
          (λ j le.
          found-beyond (automaton nfa.terminator nfa.states text end) (automaton-bounded (forwards nfa.terminator text) nfa.states end)
          (automaton-rises (forwards nfa.terminator text) nfa.states end) end (automaton-accepts-within (forwards nfa.terminator text) nfa.states end) q j
          (omega arith))))

-- the start is there
start-inside : (nfa : Nfa) (anchor : Anchor) (q : ℕ) → IsInRange nfa → start_of nfa anchor ≡ Some q → q < length nfa.states
start-inside nfa anchor q range is = inside anchor is
  where
    inside : (a : Anchor) → start_of nfa a ≡ Some q → q < length nfa.states
    inside free e = let same = some-is e in let lt = range.start_anchored in omega arith
    inside anchored e = let same = some-is e in let lt = range.start_anchored in omega arith
    inside (anchored_to p) e =
        let same = get_or_from_slice_get nfa.starts p q 0 e in
        let lt = All-get_or (λ s. s < length nfa.states) nfa.starts p 0 (slice_get_within nfa.starts p q e) range.starts in
        omega arith

-- what is told is told of something
told-from : (tell : Match → Match) (o : Option Match) (m : Match) → option_map tell o ≡ Some m → (n : Match) × (o ≡ Some n) × (tell n ≡ m)
told-from tell None m e = none-is-some e
told-from tell (Some n) m e = (n, refl, some-is e)

-- there is nothing to search
pub none-missing : (nfa : Nfa) (v : InputValue) → start_of nfa v.anchor ≡ None → HasNoMatch nfa v
none-missing nfa v none end le = next_match_of-missing nfa nfa.utf8 v.haystack v.anchor end v.start none

pub none-done : (nfa : Nfa) (v : InputValue) → v.end < v.start → HasNoMatch nfa v
none-done nfa v past end le = next_match_of-done nfa nfa.utf8 v.haystack v.anchor end v.start (omega arith)

-- the search from one place alone
abbrev alone : Anchor → Anchor
alone free = anchored
alone anchored = anchored
alone (anchored_to p) = anchored_to p

start-alone : (nfa : Nfa) (a : Anchor) → start_of nfa (alone a) ≡ start_of nfa a
start-alone nfa free = refl
start-alone nfa anchored = refl
start-alone nfa (anchored_to p) = refl

alone-anchored : (a : Anchor) → is_anchored (alone a) ≡ true
alone-anchored free = refl
alone-anchored anchored = refl
alone-anchored (anchored_to p) = refl

-- starts that are not offered, from which no run is found, may be offered
first_start-offered : (offered permitted : ℕ → Bool) (f : ℕ → Option Trace) (n i : ℕ) → ((j : ℕ) → i ≤ j → j < i + n → offered j ≡ false → f j ≡ None)
    → first_start (λ j. offered j && permitted j) f n i ≡ first_start permitted f n i
unfolding first_start
first_start-offered offered permitted f zero i none = refl
first_start-offered offered permitted f (suc n) i none =
    let rest = first_start-offered offered permitted f n (i + 1) (λ j low high. none j (omega arith) (omega arith)) in
    by_test (offered i)
    (λ e. rw (e, rest) refl)
    (λ e. rw (e, rest, none i (omega arith) (omega arith) e) (by_test (permitted i) (λ p. rw p refl) (λ p. rw p refl)))

all-offered : (offered : ℕ → Bool) (s : Search) (end : ℕ) → end ≤ s.end → PassesNoRun offered s
    → next_until offered s end ≡ first_start (is_permitted s.utf8 s.text.now) (λ i. first_trace (graph_until s end) (at s.start i)) (s.last + 1 - s.first)
    s.first
all-offered offered s end le passes =
    first_start-offered offered (is_permitted s.utf8 s.text.now) (λ i. first_trace (graph_until s end) (at s.start i)) (s.last + 1 - s.first) s.first
    (λ j low high e. passes end j le low (omega arith) e)

-- the search of an input
module _ (nfa : Nfa) (v : InputValue) (s : Search) (of : IsSearchOf nfa v s) where
  pub search-inside : IsInRange nfa → v.end ≤ length v.haystack → IsInside s
  search-inside range spanned =
      let first = of.first in
      let last = of.last in
      let end = of.end in
      let le = of.in_order in
      let size = ap length of.text in
      let at_last : (v.start ≤ last_start v) × (last_start v ≤ v.end) = by_test (is_anchored v.anchor) (λ a. rw a (omega arith, le))
      (λ a. rw a (le, omega arith)) in
      let low = at_last.0 in
      let high = at_last.1 in
      record {
        names = rw of.states range.names;
        start = rw of.states (start-inside nfa v.anchor s.start range of.start);
        first = omega arith;
        last = omega arith;
        end = omega arith;
      }

  -- a cache that serves the engine has room for it
  pub room-met : (room : Room) → HasRoom nfa.states nfa.slots room → HasRoom s.states.now s.slots room
  room-met room enough = rw (of.states, of.slots) enough

module _ (nfa : Nfa) (v : InputValue) (s : Search) (of : IsSearchOf nfa v s) (offered : ℕ → Bool) where
  -- where no run starts at a place that is not offered, what the search finds is the next match of the NFA
  module _ (passes : PassesNoRun offered s) where
    pub until-is : (end : ℕ) → v.start ≤ end → end ≤ v.end → next_until offered s end ≡ next_match_of nfa nfa.utf8 v.haystack v.anchor end v.start
    until-is end low high =
        let le : end ≤ s.end = let same = of.end in omega arith in
        all-offered offered s end le passes
        ∙ (λ j. first_start (is_permitted (of.utf8 j) (of.text j)) (λ i. first_trace (automaton (of.matcher j) (of.states j) (of.text j) end) (at s.start i))
        (of.last j + 1 - of.first j) (of.first j))
        ∙ next_match_of-until nfa nfa.utf8 v.haystack v.anchor end v.start v.end s.start low high of.start

    pub next-is : next_of offered s ≡ next_match_in nfa v
    next-is = ap (next_until offered s) of.end ∙ until-is v.end of.in_order (omega arith)

  -- What is found is the match of a search that is anchored to where it begins, whether or not the places that were passed
  -- have a run.
  pub alone-is : (end : ℕ) (m : Match) → next_until offered s end ≡ Some m
      → (v.start ≤ m.start) × (next_match_of nfa false v.haystack (alone v.anchor) end m.start ≡ Some m)
  unfolding next_match_of first_start
  alone-is end m h =
      let x = first_start-from (may_start offered s) (λ i. first_trace (graph_until s end) (at s.start i)) (s.last + 1 - s.first) s.first m h in
      let first = of.first in
      let low = x.0 in
      let runs : first_from nfa.terminator nfa.states v.haystack end (start_of nfa (alone v.anchor)) m.start ≡ Some m.trace =
      ap (λ q. first_from nfa.terminator nfa.states v.haystack end q m.start) (start-alone nfa v.anchor ∙ of.start)
      ∙ (λ j. first_trace (automaton (sym of.matcher j) (sym of.states j) (sym of.text j) end) (at s.start m.start))
      ∙ x.1 in
      let le = until-starts offered s end m h in
      let in_order : nat_lt end m.start ≡ false = grind (arith, nat_tests) in
      (omega arith, rw (in_order, alone-anchored v.anchor, runs) refl)

  -- it lies in the span
  pub found-within : (end : ℕ) → end ≤ v.end → (o : Option Match) → o ≡ next_until offered s end → (result : Option MatchValue)
      → result ≡ option_map match_value o → IfSome result (λ m. (v.start ≤ m.start) × (m.end ≤ v.end))
  found-within end le None e result is = rw is tt
  found-within end le (Some m) e result is =
      let x = alone-is end m (sym e) in
      let within = next_match_of-within nfa false v.haystack (alone v.anchor) end m.start m x.1 in
      let low = x.0 in
      let high = within.2 in
      rw is (low, omega arith)

  -- its pattern is one of the NFA's
  pub found-pattern : IsInRange nfa → (end : ℕ) (o : Option Match) → o ≡ next_until offered s end → (result : Option MatchValue)
      → result ≡ option_map match_value o → IfSome result (λ m. m.pattern < length nfa.starts)
  found-pattern range end None e result is = rw is tt
  found-pattern range end (Some m) e result is =
      rw is (next_match_of-pattern nfa range v.haystack end false (alone v.anchor) m.start m (alone-is end m (sym e)).1)

  -- a slot that the engine has no room for stays empty
  pub found-slots : IsInRange nfa → (end : ℕ) (o : Option Match) → o ≡ next_until offered s end → (slots : Slots)
      → IfSome o (λ m. (k : ℕ) → k < length slots → get_or slots k None ≡ (if nat_lt k s.slots then slot_value m k else None)) → IfSome o (HasSlots slots)
  found-slots range end None e slots told = tt
  found-slots range end (Some m) e slots told =
      let x = alone-is end m (sym e) in
      let wide = of.slots in
      λ k lt. by_test (nat_lt k s.slots)
      (λ t. rw t at (told k lt))
      (λ t. (rw t at (told k lt)) ∙ sym (next_match_of-slot nfa range v.haystack end k (grind (arith, nat_tests)) false (alone v.anchor) m.start m x.1))

  -- and the slots lie in the span
  pub found-places : (end : ℕ) → end ≤ v.end → (o : Option Match) → o ≡ next_until offered s end → (slots : Slots) → IfSome o (HasSlots slots) → (n : ℕ)
      → (o ≡ None → slots ≡ replicate n None) → AreWithin v slots
  found-places end le None e slots has n none k place told = empty-within v n slots (none refl) k place told
  found-places end le (Some m) e slots has n none k place told =
      let x = alone-is end m (sym e) in
      let low = x.0 in
      by_test (nat_lt k (length slots))
      (λ lt.
      let y = next_match_of-places nfa false v.haystack (alone v.anchor) end m.start m x.1 k place (sym (has k (grind (arith, nat_tests))) ∙ told) in
      let after = y.0 in
      let high = y.1 in
      (omega arith, omega arith))
      (λ past. none-is-some (sym (get_or_past slots k None (grind (arith, nat_tests))) ∙ told))

  -- the place where a search stops lies in it
  pub stop-inside : (earliest : Bool) → stop_of offered s earliest ≤ v.end
  stop-inside earliest =
      let first = of.first in
      let end = of.end in
      let le = of.in_order in
      by_test earliest
      (λ e. let w = (first_place-within (λ e. is_some (next_until offered s e)) s.end (s.end - s.first) s.first (omega arith)).1 in rw e (omega arith))
      (λ e. rw e (omega arith))

module _ (vm : PikeVMValue) (v : InputValue) where
  pub patterns-agree : v.end ≤ length v.haystack → (r : Patterns) → IsNfaOf vm.nfa r
      → next_match_in vm.nfa v ≡ option_map (told_of r.which_captures) (next_in r v)
  patterns-agree within r of = next_match_of-patterns vm.nfa r v.haystack v.end within of.runs vm.nfa.utf8 v.anchor v.start of.utf8

  -- where a search stops
  pub stop-within : v.start ≤ v.end → (v.start ≤ stop_in vm v) × (stop_in vm v ≤ v.end)
  stop-within le =
      by_test v.earliest
      (λ e. rw e (first_place-within (λ e. is_some (next_match_by vm v e)) v.end (v.end - v.start) v.start (omega arith)))
      (λ e. rw e (le, omega arith))

  stop-below : stop_in vm v ≤ v.end
  unfolding first_place
  stop-below =
      by_test (nat_le v.start v.end)
      (λ e. (stop-within (grind (arith, nat_tests))).1)
      (λ e.
      let past : v.end < v.start = grind (arith, nat_tests) in
      let no_places : v.end - v.start ≡ 0 = omega arith in
      by_test v.earliest (λ f. rw (f, no_places) (omega arith)) (λ f. rw f (omega arith)))

  pub answer_in-none : HasNoMatch vm.nfa v → answer_in vm v ≡ None
  answer_in-none none = none (stop_in vm v) stop-below

  -- what is found is a match
  pub answer-is_match : v.end ≤ length v.haystack → v.start ≤ v.end → (r : Patterns) → IsNfaOf vm.nfa r → (Holds : Match → Type 0) → (o : Option Match)
      → o ≡ answer_in vm v → IfSome o Holds → IfSome o (λ m. IsMatchWith r v Holds)
  answer-is_match within le r of Holds None e holds = tt
  answer-is_match within le r of Holds (Some m) e holds =
      let stop = (stop-within le).1 in
      let same = next_match_of-patterns vm.nfa r v.haystack (stop_in vm v) (omega arith) of.runs vm.nfa.utf8 v.anchor v.start of.utf8 in
      let n = told-from (told_of r.which_captures) (next_match r v.haystack v.anchor (stop_in vm v) v.start) m (sym same ∙ sym e) in
      (n.0, next-later r v.haystack v.anchor (stop_in vm v) v.end v.start n.0 n.1 stop, subst Holds (sym n.2) holds)

  -- what is reported is the answer, with its slots
  pub reported-is_match : v.end ≤ length v.haystack → v.start ≤ v.end → (r : Patterns) → IsNfaOf vm.nfa r → (slots : Slots) → (o : Option Match)
      → o ≡ answer_in vm v → (result : Option MatchValue) → result ≡ option_map match_value o → IfSome (answer_in vm v) (HasSlots slots)
      → IfSome result (λ found. IsMatchWith r v (λ m. (found ≡ match_value m) × HasSlots slots m))
  reported-is_match within le r of slots None e result is told = rw is tt
  reported-is_match within le r of slots (Some m) e result is told =
      rw is (answer-is_match within le r of (λ n. (match_value m ≡ match_value n) × HasSlots slots n) (Some m) e
      (refl, subst (λ x. IfSome x (HasSlots slots)) (sym e) told))

  module _ (s : Search) (of : IsSearchOf vm.nfa v s) (offered : ℕ → Bool) (passes : PassesNoRun offered s) where
    stop-is : stop_of offered s v.earliest ≡ stop_in vm v
    stop-is =
        by_test v.earliest
        (λ e. rw e
        ((λ j. first_place (λ e. is_some (next_until offered s e)) (of.end j) (of.end j - of.first j) (of.first j))
        ∙ first_place-alike (λ e. is_some (next_until offered s e)) (λ e. is_some (next_match_by vm v e)) v.end (v.end - v.start) v.start
        (λ e low high. ap is_some (until-is vm.nfa v s of offered passes e low (let le = of.in_order in omega arith)))))
        (λ e. rw e of.end)

    pub answer-is : {earliest : Bool} → earliest ≡ v.earliest → answer_of offered s earliest ≡ answer_in vm v
    answer-is flag =
        let w = stop-within of.in_order in
        ap (answer_of offered s) flag ∙ ap (next_until offered s) stop-is ∙ until-is vm.nfa v s of offered passes (stop_in vm v) w.0 w.1
