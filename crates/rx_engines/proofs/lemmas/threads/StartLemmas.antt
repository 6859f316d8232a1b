-- The starts of a search that are still to come.
use Rattle.std.proofs.Common.{◌≡◌, ℕ, ◌+◌, ◌≤◌, ◌<◌, List, [], ◌∷◌, length, refl, sym, ◌∙◌, ap, arith, true≢false, get_or}
use Rattle.std.specs.Prelude.{Bool, true, false, Option, Some, None, option_map, is_some, replicate, IfSome, IfNone, min, nat_lt, if◌then◌else◌}
use Rattle.std.proofs.lemmas.List.{length-replicate, get_or_past}
use Rattle.std.proofs.lemmas.Bool.Decides.{nat_tests}
use Rattle.std.specs.Option.{option_or}
use Rattle.rx_model.specs.Runs.{Configuration, PriorityGraph, Passed, nowhere, Trace, found, IsBounded, NeverFalls}
use Rattle.rx_model.specs.Search.{Match, slot_value}
use Rattle.rx_model.proofs.lemmas.runs.RunLemmas.{by_test}
use Rattle.rx_model.proofs.lemmas.runs.FirstLemmas.{none-is-some, some-is}
use Rattle.rx_model.proofs.lemmas.runs.OptionLemmas.{or-none_right}
use Rattle.rx_search.specs.Matches.{MatchValue, match_value}
use Rattle.rx_nfa.specs.Automaton.{at, state_at, forwards}
use Rattle.rx_nfa.specs.Ordered.{is_resting, passed_at, IsStable}
use Rattle.rx_nfa.proofs.lemmas.runs.AutomatonLemmas.{automaton-bounded, automaton-rises, automaton-accepts-within}
use Rattle.rx_nfa.proofs.lemmas.lists.StageLemmas as lists
use Rattle.rx_nfa.proofs.lemmas.lists.StageLemmas.{told_at, found-beyond}
use Rattle.rx_engines.specs.Walk.{Slots, answer, pending}
use Rattle.rx_engines.specs.Search.{graph_until, may_start}
use Rattle.rx_engines.specs.Threads.{Row}
use Rattle.rx_engines.specs.Simulation.{Closed, Hit, hit, hit_of, best_hit, until, among, Waits, Stepped, later_starts}
use Rattle.rx_engines.specs.declared.frame.Frame.TheVariants.{Explore}
use Rattle.rx_engines.specs.declared.search.Search.{Search}
use Rattle.rx_engines.specs.declared.pikevm.step.Accepted.{Accepted}
use Rattle.rx_engines.proofs.lemmas.answers.SlotLemmas.{slot-of_match, length-write_all, empty-slot, all-empty}

-- a start, as a hit
start-hit : (width i : ℕ) (o : Option Trace) → hit i (answer (replicate width None) o) ≡ told_at (hit_of width) i o
start-hit width i None = refl
start-hit width i (Some t) = refl

pub best-some : (best : Option MatchValue) (slots : Slots) → is_some (best_hit best slots) ≡ is_some best
best-some None slots = refl
best-some (Some b) slots = refl

-- What is told of a match is a hit: the lemmas of lists, with slots (rx_nfa).
module _ (offered : ℕ → Bool) (s : Search) (end width : ℕ) where
  abbrev g : PriorityGraph
  g = graph_until s end

  abbrev may : ℕ → Bool
  may = may_start offered s

  bounded : IsBounded g
  bounded = automaton-bounded (forwards s.matcher s.text.now) s.states.now end

  rises : NeverFalls g
  rises = automaton-rises (forwards s.matcher s.text.now) s.states.now end

  within : (c : Configuration) → is_some (g.accepted c) ≡ true → c.place ≤ end
  within = automaton-accepts-within (forwards s.matcher s.text.now) s.states.now end

  abbrev threads : ℕ → List Row → List ℕ → Option Hit
  threads i rows items = among s.states.now g nowhere i rows items

  abbrev later : Option Hit → ℕ → Passed → Option Hit
  later best i p = later_starts offered s end width best i p

  pub later-stable : (best : Option Hit) (i : ℕ) → IsStable g (later best i)
  later-stable best i = lists.later-stable (hit_of width) g may s.start s.last best i

  -- none of the next places is offered as a start
  pub starts-skip : (p : Passed) (n i : ℕ) → ((j : ℕ) → i ≤ j → j < i + n → offered j ≡ false) → later None i p ≡ later None (i + n) p
  starts-skip p n i none = lists.starts-skip (hit_of width) g may s.start s.last p n i (λ j low high. rw (none j low high) refl)

  -- nothing starts past the end
  pub starts-beyond : (i : ℕ) → end < i → later None i nowhere ≡ None
  starts-beyond i lt = lists.starts-beyond (hit_of width) g may s.start s.last bounded rises end within i lt

  -- nothing starts here: there is a match already,
  pub unseeded-matched : (best front goal : Option Hit) (p p' : Passed) (i : ℕ) → true ≡ is_some best → option_or front (later best i p) ≡ goal
      → option_or front (later best (i + 1) p') ≡ goal
  unseeded-matched = lists.unseeded-matched (hit_of width) g may s.start s.last

  -- or no start is left,
  pub unseeded-past : (best front goal : Option Hit) (p p' : Passed) (i : ℕ) → s.last < i → option_or front (later best i p) ≡ goal
      → option_or front (later best (i + 1) p') ≡ goal
  unseeded-past = lists.unseeded-past (hit_of width) g may s.start s.last

  -- or none may be here
  pub unseeded-forbidden : (best front goal : Option Hit) (items : List ℕ) (i : ℕ) → i ≤ s.last → may i ≡ false
      → option_or front (later best i (passed_at items i)) ≡ goal → option_or front (later best (i + 1) nowhere) ≡ goal
  unseeded-forbidden = lists.unseeded-forbidden (hit_of width) g may s.start s.last rises

  -- a thread starts here
  pub seeding : (best goal : Option Hit) (items : List ℕ) (rows : List Row) (i : ℕ) → false ≡ is_some best → i ≤ s.last → may i ≡ true
      → option_or (threads i rows items) (later best i (passed_at items i)) ≡ goal
      → Waits s.states.now g i i (later best (i + 1)) items rows (Explore s.start i ∷ []) (replicate width None) goal
  unfolding pending
  seeding best goal items rows i unmatched le allowed value =
      let p = passed_at items i in
      let run = found g p (at s.start i) in
      record {
        value =
            ap (λ o. option_or (threads i rows items) (option_or (hit i o) (later best (i + 1) p))) (or-none_right (answer (replicate width None) run))
            ∙ ap (λ o. option_or (threads i rows items) (option_or o (later best (i + 1) p))) (start-hit width i run)
            ∙ lists.seeded-here (hit_of width) g may s.start s.last best (threads i rows items) goal p i unmatched le allowed value;
      }

  -- it has started
  pub seeded : (best goal : Option Hit) (items : List ℕ) (rows : List Row) (i : ℕ) → Closed s.states.now g i (later best (i + 1)) items rows goal
      → option_or (threads i rows items) (later best (i + 1) nowhere) ≡ goal
  seeded best goal items rows i c =
      ap (option_or (threads i rows items)) (sym (lists.later-forget (hit_of width) g may s.start s.last rises best items i)) ∙ c.value

  -- a step is done
  pub after-step : (found : Option Accepted) (best best' : Option MatchValue) (slots slots' : Slots) (items : List ℕ) (rows : List Row) (i : ℕ)
      (goal : Option Hit)
      → Stepped found s.states.now g i (later (best_hit best slots) (i + 1)) items rows slots' goal
      → best' ≡ option_or (option_map (until i) found) best → IfNone found (slots' ≡ slots)
      → option_or (threads (i + 1) rows items) (later (best_hit best' slots') (i + 1) (passed_at items (i + 1))) ≡ goal
  after-step None best best' slots slots' items rows i goal stepped better kept = rw (better, kept) stepped.value
  after-step (Some f) best best' slots slots' items rows i goal stepped better kept = rw better stepped

  -- the search is over: no thread is alive,
  pub over-matched : (best : Option MatchValue) (slots : Slots) (items : List ℕ) (rows : List Row) (i : ℕ) (goal : Option Hit) → items ≡ []
      → is_some best ≡ true
      → option_or (threads i rows items) (later (best_hit best slots) (i + 1) nowhere) ≡ goal → best_hit best slots ≡ goal
  over-matched best slots items rows i goal none some value =
      lists.over-matched (hit_of width) g may s.start s.last (best_hit best slots) goal nowhere (i + 1) (best-some best slots ∙ some) (rw none at value)

  pub over-past : (best : Option MatchValue) (slots : Slots) (items : List ℕ) (rows : List Row) (i : ℕ) (goal : Option Hit) → items ≡ [] → is_some best ≡ false
      → s.last ≤ i
      → option_or (threads i rows items) (later (best_hit best slots) (i + 1) nowhere) ≡ goal → None ≡ goal
  over-past best slots items rows i goal none unmatched le value =
      lists.over-past (hit_of width) g may s.start s.last (best_hit best slots) goal nowhere (i + 1) (best-some best slots ∙ unmatched) (omega arith)
      (rw none at value)

  among-beyond : (i : ℕ) (rows : List Row) (qs : List ℕ) → end < i → threads i rows qs ≡ None
  among-beyond i rows [] lt = refl
  among-beyond i rows (q ∷ qs) lt =
      rw (found-beyond g bounded rises end within q i lt, among-beyond i rows qs lt)
      (by_test (is_resting (state_at s.states.now q)) (λ e. rw e refl) (λ e. rw e refl))

  -- or the span is over
  pub over-end : (best : Option MatchValue) (slots : Slots) (items : List ℕ) (rows : List Row) (p : Passed) (i : ℕ) (goal : Option Hit) → end < i → s.last < i
      → option_or (threads i rows items) (later (best_hit best slots) i p) ≡ goal → best_hit best slots ≡ goal
  over-end best slots items rows p i goal lt past value =
      lists.over-end (hit_of width) g may s.start s.last (best_hit best slots) goal p i past (rw (among-beyond i rows items lt) at value)

pub cleared-after : {A : Type 0} (found : Option Accepted) (best best' : Option MatchValue) (i : ℕ) (slots slots' none : A)
    → best' ≡ option_or (option_map (until i) found) best → IfNone found (slots' ≡ slots)
    → IfNone best (slots ≡ none) → IfNone best' (slots' ≡ none)
cleared-after None best best' i slots slots' none better kept cleared = rw (better, kept) cleared
cleared-after (Some f) best best' i slots slots' none better kept cleared = rw better tt

-- what was reported is the match
pub reported-value : (best : Option MatchValue) (slots : Slots) (width : ℕ) (m : Option Match) → best_hit best slots ≡ option_map (hit_of width) m
    → best ≡ option_map match_value m
reported-value None slots width None h = refl
reported-value None slots width (Some m) h = none-is-some h
reported-value (Some b) slots width None h = none-is-some (sym h)
reported-value (Some b) slots width (Some m) h =
    let e = some-is h in
    let pattern : b.pattern ≡ m.trace.pattern = ap (λ (x : Hit). x.1.pattern) e in
    let first : b.start ≡ m.start = ap (λ (x : Hit). x.0) e in
    let stop : b.end ≡ m.trace.end = ap (λ (x : Hit). x.1.end) e in
    λ j. Some (record { pattern = pattern j; start = first j; end = stop j })

row-length : (b : MatchValue) (row : Slots) (width : ℕ) (m : Match) → best_hit (Some b) row ≡ Some (hit_of width m) → length row ≡ width
row-length b row width m h =
    ap (λ (x : Hit). length x.1.slots) (some-is h) ∙ length-write_all m.trace.writes (replicate width None) ∙ length-replicate width None

row-slots : (b : MatchValue) (row : Slots) (width : ℕ) (m : Match) → best_hit (Some b) row ≡ Some (hit_of width m) → (k : ℕ) → k < width
    → get_or row k None ≡ slot_value m k
row-slots b row width m h k lt = ap (λ (x : Hit). get_or x.1.slots k None) (some-is h) ∙ slot-of_match width k m.trace.writes lt

-- the slots that were given, of which so many fit
pub reported-slots : (best : Option MatchValue) (row slots : Slots) (width widest : ℕ) (m : Option Match) → best_hit best row ≡ option_map (hit_of width) m
    → width ≡ min (length slots) widest
    → ((k : ℕ) → k < length slots → get_or slots k None ≡ get_or row k None)
    → IfSome m (λ m. (k : ℕ) → k < length slots → get_or slots k None ≡ (if nat_lt k widest then slot_value m k else None))
reported-slots best row slots width widest None h fits each = tt
reported-slots None row slots width widest (Some m) h fits each = none-is-some h
reported-slots (Some b) row slots width widest (Some m) h fits each = λ k lt.
    by_test (nat_lt k widest)
    (λ e. let below : k < widest = grind (arith, nat_tests) in rw e (each k lt ∙ row-slots b row width m h k (omega arith)))
    (λ e. let above : widest ≤ k = grind (arith, nat_tests) in let long = row-length b row width m h in rw e (each k lt ∙ get_or_past row k None (omega arith)))

pub reported-none : (best : Option MatchValue) (row slots : Slots) (width n : ℕ) → IfNone best (row ≡ replicate width None) → length slots ≡ n
    → ((k : ℕ) → k < length slots → get_or slots k None ≡ get_or row k None) → IfNone best (slots ≡ replicate n None)
reported-none (Some b) row slots width n cleared long each = tt
reported-none None row slots width n cleared long each =
    all-empty slots (λ k lt. each k lt ∙ ap (λ (s : Slots). get_or s k None) cleared ∙ empty-slot width k) ∙ ap (λ k. replicate k None) long

pub none-left : (xs : List ℕ) → length xs ≡ 0 → xs ≡ []
none-left [] h = refl
none-left (x ∷ xs) h = absurd (omega arith)

pub reported-some : (best : Option MatchValue) (slots : Slots) (width : ℕ) (m : Option Match) → best_hit best slots ≡ option_map (hit_of width) m
    → is_some best ≡ is_some m
reported-some None slots width None h = refl
reported-some None slots width (Some m) h = none-is-some h
reported-some (Some b) slots width None h = none-is-some (sym h)
reported-some (Some b) slots width (Some m) h = refl

-- a match is known, so there is one
pub known-some : (front : Option Hit) (best : Option MatchValue) (slots : Slots) (more : Option Hit) (width : ℕ) (m : Option Match) → is_some best ≡ true
    → option_or front (option_or (best_hit best slots) more) ≡ option_map (hit_of width) m → is_some best ≡ is_some m
known-some front None slots more width m h value = absurd (true≢false (sym h))
known-some front (Some b) slots more width (Some m) h value = refl
known-some None (Some b) slots more width None h value = none-is-some (sym value)
known-some (Some f) (Some b) slots more width None h value = none-is-some (sym value)
