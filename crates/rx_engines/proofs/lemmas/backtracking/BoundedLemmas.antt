-- The starts of a bounded search, and what it reports.
use Rattle.std.proofs.Common.{◌≡◌, ℕ, zero, suc, ◌+◌, ◌-◌, ◌*◌, ◌≤◌, ◌<◌, length, get_or, refl, sym, ◌∙◌, ap, subst, arith}
use Rattle.std.proofs.Math.Nat.{div-le_self}
use Rattle.std.proofs.lemmas.Nat.{mul-le}
use Rattle.std.proofs.lemmas.List.{length-replicate}
use Rattle.std.proofs.lemmas.Bool.Decides.{nat_tests}
use Rattle.std.specs.Prelude.{max, Bool, true, false, Option, Some, None, option_map, IfSome, replicate, nat_lt, ◌^◌}
use Rattle.rx_model.specs.Runs.{Trace, nowhere, first_trace}
use Rattle.rx_model.specs.Search.{Patterns, told_of, Match, is_permitted, first_start, slot_value}
use Rattle.rx_model.proofs.lemmas.runs.RunLemmas.{by_test}
use Rattle.rx_model.proofs.lemmas.runs.FirstLemmas.{none-is-some, some-is}
use Rattle.rx_model.proofs.lemmas.runs.RiseLemmas.{found-end}
use Rattle.rx_search.specs.Limits.{id_limit}
use Rattle.rx_search.specs.Input.{InputValue, next_in, span_len}
use Rattle.rx_search.specs.Matches.{match_value, MatchValue, HalfMatchValue}
use Rattle.rx_nfa.specs.NextMatch.{next_match_in}
use Rattle.rx_nfa.specs.Automaton.{at, forwards}
use Rattle.rx_nfa.specs.Nfa.{Nfa, IsNfaOf}
use Rattle.rx_nfa.proofs.lemmas.runs.AutomatonLemmas.{automaton-bounded, automaton-rises, automaton-accepts-within}
use Rattle.rx_nfa.proofs.lemmas.runs.NextMatchLemmas.{next_match_of-patterns}
use Rattle.rx_engines.specs.Engine.{IsSearchOf}
use Rattle.rx_engines.specs.Walk.{Slots, Answer, answer, write_all}
use Rattle.rx_engines.specs.Backtrack.{extent, frames_of_span, returned}
use Rattle.rx_engines.specs.Search.{graph_for, is_offered, may_start}
use Rattle.rx_engines.specs.Simulation.{frames_of_states}
use Rattle.rx_engines.specs.Bounded.{max_len}
use Rattle.rx_engines.specs.declared.search.Search.{Search}
use Rattle.rx_engines.proofs.lemmas.answers.SlotLemmas.{slot-of_match, length-write_all}

-- the next match that starts at place i or after it
abbrev pub next_from : Search → ℕ → Option Match
next_from s i = first_start (may_start (is_offered s) s) (λ j. first_trace (graph_for s) (at s.start j)) (s.last + 1 - i) i

module _ (s : Search) (i : ℕ) where
  abbrev here : Option Trace
  here = first_trace (graph_for s) (at s.start i)

  one_more : i ≤ s.last → s.last + 1 - i ≡ suc (s.last + 1 - (i + 1))
  one_more le = omega arith

  next-here : (t : Trace) → i ≤ s.last → may_start (is_offered s) s i ≡ true → here ≡ Some t → next_from s i ≡ Some (record { start = i; trace = t })
  unfolding first_start
  next-here t le allowed found = rw (one_more le, allowed, found) refl

  pub next-none_here : i ≤ s.last → here ≡ None → next_from s (i + 1) ≡ next_from s i
  unfolding first_start
  next-none_here le none = rw (one_more le, none) (by_test (may_start (is_offered s) s i) (λ e. rw e refl) (λ e. rw e refl))

  pub next-not_allowed : i ≤ s.last → may_start (is_offered s) s i ≡ false → next_from s (i + 1) ≡ next_from s i
  unfolding first_start
  next-not_allowed le e = rw (one_more le, e) refl

  pub next-over : s.last < i → next_from s i ≡ None
  unfolding first_start
  next-over lt = let e : s.last + 1 - i ≡ 0 = omega arith in rw e refl

-- places that are not offered are passed
pub next-passed : (s : Search) (n i : ℕ) → ((j : ℕ) → i ≤ j → j < i + n → is_offered s j ≡ false) → next_from s i ≡ next_from s (i + n)
next-passed s zero i none = let same : i ≡ i + 0 = omega arith in ap (next_from s) same
next-passed s (suc n) i none =
    let place : i + 1 + n ≡ i + suc n = omega arith in
    by_test (nat_lt s.last i)
    (λ e. next-over s i (grind (arith, nat_tests)) ∙ sym (next-over s (i + suc n) (grind (arith, nat_tests))))
    (λ e.
    let here = none i (omega arith) (omega arith) in
    sym (next-not_allowed s i (grind (arith, nat_tests)) (rw here refl))
    ∙ next-passed s n (i + 1) (λ j low high. none j (omega arith) (omega arith)) ∙ ap (next_from s) place)

pub next-from_here : (s : Search) (i k : ℕ) (goal : Option Match) → i ≤ k → ((j : ℕ) → i ≤ j → j + 1 ≤ k → is_offered s j ≡ false) → next_from s i ≡ goal
    → next_from s k ≡ goal
next-from_here s i k goal le none is =
    let place : i + (k - i) ≡ k = omega arith in
    sym (next-passed s (k - i) i (λ j low high. none j low (omega arith)) ∙ ap (next_from s) place) ∙ is

pub next-nowhere : (s : Search) (i : ℕ) (goal : Option Match) → i ≤ s.end → s.last ≤ s.end → ((j : ℕ) → i ≤ j → j ≤ s.end → is_offered s j ≡ false)
    → next_from s i ≡ goal → goal ≡ None
next-nowhere s i goal le inside none is =
    sym (next-from_here s i (s.end + 1) goal (omega arith) (λ j low high. none j low (omega arith)) is) ∙ next-over s (s.end + 1) (omega arith)

-- a thread starts at a place that is offered exactly where a match may begin there
pub starts-allowed : (s : Search) (i : ℕ) (b : Bool) → is_offered s i ≡ true → is_permitted s.utf8 s.text.now i ≡ b → may_start (is_offered s) s i ≡ b
starts-allowed s i b offered permitted = rw (offered, permitted) refl

-- what an attempt returned
pub returned-none : (slots slots' : Slots) (o : Option Trace) → returned None slots' ≡ answer slots o → o ≡ None
returned-none slots slots' None h = refl
returned-none slots slots' (Some t) h = none-is-some h

returned-some : (r : HalfMatchValue) (slots slots' : Slots) (o : Option Trace) → returned (Some r) slots' ≡ answer slots o
    → (t : Trace) × (o ≡ Some t) × (r.pattern ≡ t.pattern) × (r.offset ≡ t.end) × (slots' ≡ write_all t.writes slots)
returned-some r slots slots' None h = none-is-some (sym h)
returned-some r slots slots' (Some t) h =
    let e : record { pattern = r.pattern; end = r.offset; slots = slots' }
    ≡ record { pattern = t.pattern; end = t.end; slots = write_all t.writes slots } = some-is h in
    (t, refl, ap (λ (a : Answer). a.pattern) e, ap (λ (a : Answer). a.end) e, ap (λ (a : Answer). a.slots) e)

-- it ends where it began or after it
pub returned-in_order : (s : Search) (i : ℕ) (r : HalfMatchValue) (slots slots' : Slots)
    → returned (Some r) slots' ≡ answer slots (first_trace (graph_for s) (at s.start i)) → i ≤ r.offset
returned-in_order s i r slots slots' is =
    let x = returned-some r slots slots' (first_trace (graph_for s) (at s.start i)) is in
    let ends = found-end (graph_for s) (automaton-bounded (forwards s.matcher s.text.now) s.states.now s.end)
    (automaton-rises (forwards s.matcher s.text.now) s.states.now s.end) s.end (automaton-accepts-within (forwards s.matcher s.text.now) s.states.now s.end)
    nowhere (at s.start i) x.0 x.1 in
    let up = ends.0 in
    let same = x.3 in
    omega arith

-- what the search answers of a match
pub record Answered (goal : Option Match) (pattern start end : ℕ) (slots : Slots) : Type 0 where
  pub value : ◌≡◌ {A = Option MatchValue} (Some (record { pattern = pattern; start = start; end = end })) (option_map match_value goal)
  pub slots_are : IfSome goal (λ m. (k : ℕ) → k < length slots → get_or slots k None ≡ slot_value m k)

pub match-answered : (s : Search) (i n : ℕ) (r : HalfMatchValue) (slots slots' : Slots) (goal : Option Match)
    → returned (Some r) slots' ≡ answer slots (first_trace (graph_for s) (at s.start i)) → i ≤ s.last → may_start (is_offered s) s i ≡ true
    → slots ≡ replicate n None
    → next_from s i ≡ goal → Answered goal r.pattern i r.offset slots'
match-answered s i n r slots slots' goal is le allowed empty next =
    let x = returned-some r slots slots' (first_trace (graph_for s) (at s.start i)) is in
    let found : Some (record { start = i; trace = x.0 }) ≡ goal = sym (next-here s i x.0 le allowed x.1) ∙ next in
    subst (λ g. Answered g r.pattern i r.offset slots') found (record {
      value = (λ j. Some (record { pattern = x.2 j; start = i; end = x.3 j }));
      slots_are = λ k lt.
          (let same : slots' ≡ write_all x.0.writes (replicate n None) = x.4 ∙ ap (write_all x.0.writes) empty in
          let long : length slots' ≡ n = ap length same ∙ length-write_all x.0.writes (replicate n None) ∙ length-replicate n None in
          ap (λ (s : Slots). get_or s k None) same ∙ slot-of_match n k x.0.writes (omega arith));
    })

-- What the search of an NFA finds.

module _ (nfa : Nfa) (v : InputValue) where
  pub patterns-met : v.end ≤ length v.haystack → (r : Patterns) → IsNfaOf nfa r → next_match_in nfa v ≡ option_map (told_of r.which_captures) (next_in r v)
  patterns-met within r of = next_match_of-patterns nfa r v.haystack v.end within of.runs nfa.utf8 v.anchor v.start of.utf8

-- a span whose length was tested
pub short-enough : {len most end start : ℕ} (nfa : Nfa) (v : InputValue) → len ≡ end - start → end ≡ v.end → start ≡ v.start → most ≡ max_len nfa
    → len ≤ most → span_len v ≤ max_len nfa
short-enough nfa v is ends starts longest le = omega arith

-- the search of a span that is not too long
module _ (nfa : Nfa) (v : InputValue) (s : Search) (of : IsSearchOf nfa v s) (short : span_len v ≤ max_len nfa) where
  rows : s.end + 1 - s.first ≤ max_len nfa + 1
  rows = let end = of.end in let first = of.first in omega arith

  -- there are few enough states at places
  pub extent-small : length nfa.states ≤ id_limit → extent s < 2 ^ 63
  extent-small few =
      let quotient = div-le_self 2097152 (max 1 nfa.accounted) in
      let count = ap length of.states in
      let most = rows in
      let product = mul-le (s.end + 1 - s.first) (length s.states.now) 2097152 id_limit (omega arith) (omega arith) in
      omega arith

  -- and a cache that serves the engine has room for them,
  pub extent-fits : {bits : ℕ} → (max_len nfa + 1) * length nfa.states ≤ bits → extent s ≤ bits
  extent-fits fits =
      let count = ap length of.states in
      let product = mul-le (s.end + 1 - s.first) (length s.states.now) (max_len nfa + 1) (length nfa.states) rows (omega arith) in
      omega arith

  -- as for the frames that they leave
  pub frames-fit : {room : ℕ} → (max_len nfa + 1) * frames_of_states nfa.states (length nfa.states) ≤ room → frames_of_span s ≤ room
  frames-fit fits =
      let count : frames_of_states s.states.now (length s.states.now) ≡ frames_of_states nfa.states (length nfa.states) =
      ap (λ states. frames_of_states states (length states)) of.states in
      let product = mul-le (s.end + 1 - s.first) (frames_of_states s.states.now (length s.states.now)) (max_len nfa + 1)
      (frames_of_states nfa.states (length nfa.states)) rows (omega arith) in
      omega arith
