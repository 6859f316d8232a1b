-- Where a match may not start at every place: the next match by starts, and what the keys record.
use Rattle.std.proofs.Common.{◌≡◌, ◌⊎◌, ℕ, zero, suc, ◌+◌, ◌-◌, ◌≤◌, ◌<◌, List, [], ◌∷◌, ◌++◌, length, refl, sym, ◌∙◌, ap, subst, inl, inr, arith, true≢false, append-nil}
use Rattle.std.specs.Prelude.{Bool, true, false, not, ◌&&◌, Option, Some, None, option_map, is_some, All, nat_lt, if◌then◌else◌}
use Rattle.std.specs.Option.{option_or}
use Rattle.std.proofs.lemmas.Bool.Decides.{nat_tests}
use Rattle.rx_model.specs.Look as model
use Rattle.rx_model.specs.Runs.{PriorityGraph, Trace, Leads, nowhere, found}
use Rattle.rx_model.specs.Search.{Match, first_start, is_permitted, Anchor}
use Rattle.rx_model.proofs.lemmas.runs.RunLemmas.{by_test}
use Rattle.rx_model.proofs.lemmas.runs.FirstLemmas.{none-is-some, some-is, tells}
use Rattle.rx_model.proofs.lemmas.runs.OptionLemmas.{or-none_right}
use Rattle.rx_search.specs.Matches.{HalfMatchValue, half_match_value}
use Rattle.rx_search.specs.declared.anchored.MatchKind.TheVariants.{LeftmostFirst}
use Rattle.rx_nfa.specs.Automaton.{at, automaton_over, NamesBelow, Surroundings, forwards, byte_within}
use Rattle.rx_nfa.specs.Nfa.{Nfa, IsInRange}
use Rattle.rx_nfa.specs.NextMatch.{start_of, first_from, next_match_of}
use Rattle.rx_nfa.specs.Ordered.{AreBelow, HoldsAt, half, first_told, first_on, resting, match_here, where_there, begun, cut}
use Rattle.rx_nfa.specs.declared.state.State.{State}
use Rattle.rx_nfa.proofs.lemmas.lists.LaterLemmas.{automaton-steps, begun-below}
use Rattle.rx_nfa.proofs.lemmas.lists.TargetLemmas.{cut-below}
use Rattle.rx_determinize.specs.Key.{Sight, Sees, accepts_in, listed, arrived, settled, start_key, step_key, end_key}
use Rattle.rx_determinize.specs.Span.{loops_in, SeesWhileAlive}
use Rattle.rx_determinize.specs.Permitted.{Progress, fresh, met_within, run_within, begin_again, found_once, answer_within, within_from, permitted_answer_of, KeepsCharacters}
use Rattle.rx_determinize.proofs.lemmas.ArrivedLemmas.{arrived-first, arrived-below}
use Rattle.rx_determinize.proofs.lemmas.DeadLemmas.{no-more-within}
use Rattle.rx_determinize.proofs.lemmas.SeenLemmas.{SeesFrom, alive-or-none, sees-here, sees-next, seen-start}
use Rattle.rx_determinize.proofs.lemmas.SpanLemmas.{anywhere, byte-here, later, staying, kept, onto, next_stack, next_stack-below, staying-below, key-step, key-end, start-first, start-inside, as-many, none-starts}
use Rattle.rx_determinize.proofs.lemmas.EndsLemmas.{EndWell, EndWell-append, EndWell-later, EndWell-resting, EndWell-cut, EndWell-close, EndWell-arrived, EndWell-targets, tell-walk, first_on-well, first_on-late}

-- The next match by starts. A run that reads something starts and ends where a match may start.

module _ (may : ℕ → Bool) (from : ℕ → Option Trace) (rises : (i : ℕ) (t : Trace) → from i ≡ Some t → i ≤ t.end)
    (spans : (i : ℕ) (t : Trace) → from i ≡ Some t → i < t.end → (may i ≡ true) × (may t.end ≡ true)) where
  abbrev every : (n i : ℕ) → Option Match
  every n i = first_start anywhere from n i

  abbrev permitted : (n i : ℕ) → Option Match
  permitted n i = first_start may from n i

  skip : (n i : ℕ) → (may i ≡ false) ⊎ (from i ≡ None) → permitted (suc n) i ≡ permitted n (i + 1)
  unfolding first_start
  skip n i (inl inside) = rw inside refl
  skip n i (inr none) = rw none (by_test (may i) (λ e. rw e refl) (λ e. rw e refl))

  pub leaves-none : (n i : ℕ) → every n i ≡ None → permitted n i ≡ None
  unfolding first_start
  leaves-none zero i h = refl
  leaves-none (suc n) i h =
      elim (tells (from i)) [
        | inl none ↦ skip n i (inr none) ∙ leaves-none n (i + 1) (rw none at h)
        | inr some ↦ none-is-some (sym (rw some.1 at h))
      ]

  pub leaves-some : (n i : ℕ) (m : Match) → every n i ≡ Some m → may m.trace.end ≡ true → permitted n i ≡ Some m
  unfolding first_start
  leaves-some zero i m h ends = none-is-some h
  leaves-some (suc n) i m h ends =
      elim (tells (from i)) [
        | inl none ↦ skip n i (inr none) ∙ leaves-some n (i + 1) m (rw none at h) ends
        | inr some ↦
            let same = some-is (rw some.1 at h) in
            let is : some.0 ≡ m.trace = ap (λ (x : Match). x.trace) same in
            let up = rises i some.0 some.1 in
            let begins : may i ≡ true =
            by_test (nat_lt i some.0.end)
            (λ e. (let lt : i < some.0.end = grind (arith, nat_tests) in (spans i some.0 some.1 lt).0))
            (λ e. (let equal : some.0.end ≡ i = grind (arith, nat_tests) in ap may (sym (sym (ap (λ (x : Trace). x.end) is) ∙ equal)) ∙ ends)) in
            rw (begins, some.1) (ap Some same)
      ]

  pub leaves-late : (n i : ℕ) (m : Match) → every n i ≡ Some m → may m.trace.end ≡ false
      → (i ≤ m.trace.end) × (m.trace.end < i + n) × (permitted n i ≡ permitted (i + n - (m.trace.end + 1)) (m.trace.end + 1))
  unfolding first_start
  leaves-late zero i m h ends = none-is-some h
  leaves-late (suc n) i m h ends =
      elim (tells (from i)) [
        | inl none ↦
            let r = leaves-late n (i + 1) m (rw none at h) ends in
            let low = r.0 in
            let high = r.1 in
            let count : i + 1 + n - (m.trace.end + 1) ≡ i + suc n - (m.trace.end + 1) = omega arith in
            (omega arith, omega arith, skip n i (inr none) ∙ r.2 ∙ ap (λ k. permitted k (m.trace.end + 1)) count)
        | inr some ↦
            let same = some-is (rw some.1 at h) in
            let is : some.0 ≡ m.trace = ap (λ (x : Match). x.trace) same in
            let end_is : some.0.end ≡ m.trace.end = ap (λ (x : Trace). x.end) is in
            let up = rises i some.0 some.1 in
            let equal : i ≡ m.trace.end =
            by_test (nat_lt i some.0.end)
            (λ e. (let lt : i < some.0.end = grind (arith, nat_tests) in absurd (true≢false (sym (spans i some.0 some.1 lt).1 ∙ ap may end_is ∙ ends))))
            (λ e. (let k : some.0.end ≡ i = grind (arith, nat_tests) in sym k ∙ end_is)) in
            let inside : may i ≡ false = ap may equal ∙ ends in
            let count : n ≡ i + suc n - (m.trace.end + 1) = omega arith in
            let place : i + 1 ≡ m.trace.end + 1 = omega arith in
            (omega arith, omega arith, skip n i (inl inside) ∙ (λ j. permitted (count j) (place j)))
      ]

-- What is recorded.

-- where the keys answer this, if each place may be an end, they make of this progress that
abbrev pub EndsWith : Bool → HalfMatchValue → (r r' : Progress) → Type 0
EndsWith true h r r' = r'.best ≡ Some h
EndsWith false h r r' = (r'.best ≡ r.best) × (r'.refused ≡ option_or r.refused (Some h.offset))

abbrev pub Follows : (ℕ → Bool) → Option HalfMatchValue → (r r' : Progress) → Type 0
Follows may None r r' = r' ≡ r
Follows may (Some h) r r' = EndsWith (may h.offset) h r r'

follows-met : (may : ℕ → Bool) (accepts : ℕ → Option ℕ) (qs : List ℕ) (i : ℕ) (r : Progress)
    → Follows may (match_here accepts i qs) r (met_within may (listed (first_told accepts qs)) i r)
follows-met may accepts qs i r = each (first_told accepts qs)
  where
    each : (o : Option ℕ) → Follows may (option_map (λ p. record { pattern = p; offset = i }) o) r (met_within may (listed o) i r)
    each None = refl
    each (Some p) = by_test (may i) (λ e. rw e refl) (λ e. rw e (refl, refl))

follows-step : (may : ℕ → Bool) (accepts : ℕ → Option ℕ) (qs : List ℕ) (i : ℕ) (o : Option HalfMatchValue) (r r' : Progress)
    → Follows may o (met_within may (listed (first_told accepts qs)) i r) r'
    → ((h : HalfMatchValue) → o ≡ Some h → is_some (first_told accepts qs) ≡ true → may h.offset ≡ true)
    → Follows may (option_or o (match_here accepts i qs)) r r'
follows-step may accepts qs i None r r' h good = subst (Follows may (match_here accepts i qs) r) (sym h) (follows-met may accepts qs i r)
follows-step may accepts qs i (Some x) r r' h good = each (first_told accepts qs) h (λ taken. good x refl taken)
  where
    each : (o : Option ℕ) → Follows may (Some x) (met_within may (listed o) i r) r' → (is_some o ≡ true → may x.offset ≡ true) → Follows may (Some x) r r'
    each None h good = h
    each (Some p) h good = let e = good refl in rw e (rw e at h)

and-off : (a b : Bool) → b ≡ true → (a && not b) ≡ false
and-off true b h = rw h refl
and-off false b h = refl

module _ (around : Surroundings) (size : ℕ) (states : List State) (names : All (NamesBelow (length states)) states) (end start : ℕ)
    (inside : start < length states) (sight : Sight) (short : end ≤ size)
    (may : ℕ → Bool) (keeps : (i e pattern n : ℕ) → Leads (automaton_over around states end) pattern e n (at start i) → i < e
    → (may i ≡ true) × (may e ≡ true)) where
  abbrev g : PriorityGraph
  g = automaton_over around states end

  abbrev accepts : ℕ → Option ℕ
  accepts = accepts_in states

  abbrev first : ℕ → List ℕ → Option HalfMatchValue
  first i qs = first_on g nowhere i qs

  -- those of the keys along a span
  abbrev to_come : (n i : ℕ) → Option HalfMatchValue
  to_come n i = later around size states names end start inside sight short n i

  abbrev stays : (model.Look → Bool) → List ℕ → List ℕ
  stays holding qs = staying around size states names end start inside sight short holding qs

  abbrev is_kept : List ℕ → Bool → Bool
  is_kept qs loops = kept around size states names end start inside sight short qs loops

  abbrev over : List ℕ → ℕ → List ℕ
  over xs i = onto around size states names end start inside sight short xs i

  abbrev piled : List ℕ → Bool → ℕ → List ℕ
  piled xs loops i = next_stack around size states names end start inside sight short xs loops i

  begun-well : (loops : Bool) (i : ℕ) → EndWell around states names end may (i + 1) i (begun start loops)
  begun-well true i = (λ pattern e n walk le. (keeps i e pattern n walk (omega arith)).1, tt)
  begun-well false i = tt

  drop-loop : (l : Bool) (i : ℕ) (xs : List ℕ) (o : Option HalfMatchValue) → l ≡ false
      → option_or (first i (xs ++ begun start l)) (where_there l o) ≡ first i xs
  drop-loop true i xs o h = absurd (true≢false h)
  drop-loop false i xs o h = or-none_right (first i (xs ++ [])) ∙ ap (first i) (append-nil xs)

  -- a key without threads and without the loop meets nothing
  follows-dead : (n i : ℕ) (loops : Bool) (matches : List ℕ) (before : Option ℕ) (r : Progress) (qs : List ℕ) → qs ≡ [] → loops ≡ false
      → Follows may (option_or (first i qs) (where_there loops (to_come n (i + 1)))) r
      (run_within LeftmostFirst states start sight around may size n i (settled LeftmostFirst states qs loops matches before) r)
  follows-dead n i loops matches before r qs none over =
      subst
      (λ xs. Follows may (option_or (first i xs) (where_there loops (to_come n (i + 1)))) r
      (run_within LeftmostFirst states start sight around may size n i (settled LeftmostFirst states xs loops matches before) r))
      (sym none)
      (subst
      (λ l. Follows may (option_or (first i []) (where_there l (to_come n (i + 1)))) r
      (run_within LeftmostFirst states start sight around may size n i (settled LeftmostFirst states [] l matches before) r))
      (sym over)
      (no-more-within LeftmostFirst states start sight around may size n i (settled LeftmostFirst states [] false matches before) refl refl r))

  pub run-follows : (n i : ℕ) → i + n ≡ end → (loops : Bool) (matches : List ℕ) (before : Option ℕ) (r : Progress) (qs : List ℕ) → AreBelow (length states) qs
      → EndWell around states names end may (i + 1) i qs
      → SeesFrom LeftmostFirst around size states start sight end i (settled LeftmostFirst states qs loops matches before)
      → Follows may (option_or (first i qs) (where_there loops (to_come n (i + 1)))) r
      (run_within LeftmostFirst states start sight around may size n i (settled LeftmostFirst states qs loops matches before) r)
  unfolding run_within end_key step_key
  run-follows zero i ends loops matches before r qs below good sees =
      let same : i ≡ end = omega arith in
      let holding = sight.holds before (byte_within around.byte size i) in
      let ts = resting states (stays holding qs) in
      alive-or-none states qs loops matches before
      (λ alive.
      subst (λ o. Follows may o r (met_within may (listed (first_told accepts ts)) i r))
      (key-end around size states names end start inside sight short i same loops holding qs below
      (sees-here LeftmostFirst around size states start sight end i (omega arith) (settled LeftmostFirst states qs loops matches before) sees alive))
      (follows-met may accepts ts i r))
      (λ none over. follows-dead zero i loops matches before r qs none over)
  run-follows (suc n) i ends loops matches before r qs below good sees =
      let le : i + 1 ≤ end = omega arith in
      let lt : i < end = omega arith in
      let up : i ≤ end = omega arith in
      let byte = byte-here around.byte size i (omega arith) in
      let key = settled LeftmostFirst states qs loops matches before in
      alive-or-none states qs loops matches before
      (λ alive.
      let holding = sight.holds before (Some (around.byte i)) in
      let holds-byte : HoldsAt around states holding i = subst (λ o. HoldsAt around states (sight.holds before o) i) byte
      (sees-here LeftmostFirst around size states start sight end i up key sees alive) in
      let xs = stays holding qs in
      let ts = resting states xs in
      let l0 = is_kept qs loops in
      let l1 = is_kept ts l0 in
      let ys = piled xs l0 i in
      let xs-below = staying-below around size states names end start inside sight short holding qs below in
      let ys-below = next_stack-below around size states names end start inside sight short xs l0 i xs-below in
      let here = listed (first_told accepts ts) in
      let answer = option_or (first (i + 1) (arrived states ys)) (where_there l1 (to_come n (i + 1 + 1))) in
      let xs-well : EndWell around states names end may (i + 1) i xs =
      EndWell-close around states names end may holding (i + 1) i holds-byte up (cut accepts qs) (cut-below (length states) accepts qs below)
      (EndWell-cut around states names end may accepts (i + 1) i qs good) in
      let over-well : EndWell around states names end may (i + 1) (i + 1) (over xs i) =
      EndWell-targets around states names end may accepts (i + 1) i lt xs
      (EndWell-cut around states names end may accepts (i + 1) i ts (EndWell-resting around states names end may (i + 1) i xs xs-well)) in
      let ys-well : EndWell around states names end may (i + 1 + 1) (i + 1) ys =
      EndWell-append around states names end may (i + 1 + 1) (i + 1) (over xs i) (begun start l1)
      (EndWell-later around states names end may (i + 1) (i + 1 + 1) (i + 1) (over xs i) (omega arith) over-well) (begun-well l1 (i + 1)) in
      let r' = run_within LeftmostFirst states start sight around may size n (i + 1)
      (settled LeftmostFirst states (arrived states ys) l1 here (sight.class (around.byte i))) (met_within may here i r) in
      let later-follows : Follows may answer (met_within may here i r) r' =
      run-follows n (i + 1) (omega arith) l1 here (sight.class (around.byte i)) (met_within may here i r) (arrived states ys)
      (arrived-below states names ys ys-below) (EndWell-arrived around states names end may (i + 1 + 1) (i + 1) le ys ys-below ys-well)
      (sees-next LeftmostFirst around size states start sight end i key sees) in
      let well : (h : HalfMatchValue) → answer ≡ Some h → is_some (first_told accepts ts) ≡ true → may h.offset ≡ true =
      λ h is taken.
      let over-is : first (i + 1) (over xs i) ≡ Some h =
      sym (ap (λ o. option_or o (where_there l1 (to_come n (i + 1 + 1))))
      (arrived-first around states names end g (automaton-steps around states end) (i + 1) le ys ys-below)
      ∙ drop-loop l1 (i + 1) (over xs i) (to_come n (i + 1 + 1)) (and-off l0 (is_some (first_told accepts ts)) taken)) ∙ is in
      first_on-well around states names end may (i + 1) (i + 1) (over xs i) h over-is over-well
      (first_on-late around states names end may (i + 1) (over xs i) h over-is) in
      let stepped : Follows may (option_or answer (match_here accepts i ts)) r r' = follows-step may accepts ts i answer r r' later-follows well in
      subst (λ o. Follows may o r r')
      (ap (option_or answer) (sym (or-none_right (match_here accepts i ts)))
      ∙ key-step around size states names end start inside sight short n i lt loops before None qs below holds-byte
      ∙ or-none_right (option_or (first i qs) (where_there loops (to_come (suc n) (i + 1))))) stepped)
      (λ none over. follows-dead (suc n) i loops matches before r qs none over)

  -- The search that is begun again.

  abbrev from : ℕ → Option Trace
  from j = found g nowhere (at start j)

  rises : (i : ℕ) (t : Trace) → from i ≡ Some t → i ≤ t.end
  rises i t h = first_on-late around states names end may i (start ∷ []) (half t) (ap (λ o. option_or (option_map half o) None) h)

  spans : (i : ℕ) (t : Trace) → from i ≡ Some t → i < t.end → (may i ≡ true) × (may t.end ≡ true)
  spans i t h lt =
      let walk = tell-walk around states names end may start i (half t) (ap (option_map half) h) in
      keeps i t.end walk.0 walk.1 walk.2 lt

  -- one search
  search-follows : (a : ℕ) (before : Option ℕ) → a ≤ end → (loops : Bool)
      → SeesFrom LeftmostFirst around size states start sight end a (start_key LeftmostFirst states start loops before)
      → Follows may (to_come (if loops then suc (end - a) else 1) a) fresh
      (run_within LeftmostFirst states start sight around may size (end - a) a (start_key LeftmostFirst states start loops before) fresh)
  unfolding start_key
  search-follows a before le loops sees =
      subst
      (λ o. Follows may o fresh (run_within LeftmostFirst states start sight around may size (end - a) a
      (settled LeftmostFirst states (arrived states (start ∷ [])) loops [] before) fresh))
      (start-first around size states names end start inside sight short a le loops)
      (run-follows (end - a) a (omega arith) loops [] before fresh (arrived states (start ∷ []))
      (arrived-below states names (start ∷ []) (begun-below (length states) start true inside))
      (EndWell-arrived around states names end may (a + 1) a le (start ∷ []) (begun-below (length states) start true inside) (begun-well true a)) sees)

  -- the matches that may start at these places
  abbrev pub allowed : (n i : ℕ) → Option HalfMatchValue
  allowed n i = option_map half_match_value (first_start may from n i)

  -- what one search leaves to the next
  after : (loops : Bool) (n a : ℕ) → a ≤ end → (r : Progress) (o : Option Match) → first_start anywhere from (if loops then suc (end - a) else 1) a ≡ o
      → Follows may (option_map half_match_value o) fresh r → (go : ℕ → Option HalfMatchValue)
      → ((place : ℕ) → loops ≡ true → a ≤ place → place < end → go place ≡ allowed (suc (end - (place + 1))) (place + 1))
      → option_or r.best (begin_again loops end r.refused go) ≡ allowed (if loops then suc (end - a) else 1) a
  unfolding first_start
  after loops n a le r None e follows go again =
      let none = ap (option_map half_match_value) (leaves-none may from rises spans (if loops then suc (end - a) else 1) a e) in
      rw follows (idle loops ∙ sym none)
    where
      idle : (l : Bool) → begin_again l end None go ≡ None
      idle true = refl
      idle false = refl
  after loops n a le r (Some m) e follows go again =
      by_test (may m.trace.end)
      (λ yes_ok.
      let best : r.best ≡ Some (half_match_value m) = rw yes_ok at follows in
      ap (λ o. option_or o (begin_again loops end r.refused go)) best
      ∙ sym (ap (option_map half_match_value) (leaves-some may from rises spans (if loops then suc (end - a) else 1) a m e yes_ok)))
      (λ not_ok.
      let parts : EndsWith false (half_match_value m) fresh r = rw not_ok at follows in
      let late = leaves-late may from rises spans (if loops then suc (end - a) else 1) a m e not_ok in
      (λ k. option_or (parts.0 k) (begin_again loops end (parts.1 k) go)) ∙ by_loops loops again late.0 late.1 ∙ sym (ap (option_map half_match_value) late.2))
    where
      by_loops : (l : Bool) → ((place : ℕ) → l ≡ true → a ≤ place → place < end → go place ≡ allowed (suc (end - (place + 1))) (place + 1)) → a ≤ m.trace.end
          → m.trace.end < a + (if l then suc (end - a) else 1)
          → begin_again l end (Some m.trace.end) go ≡ allowed (a + (if l then suc (end - a) else 1) - (m.trace.end + 1)) (m.trace.end + 1)
      by_loops false again low high = let count : a + 1 - (m.trace.end + 1) ≡ 0 = omega arith in rw count refl
      by_loops true again low high =
          by_test (nat_lt m.trace.end end)
          (λ e.
          let lt : m.trace.end < end = grind (arith, nat_tests) in
          let count : suc (end - (m.trace.end + 1)) ≡ a + suc (end - a) - (m.trace.end + 1) = omega arith in
          rw e (again m.trace.end refl low lt ∙ ap (λ k. allowed k (m.trace.end + 1)) count))
          (λ e.
          let past : end ≤ m.trace.end = grind (arith, nat_tests) in
          let count : a + suc (end - a) - (m.trace.end + 1) ≡ 0 = omega arith in
          rw (e, count) refl)

  -- What one search answers, and else one that begins behind the first end that was refused.
  pub search-answer : (a : ℕ) (before : Option ℕ) → a ≤ end → (loops : Bool)
      → SeesFrom LeftmostFirst around size states start sight end a (start_key LeftmostFirst states start loops before)
      → (go : ℕ → Option HalfMatchValue)
      → ((place : ℕ) → loops ≡ true → a ≤ place → place < end → go place ≡ allowed (suc (end - (place + 1))) (place + 1))
      → option_or (run_within LeftmostFirst states start sight around may size (end - a) a (start_key LeftmostFirst states start loops before) fresh).best
      (begin_again loops end (run_within LeftmostFirst states start sight around may size (end - a) a
      (start_key LeftmostFirst states start loops before) fresh).refused
      go)
      ≡ allowed (if loops then suc (end - a) else 1) a
  search-answer a before le loops sees go again =
      after loops 0 a le (run_within LeftmostFirst states start sight around may size (end - a) a (start_key LeftmostFirst states start loops before) fresh)
      (first_start anywhere from (if loops then suc (end - a) else 1) a) refl
      (search-follows a before le loops sees) go again

  pub within-answer : (n a : ℕ) (before : Option ℕ) → a ≤ end → end < a + n → Sees sight around size states before end a → (loops : Bool)
      → answer_within states start sight around may size loops end n a before ≡ allowed (if loops then suc (end - a) else 1) a
  unfolding answer_within
  within-answer zero a before le enough sees loops = absurd (omega arith)
  within-answer (suc n) a before le enough sees loops =
      search-answer a before le loops (seen-start LeftmostFirst around size states start sight end a before loops sees)
      (λ place. answer_within states start sight around may size loops end n (place + 1) (sight.class (around.byte place)))
      (λ place on low high.
      within-answer n (place + 1) (sight.class (around.byte place)) (omega arith) (omega arith)
      (record { begins = sees.goes_on place low high; goes_on = λ i from_place to. sees.goes_on i (omega arith) to }) loops
      ∙ ap (λ l. allowed (if l then suc (end - (place + 1)) else 1) (place + 1)) on)

module _ (nfa : Nfa) (range : IsInRange nfa) (sight : Sight) (text : List ℕ) (b : ℕ) (within : b ≤ length text) where
  abbrev around : Surroundings
  around = forwards nfa.terminator text

  within-start : (a : ℕ) (first : Option ℕ) → a ≤ b → Sees sight around (length text) nfa.states first b a → (loops : Bool) (o : Option ℕ)
      → ((q : ℕ) → o ≡ Some q → q < length nfa.states)
      → ((q : ℕ) → o ≡ Some q → KeepsCharacters nfa.terminator nfa.states text b q)
      → within_from nfa.states sight around (is_permitted true text) (length text) loops first b a o
      ≡ option_map half_match_value (first_start (is_permitted true text) (first_from nfa.terminator nfa.states text b o) (if loops then suc (b - a) else 1) a)
  within-start a first le sees loops None inside keeps =
      sym (ap (option_map half_match_value) (none-starts nfa range sight text b within (is_permitted true text) (if loops then suc (b - a) else 1) a))
  within-start a first le sees loops (Some q) inside keeps =
      within-answer around (length text) nfa.states range.names b q (inside q refl) sight within (is_permitted true text) (keeps q refl).spans (b + 1 - a) a
      first le (omega arith) sees loops

  pub permitted-answer : (anchor : Anchor) (a : ℕ) (first : Option ℕ) → a ≤ b → Sees sight around (length text) nfa.states first b a
      → ((q : ℕ) → start_of nfa anchor ≡ Some q → KeepsCharacters nfa.terminator nfa.states text b q)
      → permitted_answer_of nfa sight text anchor first b a ≡ option_map half_match_value (next_match_of nfa true text anchor b a)
  unfolding next_match_of
  permitted-answer anchor a first le sees keeps =
      within-start a first le sees (loops_in anchor) (start_of nfa anchor) (start-inside nfa range sight text b within anchor) keeps
      ∙ ap (λ n. option_map half_match_value (first_start (is_permitted true text) (first_from nfa.terminator nfa.states text b (start_of nfa anchor)) n a))
      (as-many nfa range sight text b within anchor a le)

  -- the next match by how many starts there are
  by-starts : (utf8 : Bool) (anchor : Anchor) (start : ℕ) → start_of nfa anchor ≡ Some start → (a : ℕ) → a ≤ b
      → option_map half_match_value (next_match_of nfa utf8 text anchor b a)
      ≡ option_map half_match_value
      (first_start (is_permitted utf8 text) (first_from nfa.terminator nfa.states text b (Some start)) (if loops_in anchor then suc (b - a) else 1) a)
  unfolding next_match_of
  by-starts utf8 anchor start begins a le =
      ap (λ n. option_map half_match_value (first_start (is_permitted utf8 text) (first_from nfa.terminator nfa.states text b (start_of nfa anchor)) n a))
      (sym (as-many nfa range sight text b within anchor a le))
      ∙ ap
      (λ o. option_map half_match_value
      (first_start (is_permitted utf8 text) (first_from nfa.terminator nfa.states text b o) (if loops_in anchor then suc (b - a) else 1) a)) begins

  spans-keep : (utf8 : Bool) (start : ℕ) → (utf8 ≡ true → KeepsCharacters nfa.terminator nfa.states text b start)
      → (i e pattern n : ℕ) → Leads (automaton_over around nfa.states b) pattern e n (at start i) → i < e
      → (is_permitted utf8 text i ≡ true) × (is_permitted utf8 text e ≡ true)
  spans-keep true start keeps = (keeps refl).spans
  spans-keep false start keeps = λ i e pattern n walk lt. (refl, refl)

  -- one search of a..b, in which the sight tells of look-around as long as the keys live
  pub search-once : (utf8 : Bool) (anchor : Anchor) (a : ℕ) (before : Option ℕ) → a ≤ b → (start : ℕ) → start_of nfa anchor ≡ Some start
      → (utf8 ≡ true → KeepsCharacters nfa.terminator nfa.states text b start)
      → SeesWhileAlive LeftmostFirst sight around (length text) nfa.states start (start_key LeftmostFirst nfa.states start (loops_in anchor) before) b a
      → option_map half_match_value (next_match_of nfa utf8 text anchor b a) ≡ found_once nfa sight utf8 text anchor start before b a
  search-once utf8 anchor a before le start begins keeps sees =
      by-starts utf8 anchor start begins a le
      ∙ sym (search-answer around (length text) nfa.states range.names b start (start-inside nfa range sight text b within anchor start begins) sight within
      (is_permitted utf8 text) (spans-keep utf8 start keeps) a before le (loops_in anchor)
      (λ j low high alive. sees.sees j low high alive)
      (λ place. option_map half_match_value (next_match_of nfa utf8 text anchor b (place + 1)))
      (λ place on low high.
      by-starts utf8 anchor start begins (place + 1) (omega arith)
      ∙ ap
      (λ l. option_map half_match_value
      (first_start (is_permitted utf8 text) (first_from nfa.terminator nfa.states text b (Some start)) (if l then suc (b - (place + 1)) else 1) (place + 1)))
      on))
