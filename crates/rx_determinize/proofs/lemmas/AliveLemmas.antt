-- The sight has to tell of look-around only as long as a key has a thread or the loop.
use Rattle.std.proofs.Common.{◌≡◌, ℕ, zero, suc, ◌+◌, ◌-◌, ◌≤◌, ◌<◌, List, [], ◌∷◌, length, refl, sym, ◌∙◌, ap, subst, arith}
use Rattle.std.specs.Prelude.{Bool, true, false, Option, Some, None, option_map, All, if◌then◌else◌}
use Rattle.std.specs.Option.{option_or}
use Rattle.rx_model.specs.Runs.{nowhere}
use Rattle.rx_model.specs.Search.{Anchor, is_permitted, first_start, starts}
use Rattle.rx_model.proofs.lemmas.runs.OptionLemmas.{or-none_right}
use Rattle.rx_search.specs.Matches.{HalfMatchValue, half_match_value}
use Rattle.rx_search.specs.declared.anchored.MatchKind.TheVariants.{LeftmostFirst}
use Rattle.rx_nfa.specs.Automaton.{automaton_over, NamesBelow, Surroundings, forwards, byte_within}
use Rattle.rx_nfa.specs.Nfa.{Nfa, IsInRange}
use Rattle.rx_nfa.specs.NextMatch.{start_of, first_from, next_match_of}
use Rattle.rx_nfa.specs.Ordered.{AreBelow, HoldsAt, first_told, first_on, resting, where_there}
use Rattle.rx_nfa.specs.declared.state.State.{State}
use Rattle.rx_nfa.proofs.lemmas.lists.LaterLemmas.{begun-below}
use Rattle.rx_determinize.specs.Key.{Sight, Key, accepts_in, listed, arrived, settled, start_key, step_key, end_key}
use Rattle.rx_determinize.specs.Span.{met, run_keys, run_from, SeesWhileAlive, loops_in, answer_of}
use Rattle.rx_determinize.proofs.lemmas.ArrivedLemmas.{arrived-below}
use Rattle.rx_determinize.proofs.lemmas.SpanLemmas.{byte-here, met-listed, later, staying, kept, next_stack, next_stack-below, staying-below, key-step, key-end, start-first, start-inside, as-many}
use Rattle.rx_determinize.proofs.lemmas.DeadLemmas.{no-more}
use Rattle.rx_determinize.proofs.lemmas.SeenLemmas.{alive-or-none, SeesFrom, sees-here, sees-next}

module _ (around : Surroundings) (size : ℕ) (states : List State) (names : All (NamesBelow (length states)) states) (end start : ℕ)
    (inside : start < length states) (sight : Sight) (short : end ≤ size) where
  abbrev accepts : ℕ → Option ℕ
  accepts = accepts_in states

  abbrev first : ℕ → List ℕ → Option HalfMatchValue
  first i qs = first_on (automaton_over around states end) nowhere i qs

  abbrev to_come : (n i : ℕ) → Option HalfMatchValue
  to_come n i = later around size states names end start inside sight short n i

  -- the keys from this one on are seen, as long as they live
  abbrev Sees-from : (i : ℕ) → Key → Type 0
  Sees-from i k = SeesFrom LeftmostFirst around size states start sight end i k

  pub run-alive : (n i : ℕ) → i + n ≡ end → (loops : Bool) (matches : List ℕ) (before : Option ℕ) (best : Option HalfMatchValue) (qs : List ℕ)
      → AreBelow (length states) qs
      → Sees-from i (settled LeftmostFirst states qs loops matches before)
      → run_keys LeftmostFirst states start sight around size n i (settled LeftmostFirst states qs loops matches before) best
      ≡ option_or (option_or (first i qs) (where_there loops (to_come n (i + 1)))) best
  unfolding run_keys end_key step_key
  run-alive zero i ends loops matches before best qs below sees =
      let same : i ≡ end = omega arith in
      let holding = sight.holds before (byte_within around.byte size i) in
      alive-or-none states qs loops matches before
      (λ alive.
      met-listed accepts i best (resting states (staying around size states names end start inside sight short holding qs))
      ∙ ap (λ o. option_or o best)
      (key-end around size states names end start inside sight short i same loops holding qs below
      (sees-here LeftmostFirst around size states start sight end i (omega arith) (settled LeftmostFirst states qs loops matches before) sees alive)))
      (λ none over.
      (λ k. run_keys LeftmostFirst states start sight around size zero i (settled LeftmostFirst states (none k) (over k) matches before) best)
      ∙ no-more LeftmostFirst states start sight around size zero i (settled LeftmostFirst states [] false matches before) refl refl best
      ∙ (λ k. option_or (option_or (first i (sym none k)) (where_there (sym over k) (to_come zero (i + 1)))) best))
  run-alive (suc n) i ends loops matches before best qs below sees =
      let lt : i < end = omega arith in
      let byte = byte-here around.byte size i (omega arith) in
      let holding = sight.holds before (Some (around.byte i)) in
      let key = settled LeftmostFirst states qs loops matches before in
      alive-or-none states qs loops matches before
      (λ alive.
      let holds-byte : HoldsAt around states holding i = subst (λ o. HoldsAt around states (sight.holds before o) i) byte
      (sees-here LeftmostFirst around size states start sight end i (omega arith) key sees alive) in
      let xs = staying around size states names end start inside sight short holding qs in
      let ts = resting states xs in
      let l0 = kept around size states names end start inside sight short qs loops in
      let l1 = kept around size states names end start inside sight short ts l0 in
      let ys = next_stack around size states names end start inside sight short xs l0 i in
      let here = listed (first_told accepts ts) in
      run-alive n (i + 1) (omega arith) l1 here (sight.class (around.byte i)) (met here i best) (arrived states ys)
      (arrived-below states names ys (next_stack-below around size states names end start inside sight short xs l0 i
      (staying-below around size states names end start inside sight short holding qs below)))
      (sees-next LeftmostFirst around size states start sight end i key sees)
      ∙ ap (option_or (option_or (first (i + 1) (arrived states ys)) (where_there l1 (to_come n (i + 1 + 1))))) (met-listed accepts i best ts)
      ∙ key-step around size states names end start inside sight short n i lt loops before best qs below holds-byte)
      (λ none over.
      (λ k. run_keys LeftmostFirst states start sight around size (suc n) i (settled LeftmostFirst states (none k) (over k) matches before) best)
      ∙ no-more LeftmostFirst states start sight around size (suc n) i (settled LeftmostFirst states [] false matches before) refl refl best
      ∙ (λ k. option_or (option_or (first i (sym none k)) (where_there (sym over k) (to_come (suc n) (i + 1)))) best))

  pub start-alive : (a : ℕ) (before : Option ℕ) → a ≤ end → (loops : Bool) → Sees-from a (start_key LeftmostFirst states start loops before)
      → run_keys LeftmostFirst states start sight around size (end - a) a (start_key LeftmostFirst states start loops before) None ≡ to_come
      (if loops then suc (end - a) else 1) a
  unfolding start_key
  start-alive a before le loops sees =
      run-alive (end - a) a (omega arith) loops [] before None (arrived states (start ∷ []))
      (arrived-below states names (start ∷ []) (begun-below (length states) start true inside)) sees
      ∙ or-none_right (option_or (first a (arrived states (start ∷ []))) (where_there loops (to_come (end - a) (a + 1))))
      ∙ start-first around size states names end start inside sight short a le loops

module _ (nfa : Nfa) (range : IsInRange nfa) (sight : Sight) (text : List ℕ) (b : ℕ) (within : b ≤ length text) (anchor : Anchor) (a : ℕ) (first : Option ℕ)
    (in_order : a ≤ b)
    (start : ℕ) (begins : start_of nfa anchor ≡ Some start) where
  abbrev around : Surroundings
  around = forwards nfa.terminator text

  pub alive-answer : SeesWhileAlive LeftmostFirst sight around (length text) nfa.states start (start_key LeftmostFirst nfa.states start (loops_in anchor) first)
      b a
      → answer_of nfa sight text anchor first b a ≡ option_map half_match_value (next_match_of nfa false text anchor b a)
  unfolding next_match_of
  alive-answer sees =
      let inside = start-inside nfa range sight text b within anchor start begins in
      ap (run_from LeftmostFirst nfa.states sight around (length text) (loops_in anchor) first b a) begins
      ∙ start-alive around (length text) nfa.states range.names b start inside sight within a first in_order (loops_in anchor)
      (λ j low high alive. sees.sees j low high alive)
      ∙ ap (λ n. option_map half_match_value (first_start (is_permitted false text) (first_from nfa.terminator nfa.states text b (Some start)) n a))
      (as-many nfa range sight text b within anchor a in_order)
      ∙ ap (λ o. option_map half_match_value (first_start (is_permitted false text) (first_from nfa.terminator nfa.states text b o) (starts anchor a b) a))
      (sym begins)
