-- Where a search may as well begin anew: nothing was met, and the key is that of a start.
use Rattle.std.proofs.Common.{◌≡◌, ℕ, suc, ◌+◌, ◌-◌, ◌≤◌, ◌<◌, List, [], ◌∷◌, length, refl, sym, ◌∙◌, ap, subst, inl, inr, arith}
use Rattle.std.specs.Prelude.{Bool, true, false, Option, Some, None, option_map, All}
use Rattle.std.specs.Option.{option_or}
use Rattle.rx_model.specs.Runs.{PriorityGraph, Trace, Leads, nowhere, found}
use Rattle.rx_model.specs.Search.{Match, free, first_start, is_permitted}
use Rattle.rx_model.proofs.lemmas.runs.RunLemmas.{by_test}
use Rattle.rx_model.proofs.lemmas.runs.FirstLemmas.{none-is-some, tells}
use Rattle.rx_model.proofs.lemmas.runs.OptionLemmas.{or-none_right}
use Rattle.rx_model.proofs.lemmas.runs.RiseLemmas.{mapped-some}
use Rattle.rx_search.specs.Matches.{HalfMatchValue, half_match_value}
use Rattle.rx_search.specs.declared.anchored.MatchKind.TheVariants.{LeftmostFirst}
use Rattle.rx_nfa.specs.Automaton.{at, automaton_over, NamesBelow, Surroundings, forwards}
use Rattle.rx_nfa.specs.Nfa.{Nfa, IsInRange}
use Rattle.rx_nfa.specs.NextMatch.{start_of, first_from, next_match_of}
use Rattle.rx_nfa.specs.Ordered.{AreBelow, HoldsAt, half, first_told, first_on, resting, match_here, where_there, threads_from}
use Rattle.rx_nfa.specs.declared.state.State.{State}
use Rattle.rx_nfa.proofs.lemmas.lists.LaterLemmas.{begun-below}
use Rattle.rx_determinize.specs.Key.{Key, Sight, accepts_in, listed, arrived, settled, start_key, step_key}
use Rattle.rx_determinize.specs.Permitted.{KeepsCharacters}
use Rattle.rx_determinize.proofs.lemmas.ArrivedLemmas.{arrived-below}
use Rattle.rx_determinize.proofs.lemmas.EndsLemmas.{tell-walk, first_on-late}
use Rattle.rx_determinize.proofs.lemmas.PermittedLemmas.{leaves-none, leaves-some, leaves-late}
use Rattle.rx_determinize.proofs.lemmas.SpanLemmas.{anywhere, later, staying, kept, next_stack, next_stack-below, staying-below, settled-first, key-step, start-first, as-many}

unlisted : (o : Option ℕ) → listed o ≡ [] → o ≡ None
unlisted None h = refl
unlisted (Some p) h = cc

-- What comes of a key.
module _ (around : Surroundings) (size : ℕ) (states : List State) (names : All (NamesBelow (length states)) states) (end start : ℕ)
    (inside : start < length states) (sight : Sight) (short : end ≤ size) where
  abbrev graph : PriorityGraph
  graph = automaton_over around states end

  abbrev accepts : ℕ → Option ℕ
  accepts = accepts_in states

  abbrev first : ℕ → List ℕ → Option HalfMatchValue
  first i qs = first_on graph nowhere i qs

  abbrev pub starting : (n i : ℕ) → Option HalfMatchValue
  starting n i = later around size states names end start inside sight short n i

  -- what its threads lead to from place i, and then the later starts
  abbrev to_come : ℕ → Key → Option HalfMatchValue
  to_come i k = option_or (first i (threads_from states (λ kind. around.looks kind i) k.threads)) (where_there k.loops (starting (end - i) (i + 1)))

  settled-come : (i : ℕ) → i ≤ end → (loops : Bool) (matches : List ℕ) (before : Option ℕ) (qs : List ℕ) → AreBelow (length states) qs
      → to_come i (settled LeftmostFirst states qs loops matches before) ≡ option_or (first i qs) (where_there loops (starting (end - i) (i + 1)))
  settled-come i le loops matches before qs below =
      settled-first around size states names end start inside sight short (λ kind. around.looks kind i) i (λ q next look is. refl) le loops
      (starting (end - i) (i + 1)) qs below

  -- What comes of the key is what comes of the start at `from`: nothing was met since.
  pub record IsComing (from i : ℕ) (k : Key) : Type 0 where
    pub qs : List ℕ
    pub loops : Bool
    pub below : AreBelow (length states) qs
    pub is : k ≡ settled LeftmostFirst states qs loops k.matches k.before
    pub come : to_come i k ≡ starting (suc (end - from)) from

  pub coming-start : (from : ℕ) → from ≤ end → (before : Option ℕ) → IsComing from from (start_key LeftmostFirst states start true before)
  unfolding start_key
  coming-start from le before =
      let below = arrived-below states names (start ∷ []) (begun-below (length states) start true inside) in
      record {
        qs = arrived states (start ∷ []);
        loops = true;
        below = below;
        is = refl;
        come = settled-come from le true [] before (arrived states (start ∷ [])) below
            ∙ start-first around size states names end start inside sight short from le true;
      }

  settled-step : (from i : ℕ) → i < end → (qs : List ℕ) (loops : Bool) (matches : List ℕ) (before : Option ℕ) → AreBelow (length states) qs
      → HoldsAt around states (sight.holds before (Some (around.byte i))) i
      → (step_key LeftmostFirst states start sight (settled LeftmostFirst states qs loops matches before) (around.byte i)).matches ≡ []
      → to_come i (settled LeftmostFirst states qs loops matches before) ≡ starting (suc (end - from)) from
      → IsComing from (i + 1) (step_key LeftmostFirst states start sight (settled LeftmostFirst states qs loops matches before) (around.byte i))
  unfolding step_key
  settled-step from i lt qs loops matches before below holds none come =
      let holding = sight.holds before (Some (around.byte i)) in
      let xs = staying around size states names end start inside sight short holding qs in
      let ts = resting states xs in
      let l0 = kept around size states names end start inside sight short qs loops in
      let l1 = kept around size states names end start inside sight short ts l0 in
      let ys = next_stack around size states names end start inside sight short xs l0 i in
      let ys_below = next_stack-below around size states names end start inside sight short xs l0 i
      (staying-below around size states names end start inside sight short holding qs below) in
      let here : match_here accepts i ts ≡ None =
      ap (λ o. option_map (λ p. record { pattern = p; offset = i }) o) (unlisted (first_told accepts ts) none) in
      let n = end - (i + 1) in
      let count : suc n ≡ end - i = omega arith in
      let onward = option_or (first (i + 1) (arrived states ys)) (where_there l1 (starting n (i + 1 + 1))) in
      record {
        qs = arrived states ys;
        loops = l1;
        below = arrived-below states names ys ys_below;
        is = refl;
        come = settled-come (i + 1) (omega arith) l1 (listed (first_told accepts ts)) (sight.class (around.byte i)) (arrived states ys)
            (arrived-below states names ys ys_below)
            ∙ sym (or-none_right onward)
            ∙ ap (λ o. option_or onward (option_or o None)) (sym here)
            ∙ key-step around size states names end start inside sight short n i lt loops before None qs below holds
            ∙ or-none_right (option_or (first i qs) (where_there loops (starting (suc n) (i + 1))))
            ∙ ap (λ c. option_or (first i qs) (where_there loops (starting c (i + 1)))) count
            ∙ sym (settled-come i (omega arith) loops matches before qs below)
            ∙ come;
      }

  -- one byte on, where nothing matches
  pub coming-step : (from i : ℕ) (k : Key) → i < end → IsComing from i k → HoldsAt around states (sight.holds k.before (Some (around.byte i))) i
      → (step_key LeftmostFirst states start sight k (around.byte i)).matches ≡ []
      → IsComing from (i + 1) (step_key LeftmostFirst states start sight k (around.byte i))
  coming-step from i k lt c holds none =
      subst (λ x. IsComing from (i + 1) (step_key LeftmostFirst states start sight x (around.byte i))) (sym c.is)
      (settled-step from i lt c.qs c.loops k.matches k.before c.below holds
      (subst (λ x. (step_key LeftmostFirst states start sight x (around.byte i)).matches ≡ []) c.is none)
      (subst (λ x. to_come i x ≡ starting (suc (end - from)) from) c.is c.come))

  -- at a key of a start
  pub coming-again : (from i : ℕ) (k : Key) → i ≤ end → IsComing from i k → (before : Option ℕ) → k ≡ start_key LeftmostFirst states start true before
      → starting (suc (end - from)) from ≡ starting (suc (end - i)) i
  coming-again from i k le c before is = sym c.come ∙ ap (to_come i) is ∙ (coming-start i le before).come

-- The next match by what comes of the starts.
module _ (nfa : Nfa) (range : IsInRange nfa) (sight : Sight) (text : List ℕ) (b : ℕ) (within : b ≤ length text)
    (keeps : nfa.utf8 ≡ true → KeepsCharacters nfa.terminator nfa.states text b nfa.start_anchored) where
  abbrev around : Surroundings
  around = forwards nfa.terminator text

  abbrev g : PriorityGraph
  g = automaton_over around nfa.states b

  abbrev may : ℕ → Bool
  may = is_permitted nfa.utf8 text

  abbrev from_at : ℕ → Option Trace
  from_at j = found g nowhere (at nfa.start_anchored j)

  abbrev every : (n i : ℕ) → Option Match
  every n i = first_start anywhere from_at n i

  abbrev allowed : (n i : ℕ) → Option Match
  allowed n i = first_start may from_at n i

  walks : (utf8 : Bool) → (utf8 ≡ true → KeepsCharacters nfa.terminator nfa.states text b nfa.start_anchored) → (i e pattern n : ℕ)
      → Leads g pattern e n (at nfa.start_anchored i) → i < e → (is_permitted utf8 text i ≡ true) × (is_permitted utf8 text e ≡ true)
  walks true keep = (keep refl).spans
  walks false keep = λ i e pattern n walk lt. (refl, refl)

  rises : (i : ℕ) (t : Trace) → from_at i ≡ Some t → i ≤ t.end
  rises i t h =
      first_on-late around nfa.states range.names b may i (nfa.start_anchored ∷ []) (half t) (ap (λ o. option_or (option_map half o) None) h)

  spans : (i : ℕ) (t : Trace) → from_at i ≡ Some t → i < t.end → (may i ≡ true) × (may t.end ≡ true)
  spans i t h lt =
      let walk = tell-walk around nfa.states range.names b may nfa.start_anchored i (half t) (ap (option_map half) h) in
      walks nfa.utf8 keeps i t.end walk.0 walk.1 walk.2 lt

  unmapped : (o : Option Match) → option_map half_match_value o ≡ None → o ≡ None
  unmapped None h = refl
  unmapped (Some m) h = none-is-some (sym h)

  alike-allowed : (a c : ℕ) → a ≤ b → c ≤ b → option_map half_match_value (every (suc (b - a)) a) ≡ option_map half_match_value (every (suc (b - c)) c)
      → option_map half_match_value (allowed (suc (b - a)) a) ≡ option_map half_match_value (allowed (suc (b - c)) c)
  alike-allowed a c low high same =
      elim (tells (every (suc (b - c)) c)) [
        | inl none ↦
            let gone = unmapped (every (suc (b - a)) a) (same ∙ ap (option_map half_match_value) none) in
            ap (option_map half_match_value)
            (leaves-none may from_at rises spans (suc (b - a)) a gone ∙ sym (leaves-none may from_at rises spans (suc (b - c)) c none))
        | inr some ↦
            let x = mapped-some half_match_value (every (suc (b - a)) a) (half_match_value some.0) (same ∙ ap (option_map half_match_value) some.1) in
            let ends : x.0.trace.end ≡ some.0.trace.end = ap (λ (h : HalfMatchValue). h.offset) x.2 in
            by_test (may some.0.trace.end)
            (λ on.
            ap (option_map half_match_value) (leaves-some may from_at rises spans (suc (b - a)) a x.0 x.1 (ap may ends ∙ on))
            ∙ ap Some x.2
            ∙ sym (ap (option_map half_match_value) (leaves-some may from_at rises spans (suc (b - c)) c some.0 some.1 on)))
            (λ off.
            let one = leaves-late may from_at rises spans (suc (b - a)) a x.0 x.1 (ap may ends ∙ off) in
            let other = leaves-late may from_at rises spans (suc (b - c)) c some.0 some.1 off in
            let count : a + suc (b - a) - (x.0.trace.end + 1) ≡ c + suc (b - c) - (some.0.trace.end + 1) = omega arith in
            let place : x.0.trace.end + 1 ≡ some.0.trace.end + 1 = omega arith in
            ap (option_map half_match_value) (one.2 ∙ (λ k. allowed (count k) (place k)) ∙ sym other.2))
      ]

  free-next : (a : ℕ) → a ≤ b
      → option_map half_match_value (next_match_of nfa nfa.utf8 text free b a) ≡ option_map half_match_value (allowed (suc (b - a)) a)
  unfolding next_match_of
  free-next a le =
      ap (λ n. option_map half_match_value (first_start may (first_from nfa.terminator nfa.states text b (start_of nfa free)) n a))
      (sym (as-many nfa range sight text b within free a le))

  pub next-alike : (a c : ℕ) → a ≤ b → c ≤ b
      → starting around (length text) nfa.states range.names b nfa.start_anchored range.start_anchored sight within (suc (b - a)) a
      ≡ starting around (length text) nfa.states range.names b nfa.start_anchored range.start_anchored sight within (suc (b - c)) c
      → option_map half_match_value (next_match_of nfa nfa.utf8 text free b a) ≡ option_map half_match_value (next_match_of nfa nfa.utf8 text free b c)
  next-alike a c low high same = free-next a low ∙ alike-allowed a c low high same ∙ sym (free-next c high)
