-- The keys of an NFA that reads backwards find the least start.
use Rattle.std.proofs.Common.{◌≡◌, ℕ, ◌-◌, ◌≤◌, List, length, refl, sym, ◌∙◌, ap, subst, arith}
use Rattle.std.specs.Prelude.{Bool, true, false, Option, Some, None, option_map, slice_get, slice_index, slice_index_or}
use Rattle.std.proofs.lemmas.Option.{get_or_from_slice_get, slice_get_within, slice_get-get_or}
use Rattle.rx_model.specs.Expression.{empty}
use Rattle.rx_model.specs.Runs.{Leads}
use Rattle.rx_model.specs.Search.{Anchor, free, anchored, anchored_to, Patterns, is_permitted}
use Rattle.rx_model.proofs.lemmas.runs.FirstLemmas.{none-is-some, some-is}
use Rattle.rx_model.proofs.lemmas.runs.RiseLemmas.{mapped-some}
use Rattle.rx_search.specs.Matches.{HalfMatchValue}
use Rattle.rx_nfa.specs.Automaton.{at, automaton_over, Surroundings, backwards}
use Rattle.rx_nfa.specs.Nfa.{Nfa, IsInRange, HasReverseRuns, LeadsBack}
use Rattle.rx_nfa.specs.NextMatch.{start_of}
use Rattle.rx_search.specs.declared.anchored.MatchKind.TheVariants.{All}
use Rattle.rx_determinize.specs.Key.{Sight, Sees, start_key}
use Rattle.rx_determinize.specs.Span.{run_from}
use Rattle.rx_determinize.specs.Permitted.{fresh, run_within}
use Rattle.rx_determinize.specs.Told.{HasRunTo, MeansUpTo, IsLeastStart, IsLeastStartWhere, at_place, reverse_once, reverse_answer_of}
use Rattle.rx_determinize.proofs.lemmas.SeenLemmas.{SeesFrom, seen-start}
use Rattle.rx_determinize.proofs.lemmas.SpanLemmas.{start-inside}
use Rattle.rx_determinize.proofs.lemmas.ToldLemmas.{keys-within, last-none, last-some}

module _ (nfa : Nfa) (range : IsInRange nfa) (r : Patterns) (runs : HasReverseRuns nfa r) (sight : Sight) (text : List ℕ) (b a : ℕ) (in_order : a ≤ b)
    (within : b ≤ length text) (anchor : Anchor) where
  abbrev size : ℕ
  size = length text

  abbrev around : Surroundings
  around = backwards nfa.terminator text

  -- a walk back from b is a meaning
  back-means : (q : ℕ) → start_of nfa anchor ≡ Some q → (p i : ℕ) → i ≤ b → LeadsBack nfa text (size - i) q p i b → MeansUpTo r text anchor b p i
  back-means q is p i le walk = by_anchor anchor is
    where
      by_anchor : (anchor : Anchor) → start_of nfa anchor ≡ Some q → MeansUpTo r text anchor b p i
      by_anchor free is =
          let start : nfa.start_anchored ≡ q = some-is is in
          let m = (runs.all text i p i b (omega arith) (omega arith) within).0 (subst (λ s. LeadsBack nfa text (size - i) s p i b) (sym start) walk) in
          record { sought = tt; expression = m.0; is = m.1; means = m.2 }
      by_anchor anchored is =
          let start : nfa.start_anchored ≡ q = some-is is in
          let m = (runs.all text i p i b (omega arith) (omega arith) within).0 (subst (λ s. LeadsBack nfa text (size - i) s p i b) (sym start) walk) in
          record { sought = tt; expression = m.0; is = m.1; means = m.2 }
      by_anchor (anchored_to k) is =
          let lt = slice_get_within nfa.starts k q is in
          let start : slice_index nfa.starts k ≡ q = get_or_from_slice_get nfa.starts k q 0 is in
          let count = runs.patterns in
          let h = slice_index_or r.expressions k empty in
          let there : slice_get r.expressions k ≡ Some h = slice_get-get_or r.expressions k empty (omega arith) in
          let m =
          (runs.each text i k p i b h (omega arith) (omega arith) within there).0 (subst (λ s. LeadsBack nfa text (size - i) s p i b) (sym start) walk) in
          record { sought = m.0; expression = h; is = ap (slice_get r.expressions) m.0 ∙ there; means = m.1 }

  means-back : (q : ℕ) → start_of nfa anchor ≡ Some q → (p i : ℕ) → i ≤ b → MeansUpTo r text anchor b p i → LeadsBack nfa text (size - i) q p i b
  means-back q is p i le m = by_anchor anchor is m
    where
      by_anchor : (anchor : Anchor) → start_of nfa anchor ≡ Some q → MeansUpTo r text anchor b p i → LeadsBack nfa text (size - i) q p i b
      by_anchor free is m =
          let start : nfa.start_anchored ≡ q = some-is is in
          subst (λ s. LeadsBack nfa text (size - i) s p i b) start ((runs.all text i p i b (omega arith) (omega arith) within).1 (m.expression, m.is, m.means))
      by_anchor anchored is m =
          let start : nfa.start_anchored ≡ q = some-is is in
          subst (λ s. LeadsBack nfa text (size - i) s p i b) start ((runs.all text i p i b (omega arith) (omega arith) within).1 (m.expression, m.is, m.means))
      by_anchor (anchored_to k) is m =
          let start : slice_index nfa.starts k ≡ q = get_or_from_slice_get nfa.starts k q 0 is in
          let there : slice_get r.expressions k ≡ Some m.expression = ap (slice_get r.expressions) (sym m.sought) ∙ m.is in
          subst (λ s. LeadsBack nfa text (size - i) s p i b) start
          ((runs.each text i k p i b m.expression (omega arith) (omega arith) within there).1 (m.sought, m.means))

  -- a run at a distance from the end
  run-means : (q : ℕ) → start_of nfa anchor ≡ Some q → (p e : ℕ) → size - b ≤ e → e ≤ size - a → HasRunTo around nfa.states q false (size - b) p e
      → MeansUpTo r text anchor b p (size - e)
  run-means q is p e low high run =
      let distance : e ≡ size - (size - e) = omega arith in
      let from = run.anchored refl in
      back-means q is p (size - e) (omega arith) (
        run.steps,
        subst (λ d. Leads (automaton_over around nfa.states d) p d run.steps (at q (size - b))) distance
            (subst (λ s. Leads (automaton_over around nfa.states e) p e run.steps (at q s)) from run.leads),
      )

  means-run : (q : ℕ) → start_of nfa anchor ≡ Some q → (p i : ℕ) → i ≤ b → MeansUpTo r text anchor b p i
      → HasRunTo around nfa.states q false (size - b) p (size - i)
  means-run q is p i le m =
      let walk = means-back q is p i le m in
      record { from = size - b; low = omega arith; high = omega arith; anchored = λ h. refl; steps = walk.0; leads = walk.1 }

  -- no pattern is sought that is not there
  pub no-start : start_of nfa anchor ≡ None → (p i : ℕ) → MeansUpTo r text anchor b p i → ⊥
  no-start none p i m = by_anchor anchor none m
    where
      by_anchor : (anchor : Anchor) → start_of nfa anchor ≡ None → MeansUpTo r text anchor b p i → ⊥
      by_anchor free none m = none-is-some (sym none)
      by_anchor anchored none m = none-is-some (sym none)
      by_anchor (anchored_to k) none m =
          let there : slice_get r.expressions k ≡ Some m.expression = ap (slice_get r.expressions) (sym m.sought) ∙ m.is in
          let lt = slice_get_within r.expressions k m.expression there in
          let count = runs.patterns in
          none-is-some (sym none ∙ slice_get-get_or nfa.starts k 0 (omega arith))

  unmapped : (o : Option HalfMatchValue) → option_map (at_place (length text)) o ≡ None → o ≡ None
  unmapped None h = refl
  unmapped (Some x) h = none-is-some (sym h)

  -- One search from the span's end, in which the sight tells of look-around as long as the keys live.

  pub once-none : (utf8 : Bool) (last : Option ℕ) (q : ℕ) → start_of nfa anchor ≡ Some q
      → SeesFrom All around size nfa.states q sight (size - a) (size - b) (start_key All nfa.states q false last)
      → reverse_once nfa sight utf8 text q last b a ≡ None
      → (p i : ℕ) → a ≤ i → i ≤ b → is_permitted utf8 text i ≡ true → MeansUpTo r text anchor b p i → ⊥
  once-none utf8 last q is sees none p i low high on m =
      let back : size - (size - i) ≡ i = omega arith in
      last-none around size nfa.states range.names q (start-inside nfa range sight text b within anchor q is) sight (λ d. is_permitted utf8 text (size - d))
      (size - a) (size - b) (omega arith) (omega arith) last false sees
      (unmapped
      (run_within All nfa.states q sight around (λ d. is_permitted utf8 text (size - d)) size (size - a - (size - b)) (size - b)
      (start_key All nfa.states q false last) fresh).best none)
      p (size - i) (omega arith) (omega arith) (ap (is_permitted utf8 text) back ∙ on) (means-run q is p i high m)

  pub once-some : (utf8 : Bool) (last : Option ℕ) (q : ℕ) → start_of nfa anchor ≡ Some q
      → SeesFrom All around size nfa.states q sight (size - a) (size - b) (start_key All nfa.states q false last)
      → (h : HalfMatchValue) → reverse_once nfa sight utf8 text q last b a ≡ Some h → IsLeastStartWhere r utf8 text anchor b a h
  once-some utf8 last q is sees h found =
      let mapped = mapped-some (at_place size)
      (run_within All nfa.states q sight around (λ d. is_permitted utf8 text (size - d)) size (size - a - (size - b)) (size - b)
      (start_key All nfa.states q false last) fresh).best h found in
      let x = mapped.0 in
      let l =
      last-some around size nfa.states range.names q (start-inside nfa range sight text b within anchor q is) sight (λ d. is_permitted utf8 text (size - d))
      (size - a) (size - b) (omega arith) (omega arith) last false sees x mapped.1 in
      let low = l.from in
      let high = l.to in
      subst (IsLeastStartWhere r utf8 text anchor b a) mapped.2
      (record {
        from = omega arith;
        to = omega arith;
        starts = l.ends;
        means = run-means q is x.pattern x.offset l.from l.to l.runs;
        longest = λ p i lo hi on m.
            let back : size - (size - i) ≡ i = omega arith in
            let up = l.latest p (size - i) (omega arith) (omega arith) (ap (is_permitted utf8 text) back ∙ on) (means-run q is p i hi m) in
            omega arith;
        least = λ p m.
            let back : size - (size - x.offset) ≡ x.offset = omega arith in
            l.least p (subst (HasRunTo around nfa.states q false (size - b) p) back (means-run q is p (size - x.offset) (omega arith) m));
      })

module _ (nfa : Nfa) (range : IsInRange nfa) (r : Patterns) (runs : HasReverseRuns nfa r) (sight : Sight) (text : List ℕ) (b a : ℕ) (in_order : a ≤ b)
    (within : b ≤ length text)
    (anchor : Anchor) (last : Option ℕ) (sees : Sees sight (backwards nfa.terminator text) (length text) nfa.states last (length text - a)
    (length text - b)) where
  abbrev found : Option ℕ → Option HalfMatchValue
  found o = option_map (at_place (length text)) (run_from All nfa.states sight (backwards nfa.terminator text) (length text) false last (length text - a)
      (length text - b) o)

  seen : (q : ℕ) → SeesFrom All (backwards nfa.terminator text) (length text) nfa.states q sight (length text - a) (length text - b)
      (start_key All nfa.states q false last)
  seen q = seen-start All (backwards nfa.terminator text) (length text) nfa.states q sight (length text - a) (length text - b) last false sees

  found-once : (q : ℕ) → found (Some q) ≡ reverse_once nfa sight false text q last b a
  found-once q =
      ap (option_map (at_place (length text)))
      (keys-within nfa.states q sight (backwards nfa.terminator text) (length text) (length text - a - (length text - b)) (length text - b)
      (start_key All nfa.states q false last) fresh)

  pub least-none : reverse_answer_of nfa sight text anchor last b a ≡ None → (p i : ℕ) → a ≤ i → i ≤ b → MeansUpTo r text anchor b p i → ⊥
  least-none none p i low high m = by_start (start_of nfa anchor) refl none
    where
      by_start : (o : Option ℕ) → start_of nfa anchor ≡ o → found o ≡ None → ⊥
      by_start None is h = no-start nfa range r runs sight text b a in_order within anchor is p i m
      by_start (Some q) is h =
          once-none nfa range r runs sight text b a in_order within anchor false last q is (seen q) (sym (found-once q) ∙ h) p i low high refl m

  pub least-some : (h : HalfMatchValue) → reverse_answer_of nfa sight text anchor last b a ≡ Some h → IsLeastStart r text anchor b a h
  least-some h is = by_start (start_of nfa anchor) refl is
    where
      by_start : (o : Option ℕ) → start_of nfa anchor ≡ o → found o ≡ Some h → IsLeastStart r text anchor b a h
      by_start None start_is told = none-is-some told
      by_start (Some q) start_is told =
          let l = once-some nfa range r runs sight text b a in_order within anchor false last q start_is (seen q) h (sym (found-once q) ∙ told) in
          record {
            from = l.from;
            to = l.to;
            means = l.means;
            longest = λ p i lo hi m. l.longest p i lo hi refl m;
            least = l.least;
          }
