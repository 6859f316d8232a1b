-- The start of the next match is the least from where its pattern means a part up to its end.
use Rattle.std.proofs.Common.{◌≡◌, ℕ, ◌-◌, ◌≤◌, ◌<◌, List, length, refl, sym, ◌∙◌, ap, subst, inl, inr, arith}
use Rattle.std.specs.Prelude.{Bool, true, Option, Some, IsTrue, nat_lt, slice_get}
use Rattle.std.proofs.lemmas.Bool.Decides.{nat_tests}
use Rattle.rx_model.specs.Expression.{Expression, AreOrdered}
use Rattle.rx_model.specs.Meaning.{Means}
use Rattle.rx_model.specs.Runs.{Trace, everywhere}
use Rattle.rx_model.specs.Search.{free, anchored_to, Patterns, Match, is_permitted, first, next_match}
use Rattle.rx_model.specs.Matches.{HasFirstRun}
use Rattle.rx_model.specs.Utf8.{MeansUtf8}
use Rattle.rx_model.proofs.lemmas.runs.RunLemmas.{by_test}
use Rattle.rx_model.proofs.lemmas.runs.FirstLemmas.{tells}
use Rattle.rx_model.proofs.lemmas.graphs.GraphLemmas.{first-means}
use Rattle.rx_model.proofs.lemmas.graphs.SieveLemmas.{first-everywhere}
use Rattle.rx_model.proofs.lemmas.graphs.SievedLemmas.{by_trace, where-none}
use Rattle.rx_model.proofs.lemmas.matches.MatchLemmas.{next-is, next-within}
use Rattle.rx_model.proofs.lemmas.meaning.BoundaryLemmas.{part-permitted}
use Rattle.rx_search.specs.Matches.{HalfMatchValue}
use Rattle.rx_nfa.specs.Automaton.{backwards}
use Rattle.rx_nfa.specs.Nfa.{Nfa, IsInRange, HasReverseRuns}
use Rattle.rx_determinize.specs.Key.{Sight, Sees}
use Rattle.rx_determinize.specs.Told.{MeansUpTo, IsLeastStart, IsLeastStartWhere, reverse_answer_of}
use Rattle.rx_determinize.proofs.lemmas.ReverseLemmas.{least-some, least-none}

module _ (r : Patterns) (text : List ℕ) (ordered : (p : ℕ) (h : Expression) → slice_get r.expressions p ≡ Some h → AreOrdered h)
    (utf8 : r.utf8_empty ≡ true → MeansUtf8 r text) (b a : ℕ) (m : Match) (next : next_match r text free b a ≡ Some m) where
  abbrev p : ℕ
  p = m.trace.pattern

  abbrev e : ℕ
  e = m.trace.end

  -- a match may start where such a part begins
  permitted : (h : Expression) → slice_get r.expressions p ≡ Some h → (i : ℕ) → i < e → Means r.terminator text h i e
      → IsTrue (is_permitted r.utf8_empty text i)
  permitted h is i lt means =
      by_test r.utf8_empty
      (λ on. rw on (part-permitted text (utf8 on).whole i e lt ((utf8 on).parts p h is i e lt means)).0)
      (λ off. rw off refl)

  -- the pattern has a run there
  runs : (h : Expression) → slice_get r.expressions p ≡ Some h → (i : ℕ) → Means r.terminator text h i e → (t : Trace) × HasFirstRun r text free b i p t
  runs h is i means =
      let within = next-within r text free b a m next in
      by_trace (first r text b p h i)
      (λ none. absurd (where-none everywhere r text b p h i (ordered p h is) (first-everywhere r text b p h i ∙ none) e within.2 refl means))
      (λ t found. (t, (tt, (h, is, found))))

  pub starts : MeansUpTo r text (anchored_to p) e p m.start
  starts =
      let run = (next-is r text free b a m next).run in
      record {
        sought = refl;
        expression = run.1.0;
        is = run.1.1;
        means = first-means r text b p run.1.0 (ordered p run.1.0 run.1.1) m.start m.trace run.1.2;
      }

  pub no-earlier : (i : ℕ) → a ≤ i → i ≤ e → MeansUpTo r text (anchored_to p) e p i → m.start ≤ i
  no-earlier i low high u =
      let within = next-within r text free b a m next in
      by_test (nat_lt i m.start)
      (λ k.
      let lt : i < m.start = grind (arith, nat_tests) in
      let order = within.1 in
      let far = within.2 in
      let run = runs u.expression u.is i u.means in
      (next-is r text free b a m next).least_start i p run.0 ((low, omega arith), permitted u.expression u.is i (omega arith) u.means) run.1)
      (λ k. grind (arith, nat_tests))

  -- so it is the least of the starts that are permitted
  pub least-is : (utf8_empty : Bool) → r.utf8_empty ≡ utf8_empty → (h : HalfMatchValue) → IsLeastStartWhere r utf8_empty text (anchored_to p) e a h
      → h ≡ record { pattern = p; offset = m.start }
  least-is utf8_empty same h l =
      let pattern : h.pattern ≡ p = l.means.sought in
      let within = next-within r text free b a m next in
      let low = within.0 in
      let may : is_permitted utf8_empty text m.start ≡ true = ap (λ u. is_permitted u text m.start) (sym same) ∙ (next-is r text free b a m next).start.1 in
      let up = l.longest p m.start within.0 within.1 may starts in
      let down = no-earlier h.offset l.from l.to (subst (λ q. MeansUpTo r text (anchored_to p) e q h.offset) pattern l.means) in
      let place : h.offset ≡ m.start = omega arith in
      λ k. record { pattern = pattern k; offset = place k }

module _ (nfa : Nfa) (range : IsInRange nfa) (r : Patterns) (has_runs : HasReverseRuns nfa r) (sight : Sight) (text : List ℕ) (utf8 : MeansUtf8 r text)
    (b a : ℕ) (within : b ≤ length text)
    (m : Match) (next : next_match r text free b a ≡ Some m) (last : Option ℕ)
    (sees : Sees sight (backwards nfa.terminator text) (length text) nfa.states last (length text - a) (length text - m.trace.end)) where
  pub start-found : reverse_answer_of nfa sight text (anchored_to m.trace.pattern) last m.trace.end a
      ≡ Some (record { pattern = m.trace.pattern; offset = m.start })
  start-found =
      let order = lies in
      let low = order.0 in
      let mid = order.1 in
      let high = order.2 in
      let in_order : a ≤ m.trace.end = omega arith in
      let short : m.trace.end ≤ length text = omega arith in
      elim (tells answer) [
        | inl none ↦ absurd (least-none nfa range r has_runs sight text m.trace.end a in_order short (anchored_to m.trace.pattern) last sees none
            m.trace.pattern m.start lies.0 lies.1 begins)
        | inr some ↦ some.1
            ∙ ap Some
            (same some.0 (least-some nfa range r has_runs sight text m.trace.end a in_order short (anchored_to m.trace.pattern) last sees some.0 some.1))
      ]
    where
      answer : Option HalfMatchValue
      answer = reverse_answer_of nfa sight text (anchored_to m.trace.pattern) last m.trace.end a

      lies : (a ≤ m.start) × (m.start ≤ m.trace.end) × (m.trace.end ≤ b)
      lies = next-within r text free b a m next

      begins : MeansUpTo r text (anchored_to m.trace.pattern) m.trace.end m.trace.pattern m.start
      begins = starts r text utf8.ordered (λ on. utf8) b a m next

      same : (h : HalfMatchValue) → IsLeastStart r text (anchored_to m.trace.pattern) m.trace.end a h
          → h ≡ record { pattern = m.trace.pattern; offset = m.start }
      same h l =
          let pattern : h.pattern ≡ m.trace.pattern = l.means.sought in
          let up = l.longest m.trace.pattern m.start lies.0 lies.1 begins in
          let down = no-earlier r text utf8.ordered (λ on. utf8) b a m next h.offset l.from l.to
          (subst (λ p. MeansUpTo r text (anchored_to m.trace.pattern) m.trace.end p h.offset) pattern l.means) in
          let place : h.offset ≡ m.start = omega arith in
          λ k. record { pattern = pattern k; offset = place k }
