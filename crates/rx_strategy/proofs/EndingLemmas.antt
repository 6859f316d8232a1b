-- Where each match ends with the span, the least start of a part up to its end is that of the next match.
use Rattle.std.proofs.Common.{◌≡◌, ℕ, ◌<◌, length, sym, ap, ◌∙◌, subst, arith, inl, inr}
use Rattle.std.specs.Prelude.{true, false, List, Option, Some, None, option_map, is_some, IfSome, IsSomeAnd, Result, Ok, Err, IfOk}
use Rattle.rx_model.specs.Meaning.{Means}
use Rattle.rx_model.specs.Search.{Anchor, free, anchored, is_permitted, Match, Patterns, slot_of}
use Rattle.rx_model.specs.Matches.{IsMatch, IsSought, IsStart, HasFirstRun}
use Rattle.rx_model.proofs.lemmas.matches.MatchLemmas.{next-is}
use Rattle.rx_model.proofs.lemmas.matches.WithinLemmas.{next-run, match-within, match-means, match-first, match-next, match-earliest}
use Rattle.rx_model.proofs.lemmas.meaning.CoverLemmas.{means-run}
use Rattle.rx_model.proofs.lemmas.runs.FirstLemmas.{tells}
use Rattle.rx_search.specs.Input.{InputValue, next_in}
use Rattle.rx_search.specs.Matches.{MatchValue, HalfMatchValue, match_value}
use Rattle.rx_search.specs.Told.{LiesIn, HalfLiesIn}
use Rattle.rx_search.specs.declared.anchored.MatchKind.{MatchKind}
use Rattle.rx_determinize.specs.Told.{MeansUpTo, IsLeastStartWhere}
use Rattle.rx_dfa.specs.Automaton.{Dfa}
use Rattle.rx_dfa.specs.Search.{IsReverseAnswer, IsAnswerFor, TellsStarts}
use Rattle.rx_dfa.proofs.lemmas.AnswerLemmas.{match-told, run-match}
use Rattle.rx_dfa.proofs.lemmas.WalkLemmas.{RunsTo}
use Rattle.rx_strategy.specs.Dfas.{pair_of, ArePair, IsPatternOf}
use Rattle.rx_strategy.specs.Ending.{EndsWithSpan, to_end}
use Rattle.rx_strategy.specs.declared.dfas.Dfas.{Dfas}

-- the input as it is searched backwards
abbrev pub from_end : InputValue → InputValue
from_end v = record v { anchor = anchored }

module _ (d : Dfa) (r : Patterns) (v : InputValue) (starts : TellsStarts d r) (ends : EndsWithSpan r v) (is_free : v.anchor ≡ free) where
  abbrev hay : List ℕ
  hay = v.haystack

  meaning : (m : Match) (is : IsMatch r hay v.anchor v.end v.start m) → Means r.terminator hay is.expression m.start m.trace.end
  meaning m is = match-means r hay v.anchor v.end v.start m is is.expression is.is_there (starts.ordered m.trace.pattern is.expression is.is_there)

  stops : (m : Match) → IsMatch r hay v.anchor v.end v.start m → m.trace.end ≡ v.end
  stops m is =
      let within = match-within r hay v.anchor v.end v.start m is in
      ends.ends m.trace.pattern is.expression is.is_there m.start m.trace.end within.0 within.2 (meaning m is)

  -- its pattern means the part from its start to the span's end
  meant : (m : Match) → IsMatch r hay v.anchor v.end v.start m → MeansUpTo r hay anchored v.end m.trace.pattern m.start
  meant m is = record {
    sought = tt;
    expression = is.expression;
    is = is.is_there;
    means = subst (λ j. Means r.terminator hay is.expression m.start j) (stops m is) (meaning m is);
  }

  may : (m : Match) → IsMatch r hay v.anchor v.end v.start m → is_permitted d.nfa.utf8 hay m.start ≡ true
  may m is = ap (λ u. is_permitted u hay m.start) (sym starts.utf8) ∙ is.start.1

  none-is : IsReverseAnswer d.nfa r (from_end v) None → (m : Match) → IsMatch r hay v.anchor v.end v.start m → ⊥
  none-is back m is =
      let within = match-within r hay v.anchor v.end v.start m is in
      let up = within.1 in
      let high = within.2 in
      back.none m.trace.pattern m.start within.0 (omega arith) (may m is) (meant m is)

  none-next : IsReverseAnswer d.nfa r (from_end v) None → next_in r v ≡ None
  none-next back =
      elim (tells (next_in r v)) [
        | inl none ↦ none
        | inr some ↦ absurd (none-is back some.0 (next-run r hay v.anchor v.end v.start some.0 some.1))
      ]

  module _ (s : HalfMatchValue) (back : IsReverseAnswer d.nfa r (from_end v) (Some s)) where
    up-to : MeansUpTo r hay anchored v.end s.pattern s.offset
    up-to = back.is_match.3

    -- a match starts there
    found : (n : Match) × IsMatch r hay v.anchor v.end v.start n × (n.trace.pattern ≡ s.pattern) × (n.start ≡ s.offset) × (n.trace.end ≡ v.end)
    found =
        let u = up-to in
        let run = means-run r.terminator hay v.end (slot_of r s.pattern) s.pattern u.expression (starts.ordered s.pattern u.expression u.is)
        s.offset v.end (omega arith) u.means in
        let x : RunsTo r hay v.end s.pattern u.expression s.offset = record { run = run.0; is = run.1; ends = run.2 } in
        run-match r hay v.anchor v.end v.start v.end (omega arith) s.pattern s.offset u.expression u.is x
        (subst (λ (a : Anchor). IsStart a v.end v.start s.offset) (sym is_free) (back.is_match.0, back.is_match.1))
        (ap (λ w. is_permitted w hay s.offset) starts.utf8 ∙ back.is_match.2)
        (subst (λ (a : Anchor). IsSought a s.pattern) (sym is_free) tt)

    found-value : match_value found.0 ≡ to_end v s
    found-value = λ k. record { pattern = found.2 k; start = found.3 k; end = found.4 k }

    some-next : (n : Match) × (next_in r v ≡ Some n)
    some-next =
        elim (tells (next_in r v)) [
          | inl none ↦ absurd (match-next r hay v.anchor v.end v.start found.0 found.1 none)
          | inr some ↦ some
        ]

    -- which is the next one, where not just any will do
    module _ (whole : v.earliest ≡ false) (n : Match) (next : next_in r v ≡ Some n) where
      least : IsLeastStartWhere r d.nfa.utf8 hay anchored v.end v.start s
      least = back.value whole

      is : IsMatch r hay v.anchor v.end v.start n
      is = next-run r hay v.anchor v.end v.start n next

      same-start : n.start ≡ s.offset
      same-start =
          let within = match-within r hay v.anchor v.end v.start n is in
          let mid = within.1 in
          let high = within.2 in
          let down = match-earliest r hay v.anchor v.end v.start found.0 found.1 n next in
          let place = found.3 in
          let up = least.longest n.trace.pattern n.start within.0 (omega arith) (may n is) (meant n is) in
          omega arith

      same-pattern : n.trace.pattern ≡ s.pattern
      same-pattern =
          let down = least.least n.trace.pattern (subst (λ i. MeansUpTo r hay anchored v.end n.trace.pattern i) same-start (meant n is)) in
          let first = match-first r hay v.anchor v.end v.start found.0 found.1 in
          let run : HasFirstRun r hay v.anchor v.end n.start found.0.trace.pattern first.0 =
          subst (λ i. HasFirstRun r hay v.anchor v.end i found.0.trace.pattern first.0) (found.3 ∙ sym same-start) first.1 in
          let up = (next-is r hay v.anchor v.end v.start n next).least_pattern found.0.trace.pattern first.0 run in
          let own = found.2 in
          omega arith

      next-value : to_end v s ≡ match_value n
      next-value = λ k. record { pattern = sym same-pattern k; start = sym same-start k; end = sym (stops n is) k }

  ending-some : (kind : MatchKind) (s : HalfMatchValue) → IsReverseAnswer d.nfa r (from_end v) (Some s) → IsAnswerFor kind r v match_value (Some (to_end v s))
  ending-some kind s back =
      let n = some-next s back in
      record {
        value = λ leftmost whole. ap Some (next-value s back whole n.0 n.1) ∙ sym (ap (option_map match_value) n.1);
        exists = sym (ap is_some n.1);
        is_match = ((found s back).0, (found s back).1, sym (found-value s back) ∙ sym (match-told r.which_captures (found s back).0));
      }

  pub ending-answer : (kind : MatchKind) (o : Option HalfMatchValue) → IsReverseAnswer d.nfa r (from_end v) o
      → IsAnswerFor kind r v match_value (option_map (to_end v) o)
  ending-answer kind None back = record {
    value = λ leftmost whole. sym (ap (option_map match_value) (none-next back));
    exists = sym (ap is_some (none-next back));
    is_match = tt;
  }
  ending-answer kind (Some s) back = ending-some kind s back

-- what is found lies in the span
pub ending-lies : (v : InputValue) (o : Option HalfMatchValue) → IfSome o (HalfLiesIn v) → IfSome (option_map (to_end v) o) (LiesIn v)
ending-lies v None lies = tt
ending-lies v (Some s) lies = (lies.0, omega arith)

-- and its pattern is in range
pub ending-range : (v : InputValue) (n : ℕ) (o : Option HalfMatchValue) → IfSome o (λ h. h.pattern < n)
    → IfSome (option_map (to_end v) o) (λ m. m.pattern < n)
ending-range v n None small = tt
ending-range v n (Some s) small = small

-- a pattern of the DFA that reads backwards is one of that which reads forwards
back-pattern : (pattern : ℕ) (pair : Option (Dfa × Dfa)) → IfSome pair ArePair → IsSomeAnd pair (λ both. pattern < length both.1.nfa.starts)
    → IsSomeAnd pair (λ both. pattern < length both.0.nfa.starts)
back-pattern pattern None paired small = small
back-pattern pattern (Some both) paired small = subst (λ n. pattern < n) paired.patterns small

pub back-patterns : {E : Type 0} (dfas : Dfas) (backward : Dfa) (forward : Dfa) → pair_of dfas ≡ Some (forward, backward) → IfSome (pair_of dfas) ArePair
    → (result : Result (Option MatchValue) E) → IfOk result (λ found. IfSome found (λ m. m.pattern < length backward.nfa.starts))
    → IfOk result (λ found. IfSome found (λ m. IsPatternOf dfas m.pattern))
back-patterns dfas backward forward same paired (Err e) small = tt
back-patterns dfas backward forward same paired (Ok None) small = tt
back-patterns dfas backward forward same paired (Ok (Some m)) small =
    back-pattern m.pattern (pair_of dfas) paired
    (subst (λ (o : Option (Dfa × Dfa)). IsSomeAnd o (λ both. m.pattern < length both.1.nfa.starts)) (sym same) small)
