-- The end of a match and its start make a match.
use Rattle.std.proofs.Common.{◌≡◌, ℕ, ◌≤◌, refl, sym, ◌∙◌, ap, subst, arith, true≢false}
use Rattle.std.specs.Prelude.{true, false, Option, Some, None, option_map, slice_get}
use Rattle.rx_model.specs.Search.{Anchor, free, anchored, anchored_to, is_anchored, is_permitted, Match, Patterns, WhichCaptures, slot_of, next_match}
use Rattle.rx_model.specs.Utf8.{MeansUtf8}
use Rattle.rx_model.specs.Matches.{IsMatch, IsSought}
use Rattle.rx_model.specs.Meaning.{Means}
use Rattle.rx_model.proofs.lemmas.runs.FirstLemmas.{none-is-some}
use Rattle.rx_model.proofs.lemmas.runs.RiseLemmas.{mapped-some}
use Rattle.rx_model.proofs.lemmas.matches.MatchLemmas.{next-is}
use Rattle.rx_model.proofs.lemmas.matches.WithinLemmas.{match-within, match-means}
use Rattle.rx_model.proofs.lemmas.meaning.CoverLemmas.{means-run}
use Rattle.rx_search.specs.Input.{InputValue, next_in}
use Rattle.rx_search.specs.Matches.{MatchValue, HalfMatchValue, match_value, half_match_value}
use Rattle.rx_search.specs.Told.{IsMatchWith}
use Rattle.rx_search.specs.declared.anchored.MatchKind.{MatchKind}
use Rattle.rx_search.specs.declared.anchored.MatchKind.TheVariants.{LeftmostFirst}
use Rattle.rx_search.specs.declared.match_error.MatchError.{MatchError}
use Rattle.rx_search.specs.declared.match_error.MatchError.TheVariants.{Quit, GaveUp, HaystackTooLong, UnsupportedAnchored, Memory}
use Rattle.rx_nfa.specs.Nfa.{Nfa}
use Rattle.rx_determinize.specs.Told.{MeansUpTo, IsLeastStartWhere}
use Rattle.rx_determinize.proofs.lemmas.StartLemmas.{least-is}
use Rattle.rx_dfa.specs.Automaton.{Dfa}
use Rattle.rx_dfa.specs.Search.{SearchFails, IsReverseAnswer, IsAnswerFor, TellsStarts, part_of}
use Rattle.rx_dfa.proofs.lemmas.WalkLemmas.{RunsTo}
use Rattle.rx_dfa.proofs.lemmas.AnswerLemmas.{half-told, match-told, start-in, starts-at, run-match}

-- the span from this start to the end, with the pattern that ends there
abbrev pub ended_from : ℕ → HalfMatchValue → MatchValue
ended_from start h = record { pattern = h.pattern; start = start; end = h.offset }

-- An end that was found, as that of a match.
module _ (kind : MatchKind) (r : Patterns) (v : InputValue) (h : HalfMatchValue) (f : IsAnswerFor kind r v half_match_value (Some h)) where
  abbrev which : WhichCaptures
  which = r.which_captures

  abbrev m : Match
  m = f.is_match.0

  is : IsMatch r v.haystack v.anchor v.end v.start m
  is = f.is_match.1

  half-is : half_match_value m ≡ h
  half-is = sym (f.is_match.2 ∙ half-told which m)

  pattern-is : m.trace.pattern ≡ h.pattern
  pattern-is = ap (λ (x : HalfMatchValue). x.pattern) half-is

  offset-is : m.trace.end ≡ h.offset
  offset-is = ap (λ (x : HalfMatchValue). x.offset) half-is

  -- the next match ends there, where not just any match will do
  next-ended : kind ≡ LeftmostFirst → v.earliest ≡ false → (n : Match) × (next_in r v ≡ Some n) × (half_match_value n ≡ h)
  next-ended leftmost whole = mapped-some half_match_value (next_in r v) h (sym (f.value leftmost whole))

  told-span : (start : ℕ) (n : Match) → IsMatch r v.haystack v.anchor v.end v.start n → match_value n ≡ ended_from start h
      → IsMatchWith r v (λ x. ended_from start h ≡ match_value x)
  told-span start n match same = (n, match, sym same ∙ sym (match-told which n))

  -- where the search is anchored
  pub anchored-answer : is_anchored v.anchor ≡ true → IsAnswerFor kind r v match_value (Some (ended_from v.start h))
  anchored-answer on =
      let begins : m.start ≡ v.start = starts-at v.anchor v.end v.start m.start on is.start.0 in
      record {
        value = λ leftmost whole.
            let n = next-ended leftmost whole in
            let start : n.0.start ≡ v.start = starts-at v.anchor v.end v.start n.0.start on (next-is r v.haystack v.anchor v.end v.start n.0 n.1).start.0 in
            sym (ap (option_map match_value) n.1
            ∙ (λ k. Some (record { pattern = (n.2 k).pattern; start = start k; end = (n.2 k).offset })));
        exists = f.exists;
        is_match = told-span v.start m is (λ k. record { pattern = pattern-is k; start = begins k; end = offset-is k });
      }

  -- where it may start anywhere
  module _ (d : Dfa) (starts : TellsStarts d r) (utf8 : r.utf8_empty ≡ true → MeansUtf8 r v.haystack) (is_free : v.anchor ≡ free) where
    -- the pattern means a part up to the end
    meant : MeansUpTo r v.haystack (anchored_to h.pattern) h.offset h.pattern m.start
    meant = record {
      sought = refl;
      expression = is.expression;
      is = ap (λ p. slice_get r.expressions p) (sym pattern-is) ∙ is.is_there;
      means = subst (λ j. Means r.terminator v.haystack is.expression m.start j) offset-is
          (match-means r v.haystack v.anchor v.end v.start m is is.expression is.is_there (starts.ordered m.trace.pattern is.expression is.is_there));
    }

    -- so its start is found
    pub never-none : IsReverseAnswer d.nfa r (part_of v h) None → ⊥
    never-none back =
        let within = match-within r v.haystack v.anchor v.end v.start m is in
        let mid = within.1 in
        let offset = offset-is in
        back.none h.pattern m.start within.0 (omega arith) (ap (λ u. is_permitted u v.haystack m.start) (sym starts.utf8) ∙ is.start.1) meant

    module _ (within : h.offset ≤ v.end) (s : HalfMatchValue) (back : IsReverseAnswer d.nfa r (part_of v h) (Some s)) where
      least : IsLeastStartWhere r d.nfa.utf8 v.haystack (anchored_to h.pattern) h.offset v.start s
      least = back.value refl

      own : s.pattern ≡ h.pattern
      own = least.means.sought

      -- a match from there
      found-match : (n : Match) × IsMatch r v.haystack v.anchor v.end v.start n × (match_value n ≡ ended_from s.offset h)
      found-match =
          let u = least.means in
          let to = least.to in
          let run = means-run r.terminator v.haystack h.offset (slot_of r s.pattern) s.pattern u.expression (starts.ordered s.pattern u.expression u.is)
          s.offset h.offset (omega arith) u.means in
          let x : RunsTo r v.haystack h.offset s.pattern u.expression s.offset = record { run = run.0; is = run.1; ends = run.2 } in
          let begins = start-in v.anchor v.end v.start s.offset least.from (omega arith) (λ on. absurd (true≢false (sym on ∙ ap is_anchored is_free))) in
          let n = run-match r v.haystack v.anchor v.end v.start h.offset within s.pattern s.offset u.expression u.is x begins
          (ap (λ w. is_permitted w v.haystack s.offset) starts.utf8 ∙ least.starts)
          (subst (λ a. IsSought a s.pattern) (sym is_free) tt) in
          (n.0, n.1, (λ k. record { pattern = (n.2 ∙ own) k; start = n.3 k; end = n.4 k }))

      pub free-answer : IsAnswerFor kind r v match_value (Some (ended_from s.offset h))
      free-answer = record {
        value = λ leftmost whole.
            let n = next-ended leftmost whole in
            let next_free = ap (λ a. next_match r v.haystack a v.end v.start) (sym is_free) ∙ n.1 in
            let same : s ≡ record { pattern = n.0.trace.pattern; offset = n.0.start } =
            least-is r v.haystack starts.ordered utf8 v.end v.start n.0 next_free d.nfa.utf8 starts.utf8 s
            (subst (λ (x : HalfMatchValue). IsLeastStartWhere r d.nfa.utf8 v.haystack (anchored_to x.pattern) x.offset v.start s) (sym n.2) least) in
            sym (ap (option_map match_value) n.1
            ∙ (λ k. Some (record { pattern = (n.2 k).pattern; start = (sym same k).offset; end = (n.2 k).offset })));
        exists = f.exists;
        is_match = told-span s.offset found-match.0 found-match.1 found-match.2;
      }

-- where no end is found, there is no match
pub none-answer : (kind : MatchKind) (r : Patterns) (v : InputValue) → IsAnswerFor kind r v half_match_value None → IsAnswerFor kind r v match_value None
none-answer kind r v f = record {
  value = λ leftmost whole. gone (next_in r v) (f.value leftmost whole);
  exists = f.exists;
  is_match = tt;
}
  where
    gone : (o : Option Match) → None ≡ option_map half_match_value o → None ≡ option_map match_value o
    gone None e = refl
    gone (Some n) e = none-is-some e

pub not-anchored : (anchor : Anchor) → is_anchored anchor ≡ false → anchor ≡ free
not-anchored free off = refl
not-anchored anchored off = absurd (true≢false off)
not-anchored (anchored_to q) off = absurd (true≢false off)

-- the search for the start fails as one of the whole span does
pub part-fails : (nfa : Nfa) (v : InputValue) (h : HalfMatchValue) (gives_up wants : Type 0) (e : MatchError) → h.offset ≤ v.end
    → SearchFails nfa (part_of v h) gives_up wants e → SearchFails nfa v gives_up wants e
part-fails nfa v h gives_up wants (Quit byte offset) le f = let high = f.1 in (f.0, omega arith, f.2, f.3)
part-fails nfa v h gives_up wants (GaveUp offset) le f = let high = f.1 in (f.0, omega arith, f.2)
part-fails nfa v h gives_up wants (HaystackTooLong len) le f = f
part-fails nfa v h gives_up wants (UnsupportedAnchored mode) le f = f
part-fails nfa v h gives_up wants Memory le f = f
