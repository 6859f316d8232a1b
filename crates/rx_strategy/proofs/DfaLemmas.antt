-- What the DFAs of a core answer.
use Rattle.std.proofs.Common.{◌≡◌, ◌≢◌, ℕ, ◌+◌, ◌-◌, ◌<◌, ◌≤◌, max, List, length, refl, sym, ap, ◌∙◌, subst, arith, true≢false, inl, inr}
use Rattle.std.specs.Prelude.{true, false, Option, Some, None, option_map, is_some, IfSome, IsSomeAnd, Result, Ok, Err, IfOk, slice_get}
use Rattle.rx_model.specs.Expression.{Expression, alternation, AreOrdered}
use Rattle.rx_model.specs.Length.{minimum_len}
use Rattle.rx_model.specs.Meaning.{Means}
use Rattle.rx_model.specs.Runs.{nowhere}
use Rattle.rx_model.specs.Graph.{at}
use Rattle.rx_model.specs.Matches.{IsMatch, IsStart, IsSought, MayStart, part_of}
use Rattle.rx_model.specs.Search.{Patterns, WhichCaptures, Match, Anchor, free, anchored, anchored_to, told_of, is_anchored, slot_of, next_match}
use Rattle.rx_model.proofs.lemmas.matches.NarrowLemmas.{next-narrowed}
use Rattle.rx_model.proofs.lemmas.matches.WithinLemmas.{next-run, match-within, match-means, match-next, run-later, trace-later}
use Rattle.rx_model.proofs.lemmas.meaning.CoverLemmas.{means-run}
use Rattle.rx_model.proofs.lemmas.meaning.LengthLemmas.{means-long}
use Rattle.rx_model.proofs.lemmas.runs.FirstLemmas.{none-is-some, some-is}
use Rattle.rx_model.proofs.lemmas.runs.RiseLemmas.{mapped-some}
use Rattle.rx_search.specs.Input.{InputValue, next_in}
use Rattle.rx_search.specs.Matches.{MatchValue, HalfMatchValue, match_value, half_match_value}
use Rattle.rx_search.specs.Promise.{Premises}
use Rattle.rx_search.specs.Told.{IsMatchWith, HasSlots}
use Rattle.rx_search.specs.declared.anchored.MatchKind.{MatchKind}
use Rattle.rx_search.specs.declared.anchored.MatchKind.TheVariants.{LeftmostFirst}
use Rattle.rx_hir.specs.Length.{maximum_len}
use Rattle.rx_hir.specs.Normal.{expressions}
use Rattle.rx_hir.proofs.SpanLemmas.{means-short, saturated-some, in_64_bits-some}
use Rattle.rx_nfa.specs.Nfa.{Nfa, IsNfaOf, HasReverseRuns}
use Rattle.rx_dfa.specs.Automaton.{Dfa}
use Rattle.rx_dfa.specs.Search.{IsAnswerFor}
use Rattle.rx_dfa.proofs.lemmas.AnswerLemmas.{run-match}
use Rattle.rx_dfa.proofs.lemmas.WalkLemmas.{RunsTo}
use Rattle.rx_engines.specs.Needles.{BeginsEachRun}
use Rattle.rx_strategy.specs.Core.{CoreValue, IsCoreFor, IsToldFor}
use Rattle.rx_strategy.specs.Dfas.{pair_of, ArePair, AreLeftmost, IsPairOf, ServeNfa, IsSearchFor, SearchFor, HaveRoomIn, IsPatternOf}
use Rattle.rx_strategy.specs.Narrow.{narrowed, IsLenOf, of_len, BeginsWithSpan, from_start}
use Rattle.rx_strategy.specs.declared.dfas.Dfas.{Dfas}
use Rattle.rx_strategy.proofs.AnswerLemmas.{is_some-map, span-told, half-told}
use Rattle.rx_strategy.proofs.ImpossibleLemmas.{meant-among}

-- each run of an anchored search begins with a needle, since none is looked for
pub anchored-begins : (needles : Option (List (List ℕ))) (nfa : Nfa) (v : InputValue) → is_anchored v.anchor ≡ true → BeginsEachRun needles nfa v
anchored-begins None nfa v on = tt
anchored-begins (Some needles) nfa v on = λ off. absurd (true≢false (sym on ∙ off))

-- where no needle is looked for, less is asked
pub less-asked : {P : Type 0} (needles : Option (List (List ℕ))) (r : Patterns) (v : InputValue) → Premises P needles r v → Premises P None r v
less-asked needles r v p = record { is_for = p.is_for; begins = λ _. tt; utf8 = p.utf8 }

-- what the DFAs of a core are for
pub core-searches : (c : CoreValue) (dfas : Dfas) → ServeNfa c.nfa c.kind c.reverse dfas → (needles : Option (List (List ℕ))) (r : Patterns)
    (v : InputValue) → Premises (IsCoreFor c r) needles r v → SearchFor dfas needles c.kind r v
core-searches c dfas serve needles r v p = both-search (pair_of dfas) serve.paired serve.are
  where
    both-search : (o : Option (Dfa × Dfa)) → IfSome o ArePair → IfSome o (IsPairOf c.nfa c.kind c.reverse) → IfSome o (IsSearchFor needles c.kind r v)
    both-search None paired are = tt
    both-search (Some both) paired are = record {
      own_kind = are.forward_kind;
      premises = record {
        is_for = subst (λ (n : Nfa). IsNfaOf n r) (sym are.forward_nfa) p.is_for.nfa;
        begins = p.begins;
        utf8 = p.utf8;
      };
      starts = record {
        runs = subst (λ (o : Option Nfa). IfSome o (λ back. HasReverseRuns back r)) are.backward_nfa p.is_for.reverse;
        kind = paired.backward_kind;
        utf8 = p.is_for.nfa.utf8 ∙ sym (ap (λ (n : Nfa). n.utf8) are.forward_nfa) ∙ paired.utf8;
        ordered = p.is_for.ordered;
      };
    }

-- a leftmost-first core has leftmost-first DFAs
pub core-leftmost : (nfa : Nfa) (kind : MatchKind) (reverse : Option Nfa) (dfas : Dfas) → ServeNfa nfa kind reverse dfas → kind ≡ LeftmostFirst
    → AreLeftmost dfas
core-leftmost nfa kind reverse dfas serve is = both-leftmost (pair_of dfas) serve.are
  where
    both-leftmost : (o : Option (Dfa × Dfa)) → IfSome o (IsPairOf nfa kind reverse) → IfSome o (λ both. both.0.kind ≡ LeftmostFirst)
    both-leftmost None are = tt
    both-leftmost (Some both) are = are.forward_kind ∙ is

-- a set that has room for the patterns of the NFA has room for theirs
pub dfas-room : (nfa : Nfa) (kind : MatchKind) (reverse : Option Nfa) (dfas : Dfas) (size : ℕ) → ServeNfa nfa kind reverse dfas → length nfa.starts ≤ size
    → HaveRoomIn size dfas
dfas-room nfa kind reverse dfas size serve le = both-room (pair_of dfas) serve.are
  where
    both-room : (o : Option (Dfa × Dfa)) → IfSome o (IsPairOf nfa kind reverse) → IfSome o (λ both. length both.0.nfa.starts ≤ size)
    both-room None are = tt
    both-room (Some both) are = subst (λ (n : Nfa). length n.starts ≤ size) (sym are.forward_nfa) le

-- a pattern of theirs is one of the NFA
pattern-of : (nfa : Nfa) (kind : MatchKind) (reverse : Option Nfa) (pattern : ℕ) (pair : Option (Dfa × Dfa))
    → IsSomeAnd pair (λ both. pattern < length both.0.nfa.starts) → IfSome pair (IsPairOf nfa kind reverse) → pattern < length nfa.starts
pattern-of nfa kind reverse pattern None is are = absurd is
pattern-of nfa kind reverse pattern (Some both) is are = subst (λ (n : Nfa). pattern < length n.starts) are.forward_nfa is

module _ {T E : Type 0} (nfa : Nfa) (kind : MatchKind) (reverse : Option Nfa) (dfas : Dfas) (serve : ServeNfa nfa kind reverse dfas) (pattern : T → ℕ) where
  pub in-nfa : (result : Result (Option T) E) → IfOk result (λ found. IfSome found (λ x. IsPatternOf dfas (pattern x)))
      → IfOk result (λ found. IfSome found (λ x. pattern x < length nfa.starts))
  in-nfa (Err e) given = tt
  in-nfa (Ok None) given = tt
  in-nfa (Ok (Some x)) given = pattern-of nfa kind reverse (pattern x) (pair_of dfas) given serve.are

-- The part of the text that a match covers, searched anchored to its pattern.
abbrev covered_by : InputValue → Match → InputValue
covered_by v m = narrowed v (match_value m)

some-there : (o : Option Match) → o ≢ None → is_some o ≡ true
some-there None there = absurd (there refl)
some-there (Some m) there = refl

module _ (r : Patterns) (hay : List ℕ) (anchor : Anchor) (b a : ℕ) where
  -- it has a match
  covered : ((p : ℕ) (h : Expression) → slice_get r.expressions p ≡ Some h → AreOrdered h) → (m : Match) → IsMatch r hay anchor b a m
      → is_some (next_match r hay (anchored_to m.trace.pattern) m.trace.end m.start) ≡ true
  covered ordered m is =
      let p = m.trace.pattern in
      let e = m.trace.end in
      let h = is.expression in
      let own = ordered p h is.is_there in
      let low = (match-within r hay anchor b a m is).1 in
      let run = means-run r.terminator hay e (slot_of r p) p h own m.start e (omega arith) (match-means r hay anchor b a m is h is.is_there own) in
      let x : RunsTo r hay e p h m.start = record { run = run.0; is = run.1; ends = run.2 } in
      let n = run-match r hay (anchored_to p) e m.start e (omega arith) p m.start h is.is_there x (refl, low) is.start.1 refl in
      some-there (next_match r hay (anchored_to p) e m.start) (match-next r hay (anchored_to p) e m.start n.0 n.1)

  -- and each match of it is one of the whole span
  widened : (m : Match) → IsMatch r hay anchor b a m → (n : Match) → IsMatch r hay (anchored_to m.trace.pattern) m.trace.end m.start n
      → IsMatch r hay anchor b a n
  widened m is n part =
      let le = (match-within r hay anchor b a m is).2 in
      let own = part_of r n.trace.pattern part.expression in
      let c = at own.start n.start in
      record {
        start = subst (λ i. MayStart r hay anchor b a i) (sym part.start.0.0) is.start;
        sought = subst (λ q. IsSought anchor q) (sym part.sought) is.sought;
        expression = part.expression;
        is_there = part.is_there;
        run = part.run;
        accepting = run-later r.terminator hay own.states m.trace.end b le nowhere c part.run part.accepting;
        tells = part.tells ∙ trace-later r.terminator hay own.states m.trace.end b le nowhere c part.run part.accepting;
      }

widened-found : (r : Patterns) (v : InputValue) (m : Match) → IsMatch r v.haystack v.anchor v.end v.start m → (slots : List (Option ℕ))
    (found : Option MatchValue) → IfSome found (λ x. IsMatchWith r (covered_by v m) (λ n. (x ≡ match_value n) × HasSlots slots n))
    → IfSome found (λ x. IsMatchWith r v (λ n. (x ≡ match_value n) × HasSlots slots n))
widened-found r v m is slots None known = tt
widened-found r v m is slots (Some x) known = (known.0, widened r v.haystack v.anchor v.end v.start m is known.0 known.1, known.2)

-- an anchored search has one start
anchored-start : (anchor : Anchor) → is_anchored anchor ≡ true → (b a i : ℕ) → IsStart anchor b a i → i ≡ a
anchored-start free is b a i start = absurd (true≢false (sym is))
anchored-start anchored is b a i start = start.0
anchored-start (anchored_to p) is b a i start = start.0

-- What DFAs answer of a search for these patterns.
module _ (c : CoreValue) (v : InputValue) where
  -- where all matches have one length, a match is known by its end
  module _ (within : v.end ≤ length v.haystack) (r : Patterns) (of : IsCoreFor c r) (n : ℕ)
      (len : IsLenOf (alternation (expressions r.expressions)) n) where
    ends-after : (m : Match) → IsMatch r v.haystack v.anchor v.end v.start m → m.trace.end ≡ m.start + n
    ends-after m is =
        let h : Expression = alternation (expressions r.expressions) in
        let own =
        match-means r v.haystack v.anchor v.end v.start m is is.expression is.is_there (of.ordered m.trace.pattern is.expression is.is_there) in
        let means : Means r.terminator v.haystack h m.start m.trace.end =
        meant-among r.terminator v.haystack r.expressions m.trace.pattern is.expression is.is_there m.start m.trace.end own in
        let least = saturated-some (minimum_len h) n len.0 in
        let above : n ≤ least.0 = least.2 in
        let long = means-long r.terminator v.haystack h least.0 least.1 m.start m.trace.end means in
        let short = means-short r.terminator v.haystack h n (in_64_bits-some (maximum_len h) n len.1) m.start m.trace.end means in
        omega arith

    of-match : (m : Match) → IsMatch r v.haystack v.anchor v.end v.start m → of_len v n (half_match_value m) ≡ match_value m
    of-match m is =
        let ends = ends-after m is in
        let low = (match-within r v.haystack v.anchor v.end v.start m is).0 in
        let start : max v.start (m.trace.end - n) ≡ m.start = omega arith in
        λ k. record { pattern = m.trace.pattern; start = start k; end = m.trace.end }

    of-next : (next : Option Match) → next_in r v ≡ next → option_map (of_len v n) (option_map half_match_value next) ≡ option_map match_value next
    of-next None e = refl
    of-next (Some m) e = ap Some (of-match m (next-run r v.haystack v.anchor v.end v.start m e))

    of-found : (o : Option HalfMatchValue) → IfSome o (λ h. IsMatchWith r v (λ m. h ≡ half_match_value m))
        → IfSome (option_map (of_len v n) o) (λ x. IsMatchWith r v (λ m. x ≡ match_value m))
    of-found None is = tt
    of-found (Some h) is =
        let m = is.0 in
        let half : h ≡ half_match_value m = is.2 ∙ half-told r.which_captures m in
        (m, is.1, ap (of_len v n) half ∙ of-match m is.1 ∙ sym (span-told r.which_captures m))

    pub answers-of-len : (kind : MatchKind) (o : Option HalfMatchValue) → IsAnswerFor kind r v half_match_value o
        → IsAnswerFor kind r v match_value (option_map (of_len v n) o)
    answers-of-len kind o is = record {
      value = λ leftmost whole. ap (option_map (of_len v n)) (is.value leftmost whole) ∙ of-next (next_in r v) refl;
      exists = is_some-map (of_len v n) o ∙ is.exists;
      is_match = of-found o is.is_match;
    }

  -- where a match begins with the span, it is known by its end
  module _ (r : Patterns) (h : HalfMatchValue) (begins : BeginsWithSpan v h) where
    starts-there : (m : Match) → IsMatch r v.haystack v.anchor v.end v.start m → h ≡ half_match_value m → v.start ≡ m.start
    starts-there m is half = elim begins [
      | inl none-read ↦ (
          let offset : h.offset ≡ m.trace.end = ap (λ (x : HalfMatchValue). x.offset) half in
          let within = match-within r v.haystack v.anchor v.end v.start m is in
          omega arith)
      | inr one ↦ sym (anchored-start v.anchor one v.end v.start m.start is.start.0)
    ]

    begun : (m : Match) → IsMatch r v.haystack v.anchor v.end v.start m → h ≡ half_match_value m → from_start v h ≡ match_value m
    begun m is half =
        let start = starts-there m is half in
        λ k. record { pattern = (half k).pattern; start = start k; end = (half k).offset }

    begun-next : (next : Option Match) → next_in r v ≡ next → Some h ≡ option_map half_match_value next
        → Some (from_start v h) ≡ option_map match_value next
    begun-next None e is = none-is-some (sym is)
    begun-next (Some m) e is = ap Some (begun m (next-run r v.haystack v.anchor v.end v.start m e) (some-is is))

    pub answers-begun : (kind : MatchKind) → IsAnswerFor kind r v half_match_value (Some h) → IsAnswerFor kind r v match_value (Some (from_start v h))
    answers-begun kind is =
        let m = is.is_match.0 in
        let half : h ≡ half_match_value m = is.is_match.2 ∙ half-told r.which_captures m in
        record {
          value = λ leftmost whole. begun-next (next_in r v) refl (is.value leftmost whole);
          exists = is.exists;
          is_match = (m, is.is_match.1, begun m is.is_match.1 half ∙ sym (span-told r.which_captures m));
        }

  -- A search narrowed to a match that was found.
  module _ (r : Patterns) (of : IsCoreFor c r) (slots : List (Option ℕ)) (kind : MatchKind) where
    abbrev w : WhichCaptures
    w = r.which_captures

    -- where it is the next one, it is found again
    again : (f : MatchValue) → Some f ≡ option_map match_value (next_in r v) → next_in r (narrowed v f) ≡ next_in r v
    again f is =
        let m = mapped-some match_value (next_in r v) f (sym is) in
        subst (λ (x : MatchValue). next_in r (narrowed v x) ≡ Some m.0) m.2 (next-narrowed r v.haystack v.anchor v.end v.start m.0 m.1) ∙ sym m.1

    -- A search narrowed to any match finds a match, and to the next one that one.
    pub narrowed-told : (f : MatchValue) → IsAnswerFor kind r v match_value (Some f) → (found : Option MatchValue)
        → IsToldFor kind r (narrowed v f) slots found → IsToldFor kind r v slots found
    narrowed-told f is found part =
        let m = is.is_match.0 in
        let known : IsMatch r v.haystack v.anchor v.end v.start m = is.is_match.1 in
        let same : f ≡ match_value m = is.is_match.2 ∙ span-told w m in
        let own : IsToldFor kind r (covered_by v m) slots found = subst (λ (x : MatchValue). IsToldFor kind r (narrowed v x) slots found) same part in
        record {
          value = λ leftmost whole. part.value leftmost whole ∙ ap (option_map match_value) (again f (is.value leftmost whole));
          exists = own.exists ∙ covered r v.haystack v.anchor v.end v.start of.ordered m known ∙ is.exists;
          is_match = widened-found r v m known slots found own.is_match;
          slots = λ leftmost whole.
              subst (λ (o : Option Match). IfSome (option_map (told_of w) o) (HasSlots slots)) (again f (is.value leftmost whole)) (part.slots leftmost whole);
        }

    pub none-told : IsAnswerFor kind r v match_value None → IsToldFor kind r v slots None
    none-told is =
        let gone = none-there (next_in r v) is.exists in
        record {
          value = λ leftmost whole. is.value leftmost whole;
          exists = is.exists;
          is_match = tt;
          slots = λ leftmost whole. subst (λ (o : Option Match). IfSome (option_map (told_of w) o) (HasSlots slots)) (sym gone) tt;
        }
      where
        none-there : (o : Option Match) → false ≡ is_some o → o ≡ None
        none-there None e = refl
        none-there (Some m) e = absurd (true≢false (sym e))
