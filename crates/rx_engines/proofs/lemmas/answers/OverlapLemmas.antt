-- What the search for one pattern alone finds are its matches.
use Rattle.std.proofs.Common.{◌≡◌, ◌≢◌, ℕ, ◌+◌, ◌≤◌, ◌<◌, List, length, get_or, set, refl, sym, ◌∙◌, ap, subst, inl, inr, arith, true≢false}
use Rattle.std.proofs.lemmas.Bool.Decides.{nat_tests}
use Rattle.std.proofs.lemmas.List.{get_or-set_same, get_or-set_other, length-set}
use Rattle.std.proofs.lemmas.List.Elements.{All-get_or}
use Rattle.std.proofs.lemmas.Option.{get_or_from_slice_get, slice_get-get_or, slice_get_within, slice_get_cases}
use Rattle.std.specs.Prelude.{◌↔◌, Bool, true, false, ◌==◌, Option, Some, None, option_map, is_some, IfSome, IsSome, IsTrue, MatchOption, slice_get, slice_index, nat_le}
use Rattle.rx_model.specs.Expression.{Expression}
use Rattle.rx_model.specs.Runs.{Trace, nowhere, trace, first_past, first_trace}
use Rattle.rx_model.specs.Graph.{at}
use Rattle.rx_model.specs.Search.{Patterns, WhichCaptures, all as every_group, implicit as whole_groups, none as no_groups, told, told_of, Anchor, free, anchored, anchored_to, is_anchored, is_permitted, first, first_of_patterns, first_start, starts, next_match, Match}
use Rattle.rx_model.specs.Matches.{MayStart, IsSought, HasFirstRun, IsMatch, part_of, runs_of_pattern}
use Rattle.rx_model.proofs.lemmas.runs.RunLemmas.{by_test, map-none}
use Rattle.rx_model.proofs.lemmas.runs.FirstLemmas.{none-is-some, some-is, tells, found-is_run}
use Rattle.rx_model.proofs.lemmas.runs.RiseLemmas.{mapped-some}
use Rattle.rx_model.proofs.lemmas.graphs.GraphLemmas.{runs_of-bounded, first-pattern}
use Rattle.rx_model.proofs.lemmas.matches.MatchLemmas.{first_of_patterns-none, first_start-some, first_start-none, within-IsStart, IsStart-within}
use Rattle.rx_model.proofs.lemmas.matches.WithinLemmas.{match-first, match-next, next-run}
use Rattle.rx_search.specs.Input.{InputValue, next_in}
use Rattle.rx_search.specs.Matches.{MatchValue, match_value}
use Rattle.rx_search.specs.PatternSet.{has}
use Rattle.rx_search.specs.Told.{IsMatchWith}
use Rattle.rx_search.specs.declared.anchored.MatchKind.{MatchKind}
use Rattle.rx_search.specs.declared.anchored.MatchKind.TheVariants.{All}
use Rattle.rx_nfa.specs.Automaton as nfa_runs
use Rattle.rx_nfa.specs.Nfa.{Nfa, IsInRange, HasFirstRuns, IsNfaOf}
use Rattle.rx_nfa.specs.NextMatch.{start_of, first_from, next_match_of, next_match_in}
use Rattle.rx_nfa.proofs.lemmas.runs.PatternLemmas.{HasRuns-first}
use Rattle.rx_engines.specs.Candidates.{AreOf}
use Rattle.rx_engines.specs.Engine.{PikeVMValue, IsSearchOf, HasNoMatch, answer_in}
use Rattle.rx_engines.specs.Needles.{BeginsEachRun}
use Rattle.rx_engines.specs.Overlap.{of_pattern}
use Rattle.rx_engines.specs.Search.{OffersAll, PassesNoRun, graph_until}
use Rattle.rx_search.specs.Sets.{MatchesIn, KeepsMembers, GainsMatching, IsFilledFor}
use Rattle.rx_engines.specs.declared.candidates.Candidates.{Candidates}
use Rattle.rx_engines.specs.declared.search.Search.{Search}
use Rattle.rx_engines.proofs.lemmas.candidates.CandidateLemmas.{passes-no_run}
use Rattle.rx_engines.proofs.lemmas.answers.EngineLemmas.{patterns-agree}

-- a first run from where a match may start is a match
pub run-is_match : (r : Patterns) (hay : List ℕ) (anchor : Anchor) (b a i p : ℕ) (t : Trace) → MayStart r hay anchor b a i
    → HasFirstRun r hay anchor b i p t → IsMatch r hay anchor b a (record { start = i; trace = t })
unfolding first
run-is_match r hay anchor b a i p t may run =
    let h = run.1.0 in
    let same : t.pattern ≡ p = first-pattern r hay b p h i t run.1.2 in
    let own : HasFirstRun r hay anchor b i t.pattern t = subst (λ q. HasFirstRun r hay anchor b i q t) (sym same) run in
    let h' = own.1.0 in
    let graph = runs_of_pattern r hay b t.pattern h' in
    let c = at (part_of r t.pattern h').start i in
    let x = mapped-some (trace graph c) (first_past graph nowhere c) t own.1.2 in
    record {
      start = may;
      sought = own.0;
      expression = h';
      is_there = own.1.1;
      run = x.0;
      accepting = found-is_run graph (runs_of-bounded r.terminator hay b (part_of r t.pattern h').states) x.0 nowhere c x.1;
      tells = sym x.2;
    }

-- so a pattern that has a first run from where a match may start has a match, and the other way round
module _ (r : Patterns) (v : InputValue) where
  abbrev pub HasRun : (p : ℕ) → Type 0
  HasRun p = (i : ℕ) × (t : Trace) × MayStart r v.haystack v.anchor v.end v.start i × HasFirstRun r v.haystack v.anchor v.end i p t

  pub run-matches : (p : ℕ) → HasRun p → MatchesIn r v p
  run-matches p run =
      let i = run.0 in
      let t = run.1 in
      let first = run.3 in (
        record { start = i; trace = t },
        run-is_match r v.haystack v.anchor v.end v.start i p t run.2 first,
        first-pattern r v.haystack v.end p first.1.0 i t first.1.2,
      )

  pub matches-run : (p : ℕ) → MatchesIn r v p → HasRun p
  matches-run p m =
      let x = match-first r v.haystack v.anchor v.end v.start m.0 m.1 in
      subst HasRun m.2 (m.0.start, x.0, m.1.start, x.1)

  -- where there is no next match no pattern has one
  pub none-matches : (p : ℕ) → next_in r v ≡ None → MatchesIn r v p → ⊥
  none-matches p none m = match-next r v.haystack v.anchor v.end v.start m.0 m.1 none

  -- the next match is one of its pattern
  pub next-matches : (m : Match) → next_in r v ≡ Some m → MatchesIn r v m.trace.pattern
  next-matches m e = (m, next-run r v.haystack v.anchor v.end v.start m e, refl)

  -- a pattern that is not sought has none
  pub sought-matches : (p : ℕ) → MatchesIn r v p → IsSought v.anchor p
  sought-matches p m = subst (IsSought v.anchor) m.2 m.1.sought

  -- a pattern that has one is there
  pub matches-there : (p : ℕ) → MatchesIn r v p → p < length r.expressions
  matches-there p m =
      let lt = slice_get_within r.expressions m.0.trace.pattern m.1.expression m.1.is_there in
      let same = m.2 in
      omega arith

-- the NFA of one pattern

pub range-pattern : (nfa : Nfa) (p : ℕ) → p < length nfa.starts → IsInRange nfa → IsInRange (of_pattern nfa p)
range-pattern nfa p lt range = record {
  start_anchored = All-get_or (λ q. q < length nfa.states) nfa.starts p 0 lt range.starts;
  starts = range.starts;
  names = range.names;
  within = range.within;
  slots = range.slots;
  own = range.own;
  once = range.once;
  sorted = range.sorted;
  looks = range.looks;
  classes = range.classes;
  few_states = range.few_states;
  few_patterns = range.few_patterns;
  few_accounted = range.few_accounted;
}

-- its runs start where the pattern's do, whatever the search is anchored to
pub sought-start : (nfa : Nfa) (p : ℕ) → p < length nfa.starts → (a : Anchor) → IsSought a p → start_of (of_pattern nfa p) a ≡ Some (slice_index nfa.starts p)
sought-start nfa p lt free sought = refl
sought-start nfa p lt anchored sought = refl
sought-start nfa p lt (anchored_to q) sought =
    ap (slice_get nfa.starts) (sym sought) ∙ slice_get-get_or nfa.starts p 0 lt

pub sought-at : (nfa : Nfa) (p q : ℕ) → slice_get nfa.starts p ≡ Some q → (a : Anchor) → IsSought a p → start_of (of_pattern nfa p) a ≡ Some q
sought-at nfa p q is free sought = ap Some (get_or_from_slice_get nfa.starts p q 0 is)
sought-at nfa p q is anchored sought = ap Some (get_or_from_slice_get nfa.starts p q 0 is)
sought-at nfa p q is (anchored_to k) sought = ap (slice_get nfa.starts) (sym sought) ∙ is

pub slice_get-read : (xs ys : List ℕ) (p n q : ℕ) → p < length ys → xs ≡ ys → n ≡ p → q ≡ get_or xs n q → slice_get ys p ≡ Some q
slice_get-read xs ys p n q lt same at_p is = slice_get-get_or ys p q lt ∙ ap Some (sym (is ∙ (λ i. get_or (same i) (at_p i) q)))

told-none : (which : WhichCaptures) (o : Option Trace) → o ≡ None → option_map (told which) o ≡ None
told-none which o e = ap (option_map (told which)) e

module _ (nfa : Nfa) (r : Patterns) (is : IsNfaOf nfa r) (text : List ℕ) (end : ℕ) (within : end ≤ length text) (p : ℕ) (h : Expression)
    (there : slice_get r.expressions p ≡ Some h) where
  runs : HasFirstRuns nfa r
  runs = HasRuns-first nfa r is.runs

  abbrev from_own : ℕ → Option Trace
  from_own i = first_trace (nfa_runs.automaton nfa.terminator nfa.states text end) (at (slice_index nfa.starts p) i)

  -- where no run starts from the common start none starts from its own
  pub none-own : (i : ℕ) → first_trace (nfa_runs.automaton nfa.terminator nfa.states text end) (at nfa.start_anchored i) ≡ None → from_own i ≡ None
  none-own i none =
      let no_more : 0 + p ≡ p = omega arith in
      let common = map-none (told r.which_captures) (first_of_patterns r text end 0 r.expressions i) (sym (runs.all text end i within) ∙ none) in
      runs.each text end p i h within there
      ∙ told-none r.which_captures (first r text end p h i)
      (ap (λ q. first r text end q h i) (sym no_more) ∙ first_of_patterns-none r text end i 0 r.expressions common p h there)

  pub own-first : (i : ℕ) (t : Trace) → from_own i ≡ Some t → (u : Trace) × (first r text end p h i ≡ Some u)
  own-first i t e =
      let x = mapped-some (told r.which_captures) (first r text end p h i) t (sym (runs.each text end p i h within there) ∙ e) in
      (x.0, x.1)

  pub first-own : (i : ℕ) (u : Trace) → first r text end p h i ≡ Some u → from_own i ≡ Some (told r.which_captures u)
  first-own i u e = runs.each text end p i h within there ∙ ap (option_map (told r.which_captures)) e

-- the search for one pattern
module _ (nfa : Nfa) (r : Patterns) (is : IsNfaOf nfa r) (v : InputValue) (spanned : v.end ≤ length v.haystack) (p : ℕ) (lt : p < length nfa.starts)
    (sought : IsSought v.anchor p) where
  expression : (h : Expression) × (slice_get r.expressions p ≡ Some h)
  expression =
      elim (slice_get_cases r.expressions p).1 [
        | inl there ↦ (there.0, there.2)
        | inr past ↦ let le = past.0 in let same = is.runs.patterns in absurd (omega arith)
      ]

  abbrev from_start : ℕ → Option Trace
  from_start i = first_from nfa.terminator nfa.states v.haystack v.end (start_of (of_pattern nfa p) v.anchor) i

  from-own : (i : ℕ) → from_start i ≡ first_trace (nfa_runs.automaton nfa.terminator nfa.states v.haystack v.end) (at (slice_index nfa.starts p) i)
  from-own i = ap (λ q. first_from nfa.terminator nfa.states v.haystack v.end q i) (sought-start nfa p lt v.anchor sought)

  -- what it finds is a match of the pattern
  pub found-matches : (m : Match) → next_match_in (of_pattern nfa p) v ≡ Some m → MatchesIn r v p
  unfolding next_match_of
  found-matches m e =
      let x = first_start-some (is_permitted nfa.utf8 v.haystack) from_start (starts v.anchor v.start v.end) v.start m e in
      let h = expression in
      let u = own-first nfa r is v.haystack v.end spanned p h.0 h.1 m.start m.trace (sym (from-own m.start) ∙ x.told) in
      let permitted : IsTrue (is_permitted r.utf8_empty v.haystack m.start) =
      subst (λ b. IsTrue (is_permitted b v.haystack m.start)) (sym is.utf8) x.allowed in
      run-matches r v p (
        m.start,
        u.0,
        (within-IsStart v.anchor v.end v.start m.start x.within.0 x.within.1, permitted),
        (sought, (h.0, h.1, u.1)),
      )

  -- where it finds none there is none
  pub unfound-matches : next_match_in (of_pattern nfa p) v ≡ None → MatchesIn r v p → ⊥
  unfolding next_match_of
  unfound-matches none m =
      let x = matches-run r v p m in
      let i = x.0 in
      let may = x.2 in
      let run = x.3 in
      let place = IsStart-within v.anchor v.end v.start i may.0 in
      let permitted : IsTrue (is_permitted nfa.utf8 v.haystack i) = subst (λ b. IsTrue (is_permitted b v.haystack i)) is.utf8 may.1 in
      none-is-some
      (sym (first_start-none (is_permitted nfa.utf8 v.haystack) from_start (starts v.anchor v.start v.end) v.start none i place.0 place.1 permitted)
      ∙ from-own i ∙ first-own nfa r is v.haystack v.end spanned p run.1.0 run.1.1 i x.1 run.1.2)

  pub found-is : (found : Bool) → found ≡ is_some (next_match_in (of_pattern nfa p) v) → IsTrue found ↔ MatchesIn r v p
  found-is found e =
      elim (tells (next_match_in (of_pattern nfa p) v)) [
        | inl none ↦ (λ some. absurd (true≢false (sym some ∙ e ∙ ap is_some none)), λ m. absurd (unfound-matches none m))
        | inr some ↦ (λ _. found-matches some.0 some.1, λ _. e ∙ ap is_some some.1)
      ]

  -- no run of the pattern starts at a place that is not offered
  module _ (s : Search) (of : IsSearchOf (of_pattern nfa p) v s) (known : Candidates) (is_known : s.candidates.now ≡ known) (are : AreOf nfa known) where
    offers-anchored : is_anchored v.anchor ≡ true → (offered : ℕ → Bool) → OffersAll s offered → PassesNoRun offered s
    offers-anchored a offered offers end i le low high not_offered =
        let bound : s.free ≡ false = of.free ∙ (rw a refl) in
        absurd (true≢false (sym (offers i (rw bound refl) (rw bound refl)) ∙ not_offered))

    offers-free : v.anchor ≡ free → {pre : Option (List (List ℕ))} → known.needles ≡ pre → BeginsEachRun pre nfa v → (offered : ℕ → Bool)
        → OffersAll s offered → PassesNoRun offered s
    offers-free unanchored pre_is begins offered offers end i le low high not_offered =
        let common : Search = record s { start = nfa.start_anchored } in
        let of_common : IsSearchOf nfa v common = record {
          states = of.states;
          start = ap (start_of nfa) unanchored;
          text = of.text;
          matcher = of.matcher;
          utf8 = of.utf8;
          free = of.free;
          first = of.first;
          last = of.last;
          end = of.end;
          slots = of.slots;
          in_order = of.in_order;
        } in
        let none = passes-no_run nfa v common of_common spanned known is_known are pre_is begins offered offers end i le low high not_offered in
        let own : slice_index nfa.starts p ≡ s.start = some-is (ap (start_of (of_pattern nfa p)) (sym unanchored) ∙ of.start) in
        let h = expression in
        let until = of.end in
        (λ j. first_trace (nfa_runs.automaton (of.matcher j) (of.states j) (of.text j) end) (at (sym own j) i))
        ∙ none-own nfa r is v.haystack end (omega arith) p h.0 h.1 i
        ((λ j. first_trace (nfa_runs.automaton (sym of.matcher j) (sym of.states j) (sym of.text j) end) (at nfa.start_anchored i)) ∙ none)

    pub passes-pattern : {pre : Option (List (List ℕ))} → known.needles ≡ pre → BeginsEachRun pre nfa v → (offered : ℕ → Bool) → OffersAll s offered
        → PassesNoRun offered s
    passes-pattern pre_is begins offered offers = by_anchor v.anchor refl
      where
        by_anchor : (a : Anchor) → v.anchor ≡ a → PassesNoRun offered s
        by_anchor free e = offers-free e pre_is begins offered offers
        by_anchor anchored e = offers-anchored (ap is_anchored e) offered offers
        by_anchor (anchored_to q) e = offers-anchored (ap is_anchored e) offered offers

-- Patterns that are put into a set.

pub set-kept : (old : List Bool) (p q : ℕ) → p < length old → has old q ≡ true → has (set old p true) q ≡ true
set-kept old p q lt there =
    by_test (q == p)
    (λ e. let same : q ≡ p = grind (arith, nat_tests) in ap (has (set old p true)) same ∙ get_or-set_same old p true false lt)
    (λ e. let differ : q ≢ p = λ same. absurd (grind (arith, nat_tests)) in get_or-set_other old p q true false differ ∙ there)

pub set-there : (old : List Bool) (p : ℕ) → p < length old → has (set old p true) p ≡ true
set-there old p lt = get_or-set_same old p true false lt

pub set-gains : (old : List Bool) (p q : ℕ) → has old q ≡ false → has (set old p true) q ≡ true → q ≡ p
set-gains old p q missing there =
    by_test (q == p)
    (λ e. grind (arith, nat_tests))
    (λ e.
    let differ : q ≢ p = λ same. absurd (grind (arith, nat_tests)) in
    absurd (true≢false (sym there ∙ get_or-set_other old p q true false differ ∙ missing)))

pub keeps-same : (old : List Bool) → KeepsMembers old old
keeps-same old = record { room = refl; kept = λ p e. e }

pub keeps-set : (old : List Bool) (p : ℕ) → p < length old → KeepsMembers old (set old p true)
keeps-set old p lt = record { room = length-set old p true; kept = λ q e. set-kept old p q lt e }

pub keeps-twice : (a b c : List Bool) → KeepsMembers a b → KeepsMembers b c → KeepsMembers a c
keeps-twice a b c one two = record { room = two.room ∙ one.room; kept = λ p e. two.kept p (one.kept p e) }

pub gains-same : (r : Patterns) (v : InputValue) (old : List Bool) → GainsMatching r v old old
gains-same r v old p missing there = absurd (true≢false (sym there ∙ missing))

pub gains-set : (r : Patterns) (v : InputValue) (old : List Bool) (p : ℕ) → MatchesIn r v p → GainsMatching r v old (set old p true)
gains-set r v old p m q missing there = subst (MatchesIn r v) (sym (set-gains old p q missing there)) m

pub gains-twice : (r : Patterns) (v : InputValue) (a b c : List Bool) → GainsMatching r v a b → GainsMatching r v b c → GainsMatching r v a c
gains-twice r v a b c one two p missing there =
    by_test (has b p)
    (λ e. one p missing e)
    (λ e. two p e there)

-- each pattern that has a match is there, so the set is filled
pub filled-all : (r : Patterns) (v : InputValue) (old new : List Bool) (kind : MatchKind) → ((p : ℕ) → MatchesIn r v p → has new p ≡ true)
    → IsFilledFor r v old new kind
filled-all r v old new kind each = record {
  all = λ k e. each;
  next = λ k e. by_next (next_in r v) refl;
  some = λ there. by_some (next_in r v) refl there;
}
  where
    by_next : (o : Option Match) → next_in r v ≡ o → IfSome o (λ m. has new m.trace.pattern ≡ true)
    by_next None e = tt
    by_next (Some m) e = each m.trace.pattern (next-matches r v m e)

    by_some : (o : Option Match) → next_in r v ≡ o → IsSome o → (p : ℕ) × (has new p ≡ true) × MatchesIn r v p
    by_some None e there = absurd (true≢false (sym there))
    by_some (Some m) e there = (m.trace.pattern, each m.trace.pattern (next-matches r v m e), next-matches r v m e)

-- the pattern of a match that was found is put into the set
module _ (old new : List Bool) where
  pub added-kept : (found : Option MatchValue) → MatchOption found (new ≡ old) (λ m. new ≡ set old m.pattern true) → IfSome found (λ m. m.pattern < length old)
      → KeepsMembers old new
  added-kept None same lt = subst (KeepsMembers old) (sym same) (keeps-same old)
  added-kept (Some m) same lt = subst (KeepsMembers old) (sym same) (keeps-set old m.pattern lt)

  module _ (r : Patterns) (v : InputValue) where
    found-pattern : (f : MatchValue) → IsMatchWith r v (λ m. f ≡ match_value m) → MatchesIn r v f.pattern
    found-pattern f m =
        (m.0, m.1, told-pattern r.which_captures m.0 ∙ ap (λ (x : MatchValue). x.pattern) (sym m.2))
      where
        told-pattern : (which : WhichCaptures) (n : Match) → n.trace.pattern ≡ (told_of which n).trace.pattern
        told-pattern every_group n = refl
        told-pattern whole_groups n = refl
        told-pattern no_groups n = refl

    pub added-gains : (found : Option MatchValue) → MatchOption found (new ≡ old) (λ m. new ≡ set old m.pattern true)
        → IfSome found (λ f. IsMatchWith r v (λ m. f ≡ match_value m)) → GainsMatching r v old new
    added-gains None same is = subst (GainsMatching r v old) (sym same) (gains-same r v old)
    added-gains (Some f) same is = subst (GainsMatching r v old) (sym same) (gains-set r v old f.pattern (found-pattern f is))

    added-there : (f : MatchValue) → new ≡ set old f.pattern true → f.pattern < length old → has new f.pattern ≡ true
    added-there f same lt = ap (λ s. has s f.pattern) same ∙ get_or-set_same old f.pattern true false lt

    -- what was found is the next match, where not just any match will do
    added-next : (found : Option MatchValue) → MatchOption found (new ≡ old) (λ m. new ≡ set old m.pattern true)
        → IfSome found (λ m. m.pattern < length old) → (o : Option Match) → found ≡ option_map match_value (option_map (told_of r.which_captures) o)
        → IfSome o (λ m. has new m.trace.pattern ≡ true)
    added-next found same lt None e = tt
    added-next None same lt (Some m) e = none-is-some e
    added-next (Some f) same lt (Some m) e =
        let is : f.pattern ≡ m.trace.pattern = ap (λ (x : MatchValue). x.pattern) (some-is e) ∙ told-pattern r.which_captures m in
        subst (λ p. has new p ≡ true) is (added-there f same lt)
      where
        told-pattern : (which : WhichCaptures) (n : Match) → (told_of which n).trace.pattern ≡ n.trace.pattern
        told-pattern every_group n = refl
        told-pattern whole_groups n = refl
        told-pattern no_groups n = refl

    added-some : (found : Option MatchValue) → MatchOption found (new ≡ old) (λ m. new ≡ set old m.pattern true)
        → IfSome found (λ m. m.pattern < length old) → IfSome found (λ f. IsMatchWith r v (λ m. f ≡ match_value m))
        → IsSome found → (p : ℕ) × (has new p ≡ true) × MatchesIn r v p
    added-some None same lt is there = absurd (true≢false (sym there))
    added-some (Some f) same lt is there = (f.pattern, added-there f same lt, found-pattern f is)

    -- and the set is filled by it, where not all are asked for
    pub added-filled : (found : Option MatchValue) → MatchOption found (new ≡ old) (λ m. new ≡ set old m.pattern true)
        → IfSome found (λ m. m.pattern < length old) → IfSome found (λ f. IsMatchWith r v (λ m. f ≡ match_value m))
        → (kind : MatchKind) → (kind ≡ All → v.earliest ≡ false → ⊥)
        → (v.earliest ≡ false → found ≡ option_map match_value (option_map (told_of r.which_captures) (next_in r v)))
        → is_some found ≡ is_some (next_in r v) → IsFilledFor r v old new kind
    added-filled found same lt is kind some_one whole there = record {
      all = λ all_of not_any. absurd (some_one all_of not_any);
      next = λ leftmost not_any. added-next found same lt (next_in r v) (whole not_any);
      some = λ any. added-some found same lt is (there ∙ any);
    }

-- what `find` answers, where not just any match will do and where any will
pub in-room : (n k : ℕ) (found : Option MatchValue) → n ≤ k → IfSome found (λ m. m.pattern < n) → IfSome found (λ m. m.pattern < k)
in-room n k None le lt = tt
in-room n k (Some m) le lt = omega arith

pub whole-answer : (vm : PikeVMValue) (v : InputValue) → v.earliest ≡ false → answer_in vm v ≡ next_match_in vm.nfa v
whole-answer vm v e = rw e refl

pub some-told : (which : WhichCaptures) (o : Option Match) → is_some (option_map (told_of which) o) ≡ is_some o
some-told which None = refl
some-told which (Some m) = refl

-- a pattern for which there is nothing to search has no match
pub unsought : (vm : PikeVMValue) (r : Patterns) → IsNfaOf vm.nfa r → (v : InputValue) → v.end ≤ length v.haystack → (p : ℕ)
    → (IsSought v.anchor p → HasNoMatch vm.nfa v) → IsTrue false ↔ MatchesIn r v p
unsought vm r is v spanned p none = (
  λ no. absurd (true≢false (sym no)),
  λ m.
      let gone = none (sought-matches r v p m) v.end (omega arith) in
      let nothing : next_in r v ≡ None =
      map-none (told_of r.which_captures) (next_in r v) (sym (patterns-agree vm v spanned r is) ∙ gone) in
      absurd (none-matches r v p nothing m),
)
