-- What a forward search answers, said of the matches of patterns.
use Rattle.std.proofs.Common.{◌≡◌, ◌⊎◌, ℕ, ◌≤◌, ◌<◌, List, length, refl, sym, ◌∙◌, ap, subst, inl, inr, arith, true≢false}
use Rattle.std.specs.Prelude.{Bool, true, false, not, Option, Some, None, option_map, is_some, unwrap_or, nat_lt, slice_get, IfSome}
use Rattle.std.proofs.lemmas.Bool.Decides.{nat_tests}
use Rattle.rx_model.specs.Runs.{Trace, nowhere, trace, Leads}
use Rattle.rx_model.specs.Expression.{Expression}
use Rattle.rx_model.specs.Search.{Anchor, free, anchored, anchored_to, is_anchored, is_permitted, Match, Patterns, WhichCaptures, told_of, next_match}
use Rattle.rx_model.specs.Search.{all as every_group, implicit as whole_match, none as no_group}
use Rattle.rx_model.specs.Matches.{IsStart, IsSought, IsMatch, part_of, runs_of_pattern}
use Rattle.rx_model.proofs.lemmas.runs.RunLemmas.{by_test}
use Rattle.rx_model.proofs.lemmas.runs.FirstLemmas.{tells}
use Rattle.rx_model.proofs.lemmas.runs.RiseLemmas.{mapped-some, trace-end}
use Rattle.rx_model.proofs.lemmas.graphs.GraphLemmas.{trace-pattern}
use Rattle.rx_model.proofs.lemmas.matches.MatchLemmas.{next-is, next-within}
use Rattle.rx_model.proofs.lemmas.matches.NarrowLemmas.{next-narrowed}
use Rattle.rx_model.proofs.lemmas.matches.WithinLemmas.{next-run, next-later, match-next, match-within, run-later, trace-later}
use Rattle.rx_search.specs.Input.{InputValue, next_in}
use Rattle.rx_search.specs.Matches.{HalfMatchValue, match_value, half_match_value}
use Rattle.rx_search.specs.Promise.{Premises}
use Rattle.rx_search.specs.Told.{IsMatchWith}
use Rattle.rx_search.specs.declared.anchored.MatchKind.{MatchKind}
use Rattle.rx_search.specs.declared.anchored.MatchKind.TheVariants.{All, LeftmostFirst}
use Rattle.rx_nfa.specs.Automaton.{at, automaton}
use Rattle.rx_nfa.specs.Nfa.{Nfa, IsNfaOf}
use Rattle.rx_nfa.specs.NextMatch.{start_of, next_match_of, next_match_in}
use Rattle.rx_nfa.proofs.lemmas.runs.NextMatchLemmas.{next_match_of-patterns}
use Rattle.rx_determinize.proofs.lemmas.KeepsLemmas.{walks-keep}
use Rattle.rx_dfa.specs.Search.{HasRunIn, HasNoEnd, IsEnd, IsForwardAnswer, IsLastAnswer, IsAnswerFor}
use Rattle.rx_dfa.proofs.lemmas.WalkLemmas.{RunsTo, run-accepts-it, walk-run, run-walk, has-start}

-- a search is of one of two kinds
pub by_kind : (kind : MatchKind) → (kind ≡ All) ⊎ (kind ≡ LeftmostFirst)
by_kind All = inl refl
by_kind LeftmostFirst = inr refl

is_all : MatchKind → Bool
is_all All = true
is_all LeftmostFirst = false

pub not-both : (kind : MatchKind) → kind ≡ All → kind ≡ LeftmostFirst → ⊥
unfolding is_all
not-both kind every leftmost = true≢false (sym (ap is_all every) ∙ ap is_all leftmost)

-- what is told keeps the pattern, the start and the end
pub told-half : (which : WhichCaptures) (o : Option Match) → option_map half_match_value (option_map (told_of which) o) ≡ option_map half_match_value o
told-half which None = refl
told-half every_group (Some m) = refl
told-half whole_match (Some m) = refl
told-half no_group (Some m) = refl

told-some : (which : WhichCaptures) (o : Option Match) → is_some (option_map (told_of which) o) ≡ is_some o
told-some which None = refl
told-some which (Some m) = refl

pub half-told : (which : WhichCaptures) (m : Match) → half_match_value (told_of which m) ≡ half_match_value m
half-told every_group m = refl
half-told whole_match m = refl
half-told no_group m = refl

pub match-told : (which : WhichCaptures) (m : Match) → match_value (told_of which m) ≡ match_value m
match-told every_group m = refl
match-told whole_match m = refl
match-told no_group m = refl

-- a place of the span, which is its first one where the search is anchored
pub start-in : (anchor : Anchor) (b a i : ℕ) → a ≤ i → i ≤ b → (is_anchored anchor ≡ true → i ≡ a) → IsStart anchor b a i
start-in free b a i low high begins = (low, high)
start-in anchored b a i low high begins = (begins refl, omega arith)
start-in (anchored_to p) b a i low high begins = (begins refl, omega arith)

-- an anchored match starts where the span does
pub starts-at : (anchor : Anchor) (b a i : ℕ) → is_anchored anchor ≡ true → IsStart anchor b a i → i ≡ a
starts-at free b a i on start = absurd (true≢false (sym on))
starts-at anchored b a i on start = start.0
starts-at (anchored_to p) b a i on start = start.0

-- A run of a pattern is a match, of that pattern and with that end.
module _ (r : Patterns) (text : List ℕ) (anchor : Anchor) (b a e : ℕ) (le : e ≤ b) (p i : ℕ) where
  abbrev of_run : Trace → Match
  of_run t = record { start = i; trace = record { pattern = p; end = e; writes = t.writes } }

  pub run-match : (h : Expression) → slice_get r.expressions p ≡ Some h → (x : RunsTo r text e p h i) → IsStart anchor b a i
      → is_permitted r.utf8_empty text i ≡ true
      → IsSought anchor p → (m : Match) × IsMatch r text anchor b a m × (m.trace.pattern ≡ p) × (m.start ≡ i) × (m.trace.end ≡ e)
  run-match h there x start permitted sought =
      let near = runs_of_pattern r text e p h in
      let far = runs_of_pattern r text b p h in
      let c = at (part_of r p h).start i in
      let states = (part_of r p h).states in
      let t = trace far c x.run in
      let same = trace-later r.terminator text states e b le nowhere c x.run x.is in
      let pattern : p ≡ t.pattern =
      sym (trace-pattern near c x.run ∙ ap (λ o. unwrap_or o 0) (run-accepts-it r text e p h i x)) ∙ ap (λ (u : Trace). u.pattern) same in
      let end : e ≡ t.end = sym (trace-end far c x.run ∙ x.ends) in (
        of_run t,
        record {
          start = (start, permitted);
          sought = sought;
          expression = h;
          is_there = there;
          run = x.run;
          accepting = run-later r.terminator text states e b le nowhere c x.run x.is;
          tells = λ j. record { pattern = pattern j; end = end j; writes = t.writes };
        },
        refl,
        refl,
        refl,
      )

module _ (nfa : Nfa) (r : Patterns) (v : InputValue) (spanned : v.end ≤ length v.haystack) (premises : Premises (IsNfaOf nfa r) None r v) where
  abbrev text : List ℕ
  text = v.haystack

  abbrev which : WhichCaptures
  which = r.which_captures

  -- the next match of the NFA is what is told of that of the patterns
  agree : (to from : ℕ) → to ≤ length text → next_match_of nfa nfa.utf8 text v.anchor to from ≡ option_map (told_of which) (next_match r text v.anchor to from)
  agree to from le = next_match_of-patterns nfa r text to le premises.is_for.runs nfa.utf8 v.anchor from premises.is_for.utf8

  pub agree-half : (to from : ℕ) → to ≤ length text
      → option_map half_match_value (next_match_of nfa nfa.utf8 text v.anchor to from) ≡ option_map half_match_value (next_match r text v.anchor to from)
  agree-half to from le = ap (option_map half_match_value) (agree to from le) ∙ told-half which (next_match r text v.anchor to from)

  agree-some : is_some (next_match_in nfa v) ≡ is_some (next_in r v)
  agree-some = ap is_some (agree v.end v.start spanned) ∙ told-some which (next_in r v)

  -- Where a match starts and ends between characters.

  -- a walk that reads something starts and ends so
  walk-keeps : nfa.utf8 ≡ true → (q : ℕ) → start_of nfa v.anchor ≡ Some q → (p e n i : ℕ) → e ≤ length text
      → Leads (automaton nfa.terminator nfa.states text e) p e n (at q i) → i < e → (is_permitted true text i ≡ true) × (is_permitted true text e ≡ true)
  walk-keeps on q is p e n i within walk lt =
      (walks-keep nfa r premises.is_for.runs text (premises.utf8 (premises.is_for.utf8 ∙ on)) e within v.anchor q is).spans i e p n walk lt

  walk-start : (q : ℕ) → start_of nfa v.anchor ≡ Some q → (p e n i : ℕ) → e ≤ length text → i ≤ e
      → Leads (automaton nfa.terminator nfa.states text e) p e n (at q i) → is_permitted nfa.utf8 text e ≡ true → is_permitted r.utf8_empty text i ≡ true
  walk-start q is p e n i within le walk ends =
      by_test nfa.utf8
      (λ on.
      ap (λ u. is_permitted u text i) (premises.is_for.utf8 ∙ on)
      ∙ by_test (nat_lt i e)
      (λ t. (walk-keeps on q is p e n i within walk (grind (arith, nat_tests))).0)
      (λ t. let same : i ≡ e = grind (arith, nat_tests) in ap (is_permitted true text) same ∙ ap (λ u. is_permitted u text e) (sym on) ∙ ends))
      (λ off. ap (λ u. is_permitted u text i) (premises.is_for.utf8 ∙ off))

  walk-end : (q : ℕ) → start_of nfa v.anchor ≡ Some q → (p e n i : ℕ) → e ≤ length text → i ≤ e
      → Leads (automaton nfa.terminator nfa.states text e) p e n (at q i) → is_permitted r.utf8_empty text i ≡ true → is_permitted nfa.utf8 text e ≡ true
  walk-end q is p e n i within le walk starts =
      by_test nfa.utf8
      (λ on.
      ap (λ u. is_permitted u text e) on
      ∙ by_test (nat_lt i e)
      (λ t. (walk-keeps on q is p e n i within walk (grind (arith, nat_tests))).1)
      (λ t. let same : e ≡ i = grind (arith, nat_tests) in
      ap (is_permitted true text) same ∙ ap (λ u. is_permitted u text i) (sym (premises.is_for.utf8 ∙ on)) ∙ starts))
      (λ off. ap (λ u. is_permitted u text e) off)

  -- Under `All`.

  no_loop : (b : Bool) → b ≡ true → not b ≡ false
  no_loop true on = refl
  no_loop false on = absurd (true≢false (sym on))

  loopless : (b : Bool) → not b ≡ false → b ≡ true
  loopless true off = refl
  loopless false off = absurd (true≢false off)

  -- an end is that of a match
  pub end-match : (h : HalfMatchValue) → IsEnd nfa v h → (m : Match) × IsMatch r text v.anchor v.end v.start m × (half_match_value m ≡ h)
  end-match h x =
      let q = x.runs.0 in
      let is = x.runs.1 in
      let run = x.runs.2 in
      let to = x.to in
      let low = run.low in
      let high = run.high in
      let within : h.offset ≤ length text = omega arith in
      let w = walk-run nfa r premises.is_for.runs text h.offset within h.pattern v.anchor q is run.steps run.from run.leads in
      let m = run-match r text v.anchor v.end v.start h.offset to h.pattern run.from w.expression w.is_there w.runs_to
      (start-in v.anchor v.end v.start run.from low (omega arith) (λ on. run.anchored (no_loop (is_anchored v.anchor) on)))
      (walk-start q is h.pattern h.offset run.steps run.from within high run.leads x.ends) w.sought in
      (m.0, m.1, (λ k. record { pattern = m.2 k; offset = m.4 k }))

  -- A match has an end, and a run that ends there.
  pub match-ends : (m : Match) → IsMatch r text v.anchor v.end v.start m
      → (e : ℕ) × (v.start ≤ e) × (e ≤ v.end) × (is_permitted nfa.utf8 text e ≡ true) × HasRunIn nfa v m.trace.pattern e
  match-ends m is =
      elim (tells (next_match r text (anchored_to m.trace.pattern) v.end m.start)) [
        | inl none ↦ absurd (match-next r text (anchored_to m.trace.pattern) v.end m.start m own none)
        | inr found ↦ of_next found.0 found.1
      ]
    where
      own : IsMatch r text (anchored_to m.trace.pattern) v.end m.start m
      own =
          let within = match-within r text v.anchor v.end v.start m is in
          let mid = within.1 in
          let high = within.2 in
          record {
            start = ((refl, omega arith), is.start.1);
            sought = refl;
            expression = is.expression;
            is_there = is.is_there;
            run = is.run;
            accepting = is.accepting;
            tells = is.tells;
          }

      of_next : (n : Match) → next_match r text (anchored_to m.trace.pattern) v.end m.start ≡ Some n
          → (e : ℕ) × (v.start ≤ e) × (e ≤ v.end) × (is_permitted nfa.utf8 text e ≡ true) × HasRunIn nfa v m.trace.pattern e
      of_next n next =
          let p = n.trace.pattern in
          let e = n.trace.end in
          let alike = next-is r text (anchored_to m.trace.pattern) v.end m.start n next in
          let same : p ≡ m.trace.pattern = alike.run.0 in
          let place : n.start ≡ m.start = alike.start.0.0 in
          let order = next-within r text (anchored_to m.trace.pattern) v.end m.start n next in
          let mid = order.1 in
          let high = order.2 in
          let first = (match-within r text v.anchor v.end v.start m is).0 in
          let within : e ≤ length text = omega arith in
          let part = next-run r text (anchored_to p) e n.start n (next-narrowed r text (anchored_to m.trace.pattern) v.end m.start n next) in
          let c = at (part_of r p part.expression).start n.start in
          let x : RunsTo r text e p part.expression n.start = record {
            run = part.run;
            is = part.accepting;
            ends = sym (trace-end (runs_of_pattern r text e p part.expression) c part.run) ∙ ap (λ (t : Trace). t.end) (sym part.tells);
          } in
          let sought = subst (IsSought v.anchor) (sym same) is.sought in
          let start = has-start nfa r premises.is_for.runs text e within p v.anchor sought part.expression part.is_there in
          let walk = run-walk nfa r premises.is_for.runs text e within p v.anchor start.0 start.1 sought part.expression part.is_there n.start x in
          let run : HasRunIn nfa v p e = (
            start.0,
            start.1,
            record {
              from = n.start;
              low = omega arith;
              high = mid;
              anchored = λ off. place ∙ starts-at v.anchor v.end v.start m.start (loopless (is_anchored v.anchor) off) is.start.0;
              steps = walk.0;
              leads = walk.1;
            },
          ) in (
            e,
            omega arith,
            high,
            walk-end start.0 start.1 p e walk.0 n.start within mid walk.1 alike.start.1,
            subst (λ q. HasRunIn nfa v q e) same run,
          )

  -- without an end there is no match
  pub no-match : HasNoEnd nfa v → next_in r v ≡ None
  no-match none =
      elim (tells (next_in r v)) [
        | inl gone ↦ gone
        | inr found ↦
            let m = found.0 in
            let x = match-ends m (next-run r text v.anchor v.end v.start m found.1) in
            absurd (none m.trace.pattern x.0 x.1 x.2 x.3 x.4)
      ]

  -- a match that is there
  there : (m : Match) → IsMatch r text v.anchor v.end v.start m → is_some (next_in r v) ≡ true
  there m is =
      elim (tells (next_in r v)) [
        | inl none ↦ absurd (match-next r text v.anchor v.end v.start m is none)
        | inr found ↦ ap is_some found.1
      ]

  told-match : (h : HalfMatchValue) (m : Match) → IsMatch r text v.anchor v.end v.start m → half_match_value m ≡ h
      → IsMatchWith r v (λ n. h ≡ half_match_value n)
  told-match h m is half = (m, is, sym half ∙ sym (half-told which m))

  pub every-answer : (kind : MatchKind) → kind ≡ All → (found : Option HalfMatchValue) → IsLastAnswer nfa v found → IsAnswerFor kind r v half_match_value found
  every-answer kind every None l =
      let none = no-match l.none in
      record {
        value = λ leftmost whole. absurd (not-both kind every leftmost);
        exists = sym (ap is_some none);
        is_match = tt;
      }
  every-answer kind every (Some h) l =
      let m = end-match h l.is_end in
      record {
        value = λ leftmost whole. absurd (not-both kind every leftmost);
        exists = sym (there m.0 m.1);
        is_match = told-match h m.0 m.1 m.2;
      }

  -- Under leftmost-first.

  -- a match from a later place is one of the span
  start-earlier : (from : ℕ) → v.start ≤ from → (is_anchored v.anchor ≡ true → from ≡ v.start) → (m : Match) → IsMatch r text v.anchor v.end from m
      → IsMatch r text v.anchor v.end v.start m
  start-earlier from low begins m is = record {
    start = (moved v.anchor begins is.start.0, is.start.1);
    sought = is.sought;
    expression = is.expression;
    is_there = is.is_there;
    run = is.run;
    accepting = is.accepting;
    tells = is.tells;
  }
    where
      moved : (anchor : Anchor) → (is_anchored anchor ≡ true → from ≡ v.start) → IsStart anchor v.end from m.start → IsStart anchor v.end v.start m.start
      moved free begins s = let after = s.0 in (omega arith, s.1)
      moved anchored begins s = let high = s.1 in (s.0 ∙ begins refl, omega arith)
      moved (anchored_to p) begins s = let high = s.1 in (s.0 ∙ begins refl, omega arith)

  pub leftmost-answer : (kind : MatchKind) → (found : Option HalfMatchValue) → IsForwardAnswer nfa v found → IsAnswerFor kind r v half_match_value found
  leftmost-answer kind found f = record {
    value = λ leftmost whole. f.value whole ∙ agree-half v.end v.start spanned;
    exists = f.exists ∙ agree-some;
    is_match = each found f;
  }
    where
      each : (o : Option HalfMatchValue) → IsForwardAnswer nfa v o → IfSome o (λ h. IsMatchWith r v (λ n. h ≡ half_match_value n))
      each None f = tt
      each (Some h) f =
          let o = f.is_match in
          let high = o.high in
          let m = mapped-some half_match_value (next_match r text v.anchor o.to o.from) h (sym (agree-half o.to o.from (omega arith)) ∙ o.is_next) in
          told-match h m.0 (start-earlier o.from o.low o.begins m.0 (next-later r text v.anchor o.to v.end o.from m.0 m.1 o.high)) m.2

  -- what a search of either kind answers
  pub half-answer : (kind : MatchKind) (found : Option HalfMatchValue) → (kind ≡ LeftmostFirst → IsForwardAnswer nfa v found)
      → (kind ≡ All → IsLastAnswer nfa v found) → IsAnswerFor kind r v half_match_value found
  half-answer kind found leftmost every =
      elim (by_kind kind) [
        | inl is ↦ every-answer kind is found (every is)
        | inr is ↦ leftmost-answer kind found (leftmost is)
      ]
