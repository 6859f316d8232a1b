-- Where each match begins at the start of the text, a search that may begin anywhere is an anchored one.
use Rattle.std.proofs.Common.{◌≡◌, ℕ, zero, suc, ◌==◌, true, List, [], ◌∷◌, Some, None, sym, ap, ◌∙◌, inl, inr, arith}
use Rattle.std.specs.Prelude.{Bool, slice_get}
use Rattle.std.proofs.lemmas.Bool.{and_parts}
use Rattle.std.proofs.lemmas.Bool.Decides.{nat_tests}
use Rattle.rx_model.specs.Expression.{Expression}
use Rattle.rx_model.specs.Look.{start_text, holds}
use Rattle.rx_model.specs.Matches.{MayStart, IsMatch, IsNextMatch}
use Rattle.rx_model.specs.Search.{Patterns, free, anchored, Match, next_match}
use Rattle.rx_model.proofs.lemmas.matches.MatchLemmas.{next-is, next-none, is-next}
use Rattle.rx_model.proofs.lemmas.matches.WithinLemmas.{next-run, match-within, match-means}
use Rattle.rx_model.proofs.lemmas.runs.FirstLemmas.{some-is, none-is-some, tells}
use Rattle.rx_hir.specs.Properties.{looks_first}
use Rattle.rx_hir.proofs.LookLemmas.{first-holds}
use Rattle.rx_nfa.specs.Compiled.{IsCompiled, patterns_of, all_start_anchored}
use Rattle.rx_nfa.specs.Config.{terminator_of, captures_of}
use Rattle.rx_nfa.specs.Nfa.{Nfa}
use Rattle.rx_nfa.specs.declared.compiler.config.Config.{Config}

start-place : (t : ℕ) (text : List ℕ) (i : ℕ) → holds t text start_text i ≡ true → i ≡ 0
unfolding holds
start-place t text i e = let is : (i == 0) ≡ true = e in grind (arith, nat_tests)

each-looks : (hs : List Expression) → all_start_anchored hs ≡ true → (p : ℕ) (h : Expression) → slice_get hs p ≡ Some h → looks_first start_text h ≡ true
each-looks [] e p h there = none-is-some there
each-looks (x ∷ hs) e zero h there = let both = and_parts (looks_first start_text x) (all_start_anchored hs) e in ap (looks_first start_text) (sym (some-is there)) ∙ both.0
each-looks (x ∷ hs) e (suc p) h there = let both = and_parts (looks_first start_text x) (all_start_anchored hs) e in each-looks hs both.1 p h there

module _ (config : Config) (hs : List Expression) (nfa : Nfa) (compiled : IsCompiled config hs nfa) (once : nfa.always_start_anchored ≡ true)
    (utf8_empty : Bool) (hay : List ℕ) (b a : ℕ) where
  abbrev r : Patterns
  r = patterns_of hs utf8_empty (terminator_of config) (captures_of config)

  -- each match begins with the span
  at-start : (m : Match) → IsMatch r hay free b a m → m.start ≡ a
  at-start m is =
      let means = match-means r hay free b a m is is.expression is.is_there (compiled.ordered m.trace.pattern is.expression is.is_there) in
      let looks = each-looks hs (sym compiled.always_start_anchored ∙ once) m.trace.pattern is.expression is.is_there in
      let first = start-place r.terminator hay m.start (first-holds r.terminator hay start_text is.expression looks m.start m.trace.end means) in
      let low = (match-within r hay free b a m is).0 in
      omega arith

  unanchored-start : (i : ℕ) → MayStart r hay anchored b a i → MayStart r hay free b a i
  unanchored-start i may = let is = may.0.0 in let le = may.0.1 in ((omega arith, omega arith), may.1)

  next-anchored : (m : Match) → next_match r hay free b a ≡ Some m → IsNextMatch r hay anchored b a m
  next-anchored m e =
      let x = next-is r hay free b a m e in
      let here = at-start m (next-run r hay free b a m e) in
      let low = x.start.0.0 in
      let high = x.start.0.1 in
      record {
        start = ((here, omega arith), x.start.1);
        run = x.run;
        least_start = λ place p t may has. let is = may.0.0 in omega arith;
        least_pattern = x.least_pattern;
      }

  none-anchored : next_match r hay free b a ≡ None → next_match r hay anchored b a ≡ None
  none-anchored none =
      elim (tells (next_match r hay anchored b a)) [
        | inl gone ↦ gone
        | inr some ↦
            (let y = next-is r hay anchored b a some.0 some.1 in
            absurd (next-none r hay free b a none some.0.start some.0.trace.pattern some.0.trace (unanchored-start some.0.start y.start) y.run))
      ]

  -- both have the same next match
  pub same-next : next_match r hay anchored b a ≡ next_match r hay free b a
  same-next =
      elim (tells (next_match r hay free b a)) [
        | inl none ↦ none-anchored none ∙ sym none
        | inr some ↦ is-next r hay anchored b a some.0 (next-anchored some.0 some.1) ∙ sym some.1
      ]
