-- Where each match begins at the start of the text, a search that may begin anywhere is an anchored one.
use Rattle.std.proofs.Common.{◌≡◌, ℕ, true, false, List, Option, Some, None, refl, sym, ap, ◌∙◌, subst, inl, inr, arith, true≢false}
use Rattle.std.specs.Prelude.{option_map, is_some, IfSome, Result, Ok, Err, IfOk, slice_get}
use Rattle.rx_model.specs.Look.{start_text}
use Rattle.rx_model.specs.Expression.{Expression, alternation, AreOrdered}
use Rattle.rx_model.specs.Meaning.{Means}
use Rattle.rx_model.specs.Matches.{MayStart, IsMatch, IsNextMatch}
use Rattle.rx_model.specs.Search.{Patterns, Anchor, free, anchored, anchored_to, is_anchored, Match, next_match}
use Rattle.rx_model.proofs.lemmas.matches.MatchLemmas.{next-is, next-none, is-next}
use Rattle.rx_model.proofs.lemmas.matches.WithinLemmas.{next-run, match-within, match-means}
use Rattle.rx_model.proofs.lemmas.runs.FirstLemmas.{tells}
use Rattle.rx_search.specs.Input.{InputValue, next_in}
use Rattle.rx_search.specs.Promise.{Premises}
use Rattle.rx_search.specs.Told.{IsMatchWith}
use Rattle.rx_search.specs.declared.anchored.MatchKind.{MatchKind}
use Rattle.rx_hir.specs.Normal.{expressions}
use Rattle.rx_hir.proofs.LookLemmas.{first-holds}
use Rattle.rx_dfa.specs.Search.{IsAnswerFor}
use Rattle.rx_strategy.specs.Core.{CoreValue, IsCoreFor}
use Rattle.rx_strategy.specs.Impossible.{is_always_anchored_start}
use Rattle.rx_strategy.proofs.ImpossibleLemmas.{start-place, meant-among}

pub is-free : (anchor : Anchor) → is_anchored anchor ≡ false → anchor ≡ free
is-free free e = refl
is-free anchored e = absurd (true≢false e)
is-free (anchored_to p) e = absurd (true≢false e)

module _ (r : Patterns) (hay : List ℕ) (b a : ℕ) where
  unanchored-start : (i : ℕ) → MayStart r hay anchored b a i → MayStart r hay free b a i
  unanchored-start i may = let is = may.0.0 in let le = may.0.1 in ((omega arith, omega arith), may.1)

  -- a match of the anchored search is one of the other
  pub unanchored : (m : Match) → IsMatch r hay anchored b a m → IsMatch r hay free b a m
  unanchored m is = record {
    start = unanchored-start m.start is.start;
    sought = tt;
    expression = is.expression;
    is_there = is.is_there;
    run = is.run;
    accepting = is.accepting;
    tells = is.tells;
  }

  module _ (ordered : (p : ℕ) (h : Expression) → slice_get r.expressions p ≡ Some h → AreOrdered h)
      (once : is_always_anchored_start (alternation (expressions r.expressions)) ≡ true) where
    -- each match begins with the span
    at-start : (m : Match) → IsMatch r hay free b a m → m.start ≡ a
    at-start m is =
        let h : Expression = alternation (expressions r.expressions) in
        let own = match-means r hay free b a m is is.expression is.is_there (ordered m.trace.pattern is.expression is.is_there) in
        let means : Means r.terminator hay h m.start m.trace.end =
        meant-among r.terminator hay r.expressions m.trace.pattern is.expression is.is_there m.start m.trace.end own in
        let first = start-place r.terminator hay m.start (first-holds r.terminator hay start_text h once m.start m.trace.end means) in
        let low = (match-within r hay free b a m is).0 in
        omega arith

    next-anchored : (m : Match) → next_match r hay free b a ≡ Some m → IsNextMatch r hay anchored b a m
    next-anchored m e =
        let x = next-is r hay free b a m e in
        let here = at-start m (next-run r hay free b a m e) in
        let low = x.start.0.0 in
        let high = x.start.0.1 in
        record {
          start = ((here, omega arith), x.start.1);
          run = x.run;
          least_start = λ place p t may has. let is = may.0.0 in omega arith;
          least_pattern = x.least_pattern;
        }

    none-anchored : next_match r hay free b a ≡ None → next_match r hay anchored b a ≡ None
    none-anchored none =
        elim (tells (next_match r hay anchored b a)) [
          | inl gone ↦ gone
          | inr some ↦
              (let y = next-is r hay anchored b a some.0 some.1 in
              absurd (next-none r hay free b a none some.0.start some.0.trace.pattern some.0.trace (unanchored-start some.0.start y.start) y.run))
        ]

    -- both have the same next match
    pub same-next : next_match r hay anchored b a ≡ next_match r hay free b a
    same-next =
        elim (tells (next_match r hay free b a)) [
          | inl none ↦ none-anchored none ∙ sym none
          | inr some ↦ is-next r hay anchored b a some.0 (next-anchored some.0 some.1) ∙ sym some.1
        ]

-- What the anchored search answers the other one answers.
module _ (c : CoreValue) (r : Patterns) (v : InputValue) (unset : is_anchored v.anchor ≡ false)
    (once : is_always_anchored_start (alternation (expressions r.expressions)) ≡ true) (p : Premises (IsCoreFor c r) c.pre r v) where
  abbrev first : InputValue
  first = record v { anchor = anchored }

  same-in : next_in r first ≡ next_in r v
  same-in =
      subst (λ (anchor : Anchor). next_match r v.haystack anchored v.end v.start ≡ next_match r v.haystack anchor v.end v.start)
      (sym (is-free v.anchor unset)) (same-next r v.haystack v.end v.start p.is_for.ordered once)

  once-premises : Premises (IsCoreFor c r) c.pre r first
  once-premises = record { is_for = p.is_for; begins = λ off. absurd (true≢false off); utf8 = p.utf8 }

  once-found : {A : Type 0} (part : Match → A) (found : Option A) → IfSome found (λ x. IsMatchWith r first (λ m. x ≡ part m))
      → IfSome found (λ x. IsMatchWith r v (λ m. x ≡ part m))
  once-found part None known = tt
  once-found part (Some x) known =
      let is : IsMatch r v.haystack v.anchor v.end v.start known.0 =
      subst (λ (anchor : Anchor). IsMatch r v.haystack anchor v.end v.start known.0) (sym (is-free v.anchor unset))
      (unanchored r v.haystack v.end v.start known.0 known.1) in
      (known.0, is, known.2)

  once-answer : {A : Type 0} (kind : MatchKind) (part : Match → A) (found : Option A) → IsAnswerFor kind r first part found
      → IsAnswerFor kind r v part found
  once-answer kind part found is = record {
    value = λ leftmost whole. is.value leftmost whole ∙ ap (option_map part) same-in;
    exists = is.exists ∙ ap is_some same-in;
    is_match = once-found part found is.is_match;
  }

  pub once-answers : {A E : Type 0} (kind : MatchKind) (part : Match → A) (result : Result (Option A) E)
      → (Premises (IsCoreFor c r) c.pre r first → IfOk result (IsAnswerFor kind r first part)) → IfOk result (IsAnswerFor kind r v part)
  once-answers kind part (Err e) given = tt
  once-answers kind part (Ok found) given = once-answer kind part found (given once-premises)
