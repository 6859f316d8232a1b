-- What a set gains means a part of the span.
use Rattle.std.proofs.Common.{◌≡◌, ℕ, ◌≤◌, ◌<◌, refl, sym, subst, inl, inr, arith, true≢false}
use Rattle.std.proofs.lemmas.Bool.Decides.{nat_tests}
use Rattle.std.specs.Prelude.{◌↔◌, Bool, true, false, List, Some, IsTrue, slice_get, nat_lt}
use Rattle.rx_model.specs.Expression.{Expression, AreOrdered}
use Rattle.rx_model.specs.Meaning.{Means}
use Rattle.rx_model.specs.Runs.{Trace}
use Rattle.rx_model.specs.Search.{Patterns, Anchor, free, anchored, anchored_to, is_anchored, is_permitted, first}
use Rattle.rx_model.specs.Matches.{IsStart}
use Rattle.rx_model.specs.Utf8.{MeansUtf8}
use Rattle.rx_model.proofs.lemmas.runs.RunLemmas.{by_test}
use Rattle.rx_model.proofs.lemmas.runs.FirstLemmas.{tells}
use Rattle.rx_model.proofs.lemmas.graphs.GraphLemmas.{first-none}
use Rattle.rx_model.proofs.lemmas.matches.WithinLemmas.{match-within, match-means}
use Rattle.rx_model.proofs.lemmas.meaning.BoundaryLemmas.{part-permitted}
use Rattle.rx_search.specs.Input.{InputValue}
use Rattle.rx_search.specs.PatternSet.{has}
use Rattle.rx_search.specs.Promise.{Premises}
use Rattle.rx_search.specs.declared.anchored.MatchKind.TheVariants.{All}
use Rattle.rx_search.specs.Sets.{MatchesIn}
use Rattle.rx_engines.proofs.lemmas.answers.OverlapLemmas.{run-matches}
use Rattle.rx_strategy.specs.Strategy as lower
use Rattle.rx_strategy.specs.declared.strategy.Strategy.{Strategy as CoreStrategy}
use Rattle.rx_strategy.specs.declared.strategy.Strategy.TheVariants.{Core as TheCore}
use Rattle.rx_strategies.specs.Strategy as strategy
use Rattle.rx_strategies.specs.declared.strategy.Strategy.{Strategy}
use Rattle.rx_strategies.specs.declared.strategy.Strategy.TheVariants.{Pre, Core, ReverseAnchored, ReverseSuffix, ReverseInner}
use Rattle.rx_strategies.proofs.StrategyLemmas.{pre-ordered}
use Rattle.rx_meta.specs.Laws.{MeansInSpan, MeansFromPermitted, HasNoEmptyMatch}
use Rattle.rx_meta.specs.Regex.{RegexValue, Serves, given_needles, kind_in}
use Rattle.rx_meta.specs.Sets.{AddsMatching, IsFilled}

-- the counts of the expressions of a regex are in order

core-ordered : (s : CoreStrategy) (r : Patterns) → lower.IsFor s r → (p : ℕ) (h : Expression) → slice_get r.expressions p ≡ Some h → AreOrdered h
core-ordered (TheCore core) r is = is.ordered

strategy-ordered : (s : Strategy) (r : Patterns) → strategy.IsFor s r → (p : ℕ) (h : Expression) → slice_get r.expressions p ≡ Some h → AreOrdered h
strategy-ordered (Pre p) r is = pre-ordered p r is
strategy-ordered (Core core) r is = core-ordered core r is
strategy-ordered (ReverseAnchored core) r is = core-ordered core r is
strategy-ordered (ReverseSuffix s) r is = core-ordered s.core r is.0
strategy-ordered (ReverseInner i) r is = core-ordered i.core r is.0

serves-ordered : (regex : RegexValue) (r : Patterns) → Serves regex r → (p : ℕ) (h : Expression) → slice_get r.expressions p ≡ Some h → AreOrdered h
unfolding Serves
serves-ordered regex r serves = strategy-ordered regex.strategy r serves.0

-- an anchored search starts at the first place

start-first : (a : Anchor) (b s i : ℕ) → is_anchored a ≡ true → IsStart a b s i → i ≡ s
start-first free b s i e is = absurd (true≢false (sym e))
start-first anchored b s i e is = is.0
start-first (anchored_to p) b s i e is = is.0

first-start : (a : Anchor) (b s i : ℕ) → s ≤ i → i ≤ b → (is_anchored a ≡ true → i ≡ s) → IsStart a b s i
first-start free b s i low high is = (low, high)
first-start anchored b s i low high is = (is refl, omega arith)
first-start (anchored_to p) b s i low high is = (is refl, omega arith)

longer : (a b : ℕ) → a ≤ b → (b ≡ a → ⊥) → a < b
longer a b le differ = by_test (nat_lt a b) (λ e. grind (arith, nat_tests)) (λ e. absurd (differ (grind (arith, nat_tests))))

module _ (r : Patterns) (v : InputValue) (ordered : (p : ℕ) (h : Expression) → slice_get r.expressions p ≡ Some h → AreOrdered h) where
  -- a pattern with a match means a part of the span, from where a match may start
  matches-mean : (p : ℕ) → MatchesIn r v p → MeansFromPermitted r v p
  matches-mean p m =
      let is = m.1 in
      let own : MeansInSpan r v m.0.trace.pattern = record {
        sought = is.sought;
        expression = is.expression;
        is_there = is.is_there;
        start = m.0.start;
        end = m.0.trace.end;
        within = match-within r v.haystack v.anchor v.end v.start m.0 is;
        first = λ a. start-first v.anchor v.end v.start m.0.start a is.start.0;
        meant = match-means r v.haystack v.anchor v.end v.start m.0 is is.expression is.is_there (ordered m.0.trace.pattern is.expression is.is_there);
      } in
      subst (MeansFromPermitted r v) m.2 (own, is.start.1)

  -- a match may start where a part begins that is meant and not empty
  meant-permitted : (r.utf8_empty ≡ true → MeansUtf8 r v.haystack) → (p : ℕ) (h : Expression) → slice_get r.expressions p ≡ Some h → (i j : ℕ) → i < j
      → Means r.terminator v.haystack h i j → IsTrue (is_permitted r.utf8_empty v.haystack i)
  meant-permitted utf8 p h is i j lt means =
      by_test r.utf8_empty
      (λ on. rw on (part-permitted v.haystack (utf8 on).whole i j lt ((utf8 on).parts p h is i j lt means)).0)
      (λ off. rw off refl)

  -- and the pattern has a run there
  meant-run : (p : ℕ) (h : Expression) → slice_get r.expressions p ≡ Some h → (i j : ℕ) → j ≤ v.end → Means r.terminator v.haystack h i j
      → (t : Trace) × (first r v.haystack v.end p h i ≡ Some t)
  meant-run p h is i j le means =
      elim (tells (first r v.haystack v.end p h i)) [
        | inl none ↦ absurd (first-none r v.haystack v.end p h (ordered p h is) i none j le means)
        | inr some ↦ some
      ]

  -- so one that means a part from where a match may start has a match
  means-match : (p : ℕ) → MeansFromPermitted r v p → MatchesIn r v p
  means-match p (m, permitted) =
      let h = m.expression in
      let low = m.within.0 in
      let order = m.within.1 in
      let high = m.within.2 in
      let run = meant-run p h m.is_there m.start m.end high m.meant in
      let place : m.start ≤ v.end = omega arith in
      let begins = first-start v.anchor v.end v.start m.start low place m.first in
      run-matches r v p (m.start, run.0, (begins, permitted), (m.sought, (h, m.is_there, run.1)))

  -- where no part that is meant is empty, a match may start wherever one begins
  means-permitted : (r.utf8_empty ≡ true → MeansUtf8 r v.haystack) → HasNoEmptyMatch r v → (p : ℕ) → MeansInSpan r v p → MeansFromPermitted r v p
  means-permitted utf8 full p m =
      let h = m.expression in
      let order = m.within.1 in
      let high = m.within.2 in
      let place : m.start ≤ v.end = omega arith in
      let lt = longer m.start m.end order (λ same. full p h m.start m.is_there m.sought m.within.0 place (subst (λ j. Means r.terminator v.haystack h m.start j) same m.meant)) in
      (m, meant-permitted utf8 p h m.is_there m.start m.end lt m.meant)

module _ (regex : RegexValue) (r : Patterns) (v : InputValue) (old new : List Bool) (premises : Premises (Serves regex r) (given_needles regex) r v)
    (kind : kind_in regex ≡ All) (whole : v.earliest ≡ false) (adds : AddsMatching regex v old new) (filled : IsFilled regex v old new) (p : ℕ)
    (out : has old p ≡ false) where
  pub gains-what_means : (has new p ≡ true) ↔ MeansFromPermitted r v p
  gains-what_means =
      let ordered = serves-ordered regex r premises.is_for in (
        λ there. matches-mean r v ordered p (adds r premises p out there),
        λ means. (filled r premises).all kind whole p (means-match r v ordered p means),
      )

  pub gains-what_means_anywhere : HasNoEmptyMatch r v → (has new p ≡ true) ↔ MeansInSpan r v p
  gains-what_means_anywhere full =
      let ordered = serves-ordered regex r premises.is_for in (
        λ there. (gains-what_means.0 there).0,
        λ means. gains-what_means.1 (means-permitted r v ordered premises.utf8 full p means),
      )
