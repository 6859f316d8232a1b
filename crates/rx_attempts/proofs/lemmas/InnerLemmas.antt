-- How the search for the first confirmed candidate of literals within goes on, and what it comes to.
use Rattle.std.proofs.Common.{◌≡◌, ◌⊎◌, ℕ, ◌+◌, ◌-◌, ◌*◌, ◌<◌, ◌≤◌, List, length, refl, sym, ◌∙◌, subst, inl, inr, arith, true≢false}
use Rattle.std.specs.Prelude.{Some, None, nat_lt, Result, Ok, Err, IfOk}
use Rattle.std.specs.Result.{IfErr}
use Rattle.std.proofs.lemmas.Bool.Decides.{nat_tests}
use Rattle.rx_model.specs.Meaning.{Means}
use Rattle.rx_model.specs.Search.{free, Patterns}
use Rattle.rx_model.proofs.lemmas.runs.RunLemmas.{by_test}
use Rattle.rx_search.specs.Input.{InputValue}
use Rattle.rx_search.specs.Matches.{MatchValue, HalfMatchValue, match_value}
use Rattle.rx_search.specs.Promise.{Premises}
use Rattle.rx_search.specs.declared.anchored.MatchKind.{MatchKind}
use Rattle.rx_search.specs.declared.span.Span.{Span}
use Rattle.rx_nfa.specs.Nfa.{IsNfaOf}
use Rattle.rx_dfa.specs.Automaton.{Dfa}
use Rattle.rx_dfa.specs.Search.{IsAnswerFor}
use Rattle.rx_limited.specs.Limited.{FindsStart}
use Rattle.rx_limited.specs.Stopat.{stop_forwards}
use Rattle.rx_limited.specs.declared.retry_error.RetryError.{RetryError}
use Rattle.rx_order.specs.Order.{IsLeast, IsMatchStart}
use Rattle.rx_order.proofs.lemmas.NextLemmas.{least-next, none-next}
use Rattle.rx_attempts.specs.Inputs.{up_to, from_start}
use Rattle.rx_attempts.specs.Candidates.{AreNotEmpty, IsCandidate, IsNextCandidate, NoneBetween, IsLeastRead}
use Rattle.rx_attempts.specs.Premises.{IsByInner, IsInnerOf, NoInnerBefore}
use Rattle.rx_attempts.specs.Refusals.{IsStopped}
use Rattle.rx_attempts.specs.Whole.{match_found, IsWhole}
use Rattle.rx_attempts.specs.Inner.{HasStopped, IsTurn, IsPrefixStart, IsMatchAt, IsPassed, IsTried, ReadsFrom, TakesFew, IsCourse, GoesOn}
use Rattle.rx_attempts.proofs.lemmas.NeedleLemmas.{taken-long}
use Rattle.rx_attempts.proofs.lemmas.StartLemmas.{inner-permitted, prefix-none, prefix-some}
use Rattle.rx_attempts.proofs.lemmas.EndLemmas.{finds, whole-starts, whole-answer, nothing-answer}

-- the search begins
pub inner-fresh : (fwd rev : Dfa) (needles : List (List ℕ)) (v : InputValue) → v.start ≤ v.end → (old : ℕ) → GoesOn fwd rev needles v v.start 0 0 old old
inner-fresh fwd rev needles v in_order old = record {
  low = omega arith;
  high = in_order;
  none = λ r nfa p c i lt conf. let low = conf.candidate.2.0 in omega arith;
  course = inl (refl, refl);
  stop = inl refl;
  stop_high = omega arith;
  reach = v.start;
  reach_is = inl refl;
  from_in = omega arith;
  stop_in = omega arith;
  steps = omega arith;
}

-- what a search forwards from a start stands under
pub from-premises : (fwd rev : Dfa) (needles : List (List ℕ)) (v : InputValue) (start : HalfMatchValue) (r : Patterns) → IsNfaOf fwd.nfa r
    → IsByInner rev needles r v → Premises (IsNfaOf fwd.nfa r) None r (from_start v start)
from-premises fwd rev needles v start r nfa p = record { is_for = nfa; begins = λ off. tt; utf8 = p.utf8 }

module _ (fwd rev : Dfa) (needles : List (List ℕ)) (some : AreNotEmpty needles) (v : InputValue) (within : v.end ≤ length v.haystack) where
  -- One candidate.
  module _ (now : Span) (min_start stopped : ℕ) (turn : IsTurn fwd rev needles v now min_start stopped) where
    -- the prefix has no start there
    pub inner-without : FindsStart rev (up_to v now.start) None → IsPassed fwd rev needles v now stopped stopped
    inner-without back = record {
      none = λ r nfa p i conf. prefix-none rev needles some v within r p now back i conf;
      stop = inl refl;
    }

    module _ (start : HalfMatchValue) (back : FindsStart rev (up_to v now.start) (Some start)) where
      begins : IsPrefixStart rev needles v now start
      begins = prefix-some rev needles some v within now start back

      -- no match begins at the start that it has
      pub inner-stopped : (place : ℕ) → place ≡ stop_forwards fwd (from_start v start)
          → ((r : Patterns) → Premises (IsNfaOf fwd.nfa r) None r (from_start v start) → IsWhole fwd.kind r v start None)
          → IsPassed fwd rev needles v now stopped place
      inner-stopped place stop gone = record {
        none = λ r nfa p i conf.
            let b = begins r p in
            let up = b.0.least i conf.start.inside conf.start.has in
            let down = conf.start.least start.offset b.0.inside b.0.has in
            let at : i ≡ start.offset = omega arith in
            let m = subst (IsMatchStart r.terminator v.haystack v.end p.expression) at conf.match_start in
            let may = inner-permitted rev needles some v within r p start.offset b.0.inside m in
            let is = finds r p.expression p.is p.ordered v start b.1 m may in
            true≢false (sym is ∙ gone r (from-premises fwd rev needles v start r nfa p));
        stop = inr (record {
          last = now;
          taken = turn.taken;
          earlier = omega arith;
          start = start;
          least = λ r p. (begins r p).0;
          stop = stop;
          no_run = λ r premises. gone r premises;
        });
      }

      inner-matched : (m : MatchValue)
          → ((r : Patterns) → Premises (IsNfaOf fwd.nfa r) None r (from_start v start) → IsWhole fwd.kind r v start (Some m))
          → IsMatchAt fwd rev needles v now m
      inner-matched m whole = record { start = start; least = begins; whole = whole }

      -- what the search forwards told of it
      pub inner-tried : (result : Result (Result MatchValue ℕ) RetryError)
          → ((r : Patterns) → Premises (IsNfaOf fwd.nfa r) None r (from_start v start)
          → IfOk result (λ told. IsWhole fwd.kind r v start (match_found told)))
          → IfOk result (λ told. IfErr told (λ place. place ≡ stop_forwards fwd (from_start v start)))
          → IfOk result (IsTried fwd rev needles v now stopped)
      inner-tried (Err e) whole stop = tt
      inner-tried (Ok (Ok m)) whole stop = inner-matched m whole
      inner-tried (Ok (Err place)) whole stop = inner-stopped place stop whole

  -- a search forwards that stopped is still one that did
  stopped-later : (before after stopped : ℕ) → before ≤ after → IsStopped fwd rev needles v before stopped → IsStopped fwd rev needles v after stopped
  stopped-later before after stopped le s =
      let lt = s.earlier in
      record {
        last = s.last;
        taken = s.taken;
        earlier = omega arith;
        start = s.start;
        least = s.least;
        stop = s.stop;
        no_run = s.no_run;
      }

  module _ (from min_start stopped old mid : ℕ) (on : GoesOn fwd rev needles v from min_start stopped old mid) where
    none-to : (to : ℕ) → NoneBetween needles v from to → NoInnerBefore fwd rev needles v to
    none-to to none r nfa p c i lt conf =
        by_test (nat_lt c from)
        (λ e. on.none r nfa p c i (grind (arith, nat_tests)) conf)
        (λ e. none c (grind (arith, nat_tests)) lt conf.candidate)

    -- nothing is left: no candidate is confirmed
    pub inner-over : IsNextCandidate needles v from None → (place : ℕ) → NoInnerBefore fwd rev needles v place
    inner-over none place = none-to place (λ c low lt. none c low)

    module _ (now : Span) (next : IsNextCandidate needles v from (Some now)) where
      pub inner-turn : IsTurn fwd rev needles v now min_start stopped
      inner-turn = record {
        taken = next.0;
        least = by_course on.course;
        stop = by_stop on.stop;
        none = none-to now.start next.2;
      }
        where
          by_course : IsCourse needles v from min_start → IsLeastRead needles v min_start now.start
          by_course (inl f) = inl (f.1, subst (λ k. NoneBetween needles v k now.start) f.0 next.2)
          by_course (inr b) =
              let low = next.1 in
              let at = b.2 in
              inr (
                b.0,
                record {
                  taken = b.1;
                  before = omega arith;
                  last = subst (λ k. NoneBetween needles v k now.start) b.2 next.2;
                },
                b.3,
              )

          by_stop : HasStopped fwd rev needles v from stopped → HasStopped fwd rev needles v now.start stopped
          by_stop (inl none) = inl none
          by_stop (inr s) = inr (stopped-later from now.start stopped next.1 s)

      reads-from : ReadsFrom v from min_start
      reads-from = by_course on.course
        where
          by_course : IsCourse needles v from min_start → ReadsFrom v from min_start
          by_course (inl f) = inl f.0
          by_course (inr b) =
              let ends = (taken-long needles v within some b.0 b.1).0 in
              let at = b.2 in
              let least = b.3 in
              inr (omega arith)

      -- the candidate is not confirmed, so the search goes on
      module _ (place new : ℕ) (passed : IsPassed fwd rev needles v now stopped place) (high : place ≤ v.end)
          (few : TakesFew v now.start min_start mid new place) (guard : stopped ≤ now.start) where
        lt : now.start < now.end
        lt = (taken-long needles v within some now next.0).0

        le : now.end ≤ v.end
        le = (taken-long needles v within some now next.0).1

        abbrev after : ℕ
        after = now.start + 1

        none-after : NoInnerBefore fwd rev needles v after
        none-after r nfa p c i below conf =
            by_test (nat_lt c now.start)
            (λ e. none-to now.start next.2 r nfa p c i (grind (arith, nat_tests)) conf)
            (λ e.
            let at : c ≡ now.start = grind (arith, nat_tests) in
            passed.none r nfa p i (subst (λ k. IsInnerOf p k i) at conf))

        stop-after : HasStopped fwd rev needles v after place
        stop-after = by_stop passed.stop on.stop
          where
            by_stop : (place ≡ stopped) ⊎ IsStopped fwd rev needles v after place → HasStopped fwd rev needles v from stopped
                → HasStopped fwd rev needles v after place
            by_stop (inl same) (inl none) = inl (same ∙ none)
            by_stop (inl same) (inr s) =
                let low = next.1 in
                inr (subst (λ k. IsStopped fwd rev needles v after k) (sym same) (stopped-later from after stopped (omega arith) s))
            by_stop (inr s) h = inr s

        -- the place up to which bytes were read is not behind the candidate
        reached : on.reach ≤ now.start
        reached = by_reach on.reach_is
          where
            by_reach : (on.reach ≡ from) ⊎ (on.reach ≡ stopped) → on.reach ≤ now.start
            by_reach (inl e) = let low = next.1 in omega (arith, e, low)
            by_reach (inr e) = omega (arith, e, guard)

        abbrev goes : ℕ → Type 0
        goes reach = ((reach ≡ after) ⊎ (reach ≡ place)) × (after ≤ reach) × (place ≤ reach) × (new ≤ old + 4 * (after - v.start) + (reach - v.start))

        next-reach : (reach : ℕ) × goes reach
        next-reach =
            let taken = few from on.low next.1 reads-from in
            let before = on.steps in
            let up = reached in
            let start = on.low in
            let low = next.1 in
            by_test (nat_lt place after)
            (λ e.
            let below : place < after = grind (arith, nat_tests) in
            (after, (inl refl, omega arith, omega arith, omega (arith, taken, before, up, start, low, below))))
            (λ e.
            let above : after ≤ place = grind (arith, nat_tests) in
            (place, (inr refl, above, omega arith, omega (arith, taken, before, up, start, low, above))))

        pub inner-on : GoesOn fwd rev needles v after now.end place old new
        inner-on =
            let g = next-reach in
            let start = on.low in
            let low = next.1 in
            let fits = le in
            let long = lt in
            record {
              low = omega arith;
              high = omega arith;
              none = none-after;
              course = inr (now, next.0, refl, refl);
              stop = stop-after;
              stop_high = high;
              reach = g.0;
              reach_is = g.1.0;
              from_in = g.1.1;
              stop_in = g.1.2;
              steps = g.1.3;
            }

    -- the steps so far, and those of one candidate more
    pub inner-total : (new : ℕ) → new ≤ mid + 2 * (v.end - v.start) + 2 → new ≤ old + 8 * (v.end - v.start + 1)
    inner-total new few = by_reach on.reach_is
      where
        by_reach : (on.reach ≡ from) ⊎ (on.reach ≡ stopped) → new ≤ old + 8 * (v.end - v.start + 1)
        by_reach (inl e) =
            let taken = on.steps in
            let start = on.low in
            let end = on.high in
            omega (arith, few, taken, e, start, end)
        by_reach (inr e) =
            let taken = on.steps in
            let start = on.low in
            let end = on.high in
            let stop = on.stop_high in
            omega (arith, few, taken, e, start, end, stop)

  -- What the attempt answers.
  module _ (kind : MatchKind) (is_free : v.anchor ≡ free) (r : Patterns) (nfa : IsNfaOf fwd.nfa r) (p : IsByInner rev needles r v) where
    pub inner-nothing : ((place : ℕ) → NoInnerBefore fwd rev needles v place) → IsAnswerFor kind r v match_value None
    inner-nothing none =
        nothing-answer kind r v is_free
        (none-next r p.expression p.is p.ordered v.haystack v.end v.start (inner-permitted rev needles some v within r p)
        ((p.order r.terminator v.haystack v.start v.end).none (λ c i conf. none (c + 1) r nfa p c i (omega arith) conf)))

  module _ (is_free : v.anchor ≡ free) (r : Patterns) (nfa : IsNfaOf fwd.nfa r) (p : IsByInner rev needles r v) (now : Span) (min_start stopped : ℕ)
      (turn : IsTurn fwd rev needles v now min_start stopped) (cand : IsCandidate needles v now.start) (m : MatchValue)
      (at : IsMatchAt fwd rev needles v now m) where
    whole : IsWhole fwd.kind r v at.start (Some m)
    whole = at.whole r (from-premises fwd rev needles v at.start r nfa p)

    begins-there : IsLeast v.start (λ k. Means r.terminator v.haystack p.prefix k now.start) at.start.offset × (at.start.pattern ≡ 0)
    begins-there = at.least r p

    confirmed : IsInnerOf p now.start at.start.offset
    confirmed = record {
      candidate = cand;
      start = begins-there.0;
      match_start = whole-starts r p.expression p.is p.ordered v at.start begins-there.1 fwd.kind m whole;
    }

    least : IsLeast v.start (IsMatchStart r.terminator v.haystack v.end p.expression) at.start.offset
    least = (p.order r.terminator v.haystack v.start v.end).some now.start at.start.offset confirmed (λ d k lt conf. turn.none r nfa p d k lt conf)

    pub inner-answer : IsAnswerFor fwd.kind r v match_value (Some m)
    inner-answer =
        let n = least-next r p.expression p.is p.ordered v.haystack v.end v.start (inner-permitted rev needles some v within r p) at.start.offset least in
        whole-answer r p.expression p.is p.ordered v at.start begins-there.1 fwd.kind m whole is_free least.inside n.0 n.1 n.2

-- the steps of a candidate's two searches
pub ended-few : (v : InputValue) (at min_start old mid new offset : ℕ)
    → ((place : ℕ) → new ≤ mid + (place - offset) + 1 → TakesFew v at min_start old new place)
    → (result : Result (Result MatchValue ℕ) RetryError)
    → IfOk result (λ told. IfErr told (λ place. (place ≤ v.end) × (new ≤ mid + (place - offset) + 1)))
    → IfOk result (λ told. IfErr told (λ place. TakesFew v at min_start old new place))
ended-few v at min_start old mid new offset few (Err e) h = tt
ended-few v at min_start old mid new offset few (Ok (Ok m)) h = tt
ended-few v at min_start old mid new offset few (Ok (Err place)) h = few place h.1
