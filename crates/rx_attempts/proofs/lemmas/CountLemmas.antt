-- The steps of an attempt, candidate by candidate.
use Rattle.std.proofs.Common.{◌≡◌, ℕ, ◌+◌, ◌<◌, ◌≤◌, List, [], ◌∷◌, inr, refl, sym, ap, subst, arith}
use Rattle.std.specs.Prelude.{Option, Some, None, IfSome, Result, Ok, Err, IfOk, OnOk, nat_lt}
use Rattle.std.specs.Result.{IfErr}
use Rattle.std.proofs.lemmas.Bool.Decides.{nat_tests}
use Rattle.rx_model.proofs.lemmas.runs.RunLemmas.{by_test}
use Rattle.rx_search.specs.Input.{InputValue}
use Rattle.rx_search.specs.Matches.{MatchValue, HalfMatchValue}
use Rattle.rx_search.specs.declared.span.Span.{Span}
use Rattle.rx_dfa.specs.Automaton.{Dfa}
use Rattle.rx_limited.specs.Calls.{calls_backwards, calls_forwards}
use Rattle.rx_limited.specs.Limited.{FindsStart}
use Rattle.rx_limited.specs.Stopat.{stop_forwards}
use Rattle.rx_limited.specs.declared.retry_error.RetryError.{RetryError}
use Rattle.rx_attempts.specs.Inputs.{up_to, from_start}
use Rattle.rx_attempts.specs.Candidates.{IsNextCandidate, NoneBetween}
use Rattle.rx_attempts.specs.Counts.{Trial, BeginsAt, stop_after, last_end, last_stop, steps_at, steps_of, IsUnguarded, AreTried, Counts, Leaves, HasCountedAll, HasCounted, HasCountedFirst, HasCountedBack, HasTried}
use Rattle.rx_attempts.specs.Whole.{match_found}

module _ (fwd rev : Dfa) (needles : List (List ℕ)) (v : InputValue) (place : Span → ℕ) where
  pub counts-fresh : (old : ℕ) → Counts fwd rev needles v place v.start old old
  counts-fresh old = record { trials = []; tried = λ c low lt x. omega arith; steps = omega arith }

  pub leaves-fresh : (old : ℕ) → Leaves fwd rev needles v place v.start 0 0 old old
  leaves-fresh old = record {
    counts = record { trials = []; tried = λ c low lt x. omega arith; steps = omega arith };
    least = refl;
    stop = refl;
  }

  -- none lies between
  joined : (from mid to : ℕ) → NoneBetween needles v from mid → NoneBetween needles v mid to → NoneBetween needles v from to
  joined from mid to first later c low lt x =
      by_test (nat_lt c mid) (λ e. first c low (grind (arith, nat_tests)) x) (λ e. later c (grind (arith, nat_tests)) lt x)

  tried-later : (before after : ℕ) → before ≤ after → NoneBetween needles v before after → (ts : List Trial) → AreTried fwd rev needles v place before ts
      → AreTried fwd rev needles v place after ts
  tried-later before after le none [] h = joined v.start before after h none
  tried-later before after le none (t ∷ ts) h =
      let lt = h.0.before in (
        record { taken = h.0.taken; before = omega arith; last = joined (t.candidate.start + 1) before after h.0.last none },
        h.1,
        h.2,
        h.3,
      )

  module _ (from min_start stopped old mid : ℕ) (l : Leaves fwd rev needles v place from min_start stopped old mid) (now : Span)
      (next : IsNextCandidate needles v from (Some now)) where
    -- the guards are those that the trials leave
    own-guards : (start : Option HalfMatchValue) → IsUnguarded fwd rev needles v place now min_start stopped start
        → IsUnguarded fwd rev needles v place now (last_end l.counts.trials) (last_stop fwd v l.counts.trials) start
    own-guards start free =
        subst (λ m. IsUnguarded fwd rev needles v place now m (last_stop fwd v l.counts.trials) start) l.least
        (subst (λ s. IsUnguarded fwd rev needles v place now min_start s start) l.stop free)

    -- with the steps of one candidate more
    pub leaves-add : (start : Option HalfMatchValue) → FindsStart rev (up_to v (place now)) start
        → IsUnguarded fwd rev needles v place now min_start stopped start → (new : ℕ) → new ≡ mid + steps_at fwd rev needles v place now start
        → Leaves fwd rev needles v place (now.start + 1) now.end (stop_after fwd v stopped start) old new
    leaves-add start back free new taken =
        let so_far = l.counts.steps in
        record {
          counts = record {
            trials = record { candidate = now; start = start } ∷ l.counts.trials;
            tried = (
              record { taken = next.0; before = omega arith; last = λ c low lt x. omega arith },
              back,
              own-guards start free,
              tried-later from now.start next.1 next.2 l.counts.trials l.counts.tried,
            );
            steps = added old mid new (steps_of fwd rev needles v place l.counts.trials) (steps_at fwd rev needles v place now start) so_far taken;
          };
          least = refl;
          stop = ap (λ s. stop_after fwd v s start) l.stop;
        }
      where
        added : (old mid new sum more : ℕ) → mid ≡ old + sum → new ≡ mid + more → new ≡ old + (sum + more)
        added old mid new sum more e f = omega arith

    -- where it gave this match
    pub counted-tried : (new : ℕ) (m : MatchValue) → HasTried fwd rev needles v place now min_start stopped mid new (Ok m)
        → HasCounted fwd rev needles v place old new (Some m)
    unfolding leaves-add
    counted-tried new m t = (now.start + 1, (leaves-add t.0 t.1 t.2 new t.3).counts, t.4)

    pub leaves-tried : (new stop : ℕ) → HasTried fwd rev needles v place now min_start stopped mid new (Err stop)
        → Leaves fwd rev needles v place (now.start + 1) now.end stop old new
    leaves-tried new stop t =
        subst (λ s. Leaves fwd rev needles v place (now.start + 1) now.end s old new) (sym t.5) (leaves-add t.0 t.1 t.2 new t.3)

    -- where the search backwards from it found a start
    pub counted-back : (start : HalfMatchValue) → FindsStart rev (up_to v (place now)) (Some start)
        → IsUnguarded fwd rev needles v place now min_start stopped (Some start) → (new : ℕ) → new ≡ mid + calls_backwards rev (up_to v (place now))
        → HasCountedBack fwd rev needles v place old new (Some start)
    counted-back start back free new taken = (
      now,
      mid,
      record {
        trials = l.counts.trials;
        tried = tried-later from now.start next.1 next.2 l.counts.trials l.counts.tried;
        steps = l.counts.steps;
      },
      next.0,
      back,
      own-guards (Some start) free,
      taken,
    )

  -- before the first candidate, where the span ends before it starts
  pub counted-past : (old : ℕ) → v.end < v.start → HasCountedAll fwd rev needles v place old old
  counted-past old past = (v.start, counts-fresh old, λ c low x. let inside = x.2.0 in let ends = x.2.2 in omega arith)

  -- after a search backwards that found this start, and one forwards
  pub counted-found : (old mid : ℕ) (start : HalfMatchValue) → HasCountedBack fwd rev needles v place old mid (Some start) → (new : ℕ)
      → new ≡ mid + calls_forwards fwd (from_start v start) → (found : Option MatchValue) → IfSome found (λ m. m.start ≡ start.offset)
      → HasCountedFirst fwd rev needles v place old new found
  counted-found old mid start b new taken found begins =
      let now = b.0 in
      let counts = b.2 in
      let whole : Counts fwd rev needles v place (now.start + 1) old new = record {
        trials = record { candidate = now; start = Some start } ∷ counts.trials;
        tried = (record { taken = b.3; before = omega arith; last = λ c low lt x. omega arith }, b.4, b.5, counts.tried);
        steps = added old b.1 mid new (steps_of fwd rev needles v place counts.trials) (calls_backwards rev (up_to v (place now)))
            (calls_forwards fwd (from_start v start)) counts.steps b.6 taken;
      } in
      there found begins (now.start + 1) whole (start, refl, refl)
    where
      added : (old before mid new sum back more : ℕ) → before ≡ old + sum → mid ≡ before + back → new ≡ mid + more → new ≡ old + (sum + (back + more))
      added old before mid new sum back more e f g = omega arith

      there : (found : Option MatchValue) → IfSome found (λ m. m.start ≡ start.offset) → (before : ℕ) (c : Counts fwd rev needles v place before old new)
          → BeginsAt start.offset c.trials → HasCountedFirst fwd rev needles v place old new found
      there None h before c last = inr (start.offset, (before, c, last))
      there (Some m) h before c last = (before, c, subst (λ i. BeginsAt i c.trials) (sym h) last)

module _ (fwd rev : Dfa) (needles : List (List ℕ)) (v : InputValue) (place : Span → ℕ) (now : Span) (min_start stopped old : ℕ) where
  -- the steps of one candidate, where the search backwards found this start
  pub tried-found : (mid new : ℕ) (start : HalfMatchValue) → FindsStart rev (up_to v (place now)) (Some start)
      → IsUnguarded fwd rev needles v place now min_start stopped (Some start) → mid ≡ old + calls_backwards rev (up_to v (place now))
      → new ≡ mid + calls_forwards fwd (from_start v start) → (told : Result MatchValue ℕ) → IfSome (match_found told) (λ m. m.start ≡ start.offset)
      → IfErr told (λ stop. stop ≡ stop_forwards fwd (from_start v start)) → HasTried fwd rev needles v place now min_start stopped old new told
  tried-found mid new start back free first later told begins stops = (
    Some start,
    back,
    free,
    added mid new (calls_backwards rev (up_to v (place now))) (calls_forwards fwd (from_start v start)) first later,
    there (match_found told) begins,
    stops,
  )
    where
      added : (mid new back more : ℕ) → mid ≡ old + back → new ≡ mid + more → new ≡ old + (back + more)
      added mid new back more e f = omega arith

      there : (found : Option MatchValue) → IfSome found (λ m. m.start ≡ start.offset)
          → IfSome found (λ m. (h : HalfMatchValue) × (Some start ≡ Some h) × (h.offset ≡ m.start))
      there None h = tt
      there (Some m) h = (start, refl, sym h)

  -- or nothing
  pub tried-nothing : (new : ℕ) → FindsStart rev (up_to v (place now)) None → IsUnguarded fwd rev needles v place now min_start stopped None
      → new ≡ old + calls_backwards rev (up_to v (place now)) → HasTried fwd rev needles v place now min_start stopped old new (Err stopped)
  tried-nothing new back free taken = (None, back, free, omega (arith, taken), tt, refl)

  pub result-tried : (mid new : ℕ) (start : HalfMatchValue) → FindsStart rev (up_to v (place now)) (Some start)
      → IsUnguarded fwd rev needles v place now min_start stopped (Some start) → mid ≡ old + calls_backwards rev (up_to v (place now))
      → (result : Result (Result MatchValue ℕ) RetryError) → OnOk result (new ≡ mid + calls_forwards fwd (from_start v start))
      → IfOk result (λ told. IfSome (match_found told) (λ m. m.start ≡ start.offset))
      → IfOk result (λ told. IfErr told (λ stop. stop ≡ stop_forwards fwd (from_start v start)))
      → IfOk result (HasTried fwd rev needles v place now min_start stopped old new)
  result-tried mid new start back free first (Err e) later begins stops = tt
  result-tried mid new start back free first (Ok told) later begins stops = tried-found mid new start back free first later told begins stops
