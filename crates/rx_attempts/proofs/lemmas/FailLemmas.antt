-- Errors of an automaton on a part of the span are errors on the span.
use Rattle.std.proofs.Common.{ℕ, ◌≤◌, List, inl, inr, arith}
use Rattle.rx_search.specs.Input.{InputValue}
use Rattle.rx_search.specs.declared.span.Span.{Span}
use Rattle.rx_nfa.specs.Nfa.{Nfa}
use Rattle.rx_dfa.specs.Automaton.{Dfa}
use Rattle.rx_limited.specs.Retry.{FailsAt, JustFails}
use Rattle.rx_limited.specs.Limited.{LimitedFails}
use Rattle.rx_limited.specs.declared.retry_error.Quadratic.{Quadratic as Met}
use Rattle.rx_limited.specs.declared.retry_error.Quadratic.TheVariants.{Below, AtStart, Candidate}
use Rattle.rx_limited.specs.declared.retry_error.RetryError.{RetryError}
use Rattle.rx_limited.specs.declared.retry_error.RetryError.TheVariants.{Quadratic, Fail, Memory}
use Rattle.rx_search.specs.Matches.{HalfMatchValue}
use Rattle.rx_attempts.specs.Stops.{StopsBy}
use Rattle.rx_attempts.specs.declared.patience.Stop.TheVariants.{Retry, Dense}
use Rattle.rx_attempts.specs.declared.patience.Stop.{Stop}
use Rattle.rx_attempts.specs.declared.patience.Patience.{Patience}
use Rattle.rx_attempts.specs.Inputs.{up_to, from_start}
use Rattle.rx_attempts.specs.Candidates.{IsTaken, IsLeastRead}
use Rattle.rx_attempts.specs.Premises.{NoSuffixBefore, NoInnerBefore}
use Rattle.rx_attempts.specs.Refusals.{SuffixFails, InnerFails}
use Rattle.rx_attempts.specs.Suffix.{BackFails}

module _ (nfa : Nfa) (v : InputValue) (gives_up wants : Type 0) where
  pub up-fails : (place : ℕ) → place ≤ v.end → (offset : ℕ) → FailsAt nfa (up_to v place) gives_up wants offset → FailsAt nfa v gives_up wants offset
  up-fails place le offset (inl q) = let f = q.1 in let high = f.1 in inl (q.0, (f.0, omega arith, f.2, f.3))
  up-fails place le offset (inr f) = let high = f.1 in inr (f.0, omega arith, f.2)

  pub from-fails : (h : HalfMatchValue) → v.start ≤ h.offset → (offset : ℕ) → FailsAt nfa (from_start v h) gives_up wants offset
      → FailsAt nfa v gives_up wants offset
  from-fails h le offset (inl q) = let f = q.1 in let low = f.0 in inl (q.0, (omega arith, f.1, f.2, f.3))
  from-fails h le offset (inr f) = let low = f.0 in inr (omega arith, f.1, f.2)

  pub from-just : (h : HalfMatchValue) → v.start ≤ h.offset → (e : RetryError) → JustFails nfa (from_start v h) gives_up wants e → JustFails nfa v gives_up wants e
  from-just h le (Quadratic met) f = f
  from-just h le (Fail offset) f = from-fails h le offset f
  from-just h le Memory f = f

-- what was met by a search backwards is that whatever else may fail
pub met-only : (d : Dfa) (v : InputValue) (min_start : ℕ) (gives_up wants : Type 0) (met : Met) → LimitedFails d v min_start gives_up wants (Quadratic met)
    → LimitedFails d v min_start ⊥ ⊥ (Quadratic met)
met-only d v min_start gives_up wants (Below at least) f = f
met-only d v min_start gives_up wants (AtStart found) f = f
met-only d v min_start gives_up wants (Candidate start stopped) f = f

module _ (rev : Dfa) (needles : List (List ℕ)) (v : InputValue) (now : Span) (taken : IsTaken needles v now) (min_start : ℕ)
    (least : IsLeastRead needles v min_start now.start) (gives_up wants : Type 0) where
  -- a search backwards from a candidate has no answer
  pub suffix-back : now.end ≤ v.end → NoSuffixBefore rev needles v now.start → (e : RetryError)
      → LimitedFails rev (up_to v now.end) min_start gives_up wants e → BackFails rev needles v gives_up wants e
  suffix-back le none (Quadratic met) f = record {
    now = now;
    taken = taken;
    min_start = min_start;
    least = least;
    refused = met-only rev (up_to v now.end) min_start gives_up wants met f;
    none = none;
  }
  suffix-back le none (Fail offset) f = up-fails rev.nfa v gives_up wants now.end le offset f
  suffix-back le none Memory f = f

  pub inner-back : now.start ≤ v.end → (fwd : Dfa) (fwd_gives_up fwd_wants : Type 0) → NoInnerBefore fwd rev needles v now.start → (e : RetryError)
      → LimitedFails rev (up_to v now.start) min_start gives_up wants e → InnerFails fwd rev needles v fwd_gives_up fwd_wants gives_up wants e
  inner-back le fwd fwd_gives_up fwd_wants none (Quadratic met) f = inl (record {
    now = now;
    taken = taken;
    min_start = min_start;
    least = least;
    refused = met-only rev (up_to v now.start) min_start gives_up wants met f;
    none = none;
  })
  inner-back le fwd fwd_gives_up fwd_wants none (Fail offset) f = inr (up-fails rev.nfa v gives_up wants now.start le offset f)
  inner-back le fwd fwd_gives_up fwd_wants none Memory f = inr f

-- why the search backwards has no answer, or that forwards, is why the attempt has none
module _ (fwd rev : Dfa) (needles : List (List ℕ)) (v : InputValue) (gives_up wants rev_gives_up rev_wants : Type 0) where
  pub suffix-by-back : (e : RetryError) → BackFails rev needles v rev_gives_up rev_wants e → SuffixFails fwd rev needles v gives_up wants rev_gives_up rev_wants e
  suffix-by-back (Quadratic met) f = f
  suffix-by-back (Fail offset) f = inr f
  suffix-by-back Memory f = inr f

  pub suffix-by-end : (e : RetryError) → JustFails fwd.nfa v gives_up wants e → SuffixFails fwd rev needles v gives_up wants rev_gives_up rev_wants e
  suffix-by-end (Quadratic met) f = absurd f
  suffix-by-end (Fail offset) f = inl f
  suffix-by-end Memory f = inl f

  pub inner-by-end : (e : RetryError) → JustFails fwd.nfa v gives_up wants e → InnerFails fwd rev needles v gives_up wants rev_gives_up rev_wants e
  inner-by-end (Quadratic met) f = absurd f
  inner-by-end (Fail offset) f = inl f
  inner-by-end Memory f = inl f

-- a stop is one for each weaker reason too
pub stops-weaker : (patience : Patience) (P Q : RetryError → Type 0) (stop : Stop) → ((e : RetryError) → P e → Q e) → StopsBy patience P stop
    → StopsBy patience Q stop
stops-weaker patience P Q (Retry error) f h = f error h
stops-weaker patience P Q Dense f h = h
