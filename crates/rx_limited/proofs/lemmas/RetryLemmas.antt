-- Errors of an automaton, as errors of a search that may stop early.
use Rattle.std.proofs.Common.{◌≡◌, ℕ, ◌<◌, refl, subst, inl, inr}
use Rattle.std.specs.Prelude.{Option, Some, false}
use Rattle.rx_search.specs.Matches.{HalfMatchValue}
use Rattle.rx_determinize.specs.Key.{is_dead}
use Rattle.rx_search.specs.Input.{InputValue}
use Rattle.rx_search.specs.declared.match_error.MatchError.{MatchError}
use Rattle.rx_search.specs.declared.match_error.MatchError.TheVariants.{Quit, GaveUp, HaystackTooLong, UnsupportedAnchored, Memory}
use Rattle.rx_nfa.specs.Nfa.{Nfa}
use Rattle.rx_dfa.specs.Automaton.{Dfa, StepFails, StartFails}
use Rattle.rx_dfa.specs.Course.{placed}
use Rattle.rx_dfa.specs.Search.{SearchFails}
use Rattle.rx_dfa.specs.declared.step_error.StepError.{StepError}
use Rattle.rx_dfa.specs.declared.step_error.StepError.TheVariants.{Quit as QuitsAt, GaveUp as GivesUp, Memory as WantsMemory}
use Rattle.rx_limited.specs.Limited.{FindsStart, LiesInRange, key_down_to, LimitedFails}
use Rattle.rx_limited.specs.declared.retry_error.Quadratic.TheVariants.{Below, AtStart, Candidate}
use Rattle.rx_limited.specs.Back.{IsOver, IsGuarded, EndFails}
use Rattle.rx_limited.specs.Retry.{retried, JustFails}
use Rattle.rx_limited.specs.declared.retry_error.RetryError.{RetryError}
use Rattle.rx_limited.specs.declared.retry_error.RetryError.TheVariants.{Quadratic, Fail, Memory as Wants}

pub just-fails : (nfa : Nfa) (v : InputValue) (gives_up wants : Type 0) (e : MatchError) → SearchFails nfa v gives_up wants e
    → JustFails nfa v gives_up wants (retried e)
just-fails nfa v gives_up wants (Quit byte offset) h = inl (byte, h)
just-fails nfa v gives_up wants (GaveUp offset) h = inr h
just-fails nfa v gives_up wants (HaystackTooLong len) h = absurd h
just-fails nfa v gives_up wants (UnsupportedAnchored mode) h = absurd h
just-fails nfa v gives_up wants Memory h = h

-- a step over the byte beside a span, if there is one, has no answer
pub step-starts : (nfa : Nfa) (byte : Option ℕ) (beside place : ℕ) (gives_up wants : Type 0) (e : StepError) → StepFails nfa byte gives_up wants e
    → StartFails nfa byte beside place gives_up wants (placed beside place e)
step-starts nfa byte beside place gives_up wants (QuitsAt quit) h = (refl, h.0, h.1)
step-starts nfa byte beside place gives_up wants GivesUp h = (refl, h)
step-starts nfa byte beside place gives_up wants WantsMemory h = h

pub limited-fails : (d : Dfa) (v : InputValue) (min_start : ℕ) (gives_up wants : Type 0) (e : RetryError) → JustFails d.nfa v gives_up wants e
    → LimitedFails d v min_start gives_up wants e
limited-fails d v min_start gives_up wants (Quadratic met) h = absurd h
limited-fails d v min_start gives_up wants (Fail offset) h = h
limited-fails d v min_start gives_up wants Wants h = h

pub end-fails : (d : Dfa) (v : InputValue) (gives_up wants : Type 0) (e : RetryError) → JustFails d.nfa v gives_up wants e
    → EndFails d v gives_up wants e
end-fails d v gives_up wants (Quadratic met) h = absurd h
end-fails d v gives_up wants (Fail offset) h = h
end-fails d v gives_up wants Wants h = h

-- a later start than that of the span was found
pub end-guarded : (d : Dfa) (v : InputValue) (gives_up wants : Type 0) (found : Option HalfMatchValue) (start : ℕ) → start ≡ v.start → IsOver d v found
    → (e : RetryError) → IsGuarded found start e → EndFails d v gives_up wants e
end-guarded d v gives_up wants found start start_is over (Quadratic (Below at least)) h = absurd h
end-guarded d v gives_up wants found start start_is over (Quadratic (AtStart half)) h = (subst (IsOver d v) h.0 over, subst (λ (i : ℕ). i < half.offset) start_is h.1)
end-guarded d v gives_up wants found start start_is over (Quadratic (Candidate at stopped)) h = absurd h
end-guarded d v gives_up wants found start start_is over (Fail offset) h = absurd h
end-guarded d v gives_up wants found start start_is over Wants h = absurd h

-- what a search that was not over at the span's start refuses
pub limited-ends : (d : Dfa) (v : InputValue) (min_start : ℕ) (gives_up wants : Type 0) → is_dead (key_down_to d v v.start) ≡ false
    → ((best : Option HalfMatchValue) → IsOver d v best → FindsStart d v best × LiesInRange d v best)
    → (e : RetryError) → EndFails d v gives_up wants e → LimitedFails d v min_start gives_up wants e
limited-ends d v min_start gives_up wants alive tells (Quadratic (Below at least)) h = absurd h
limited-ends d v min_start gives_up wants alive tells (Quadratic (AtStart half)) h =
    let told = tells (Some half) h.0 in
    record { alive = alive; later = h.1; finds = told.0; lies = told.1 }
limited-ends d v min_start gives_up wants alive tells (Quadratic (Candidate at stopped)) h = absurd h
limited-ends d v min_start gives_up wants alive tells (Fail offset) h = h
limited-ends d v min_start gives_up wants alive tells Wants h = h
