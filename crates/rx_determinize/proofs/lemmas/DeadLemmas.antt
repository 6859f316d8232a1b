-- A key without a thread and without the loop stays one, and meets nothing more.
use Rattle.std.proofs.Common.{◌≡◌, ℕ, zero, suc, ◌+◌, List, [], length, refl, ◌∙◌, ap}
use Rattle.std.specs.Prelude.{false, Option, Some, Bool}
use Rattle.rx_model.specs.Look as model
use Rattle.rx_model.proofs.lemmas.runs.RunLemmas.{by_test}
use Rattle.rx_search.specs.Matches.{HalfMatchValue}
use Rattle.rx_search.specs.declared.anchored.MatchKind.{MatchKind}
use Rattle.rx_search.specs.declared.anchored.MatchKind.TheVariants.{All, LeftmostFirst}
use Rattle.rx_nfa.specs.Automaton.{Surroundings, byte_within}
use Rattle.rx_nfa.specs.Ordered.{close, resting, threads_from}
use Rattle.rx_nfa.specs.declared.state.State.{State}
use Rattle.rx_determinize.specs.Key.{Key, Sight, none_known, one_asks, reached, arrived, matching, settled, key_over, step_key, end_key}
use Rattle.rx_determinize.specs.Span.{met, run_keys}
use Rattle.rx_determinize.specs.Permitted.{Progress, met_within, run_within}

close-nil : (states : List State) (holding : model.Look → Bool) (room : ℕ) → close states holding room [] [] ≡ []
unfolding close
close-nil states holding zero = refl
close-nil states holding (suc room) = refl

-- the key without threads
abbrev pub idle : (matches : List ℕ) → (before : Option ℕ) → Key
idle matches before = record { threads = []; loops = false; matches = matches; before = before }

pub is-idle : (k : Key) → k.threads ≡ [] → k.loops ≡ false → k ≡ idle k.matches k.before
is-idle k none over = λ j. record { threads = none j; loops = over j; matches = k.matches; before = k.before }

pub threads-nil : (states : List State) (holding : model.Look → Bool) → threads_from states holding [] ≡ []
threads-nil states holding = ap (resting states) (close-nil states holding (length states))

arrived-nil : (states : List State) → arrived states [] ≡ []
arrived-nil states =
    by_test (one_asks states (reached states []))
    (λ t. rw t (close-nil states none_known (length states)))
    (λ f. rw f (threads-nil states none_known))

pub idle-step : (kind : MatchKind) (states : List State) (start : ℕ) (sight : Sight) (matches : List ℕ) (before : Option ℕ) (byte : ℕ)
    → step_key kind states start sight (idle matches before) byte ≡ idle [] (sight.class byte)
unfolding step_key
idle-step All states start sight matches before byte =
    ap (key_over All states start false byte (sight.class byte)) (threads-nil states (sight.holds before (Some byte)))
    ∙ ap (λ qs. settled All states qs false [] (sight.class byte)) (arrived-nil states)
idle-step LeftmostFirst states start sight matches before byte =
    ap (key_over LeftmostFirst states start false byte (sight.class byte)) (threads-nil states (sight.holds before (Some byte)))
    ∙ ap (λ qs. settled LeftmostFirst states qs false [] (sight.class byte)) (arrived-nil states)

matching-nil : (kind : MatchKind) (states : List State) → matching kind states [] ≡ []
matching-nil All states = refl
matching-nil LeftmostFirst states = refl

pub idle-run : (kind : MatchKind) (states : List State) (start : ℕ) (sight : Sight) (around : Surroundings) (size n i : ℕ) (matches : List ℕ)
    (before : Option ℕ) (best : Option HalfMatchValue)
    → run_keys kind states start sight around size n i (idle matches before) best ≡ best
unfolding run_keys end_key
idle-run kind states start sight around size zero i matches before best =
    ap (λ qs. met (matching kind states qs) i best) (threads-nil states (sight.holds before (byte_within around.byte size i)))
    ∙ ap (λ ms. met ms i best) (matching-nil kind states)
idle-run kind states start sight around size (suc n) i matches before best =
    ap (λ k. run_keys kind states start sight around size n (i + 1) k (met k.matches i best)) (idle-step kind states start sight matches before (around.byte i))
    ∙ idle-run kind states start sight around size n (i + 1) [] (sight.class (around.byte i)) best

-- the same of progress
pub idle-within : (kind : MatchKind) (states : List State) (start : ℕ) (sight : Sight) (around : Surroundings) (may : ℕ → Bool) (size n i : ℕ)
    (matches : List ℕ) (before : Option ℕ) (r : Progress)
    → run_within kind states start sight around may size n i (idle matches before) r ≡ r
unfolding run_within end_key
idle-within kind states start sight around may size zero i matches before r =
    ap (λ qs. met_within may (matching kind states qs) i r) (threads-nil states (sight.holds before (byte_within around.byte size i)))
    ∙ ap (λ ms. met_within may ms i r) (matching-nil kind states)
idle-within kind states start sight around may size (suc n) i matches before r =
    ap (λ k. run_within kind states start sight around may size n (i + 1) k (met_within may k.matches i r))
    (idle-step kind states start sight matches before (around.byte i))
    ∙ idle-within kind states start sight around may size n (i + 1) [] (sight.class (around.byte i)) r

pub no-thread : (kind : MatchKind) (states : List State) (start : ℕ) (sight : Sight) (k : Key) → k.threads ≡ [] → k.loops ≡ false → (byte : ℕ)
    → step_key kind states start sight k byte ≡ idle [] (sight.class byte)
no-thread kind states start sight k none over byte = ap (λ x. step_key kind states start sight x byte) (is-idle k none over)
    ∙ idle-step kind states start sight k.matches k.before byte

pub no-more : (kind : MatchKind) (states : List State) (start : ℕ) (sight : Sight) (around : Surroundings) (size n i : ℕ) (k : Key) → k.threads ≡ []
    → k.loops ≡ false → (best : Option HalfMatchValue)
    → run_keys kind states start sight around size n i k best ≡ best
no-more kind states start sight around size n i k none over best =
    ap (λ x. run_keys kind states start sight around size n i x best) (is-idle k none over)
    ∙ idle-run kind states start sight around size n i k.matches k.before best

pub no-more-within : (kind : MatchKind) (states : List State) (start : ℕ) (sight : Sight) (around : Surroundings) (may : ℕ → Bool) (size n i : ℕ) (k : Key)
    → k.threads ≡ [] → k.loops ≡ false → (r : Progress)
    → run_within kind states start sight around may size n i k r ≡ r
no-more-within kind states start sight around may size n i k none over r =
    ap (λ x. run_within kind states start sight around may size n i x r) (is-idle k none over)
    ∙ idle-within kind states start sight around may size n i k.matches k.before r
