-- A search makes no more calls than there are bytes in its span, and one.
use Rattle.std.proofs.Common.{ℕ, zero, suc, ◌+◌, ◌-◌, ◌≤◌, length, arith}
use Rattle.std.specs.Prelude.{Bool, true, false, nat_le, if◌then◌else◌}
use Rattle.rx_model.specs.Look.{byte_before, byte_after}
use Rattle.rx_model.proofs.lemmas.runs.RunLemmas.{by_test}
use Rattle.rx_search.specs.Input.{InputValue}
use Rattle.rx_nfa.specs.Automaton.{Surroundings, forwards, backwards}
use Rattle.rx_determinize.specs.Key.{Key, is_dead}
use Rattle.rx_dfa.specs.Automaton.{Dfa, first_key, next_key}
use Rattle.rx_limited.specs.Calls.{calls, calls_backwards, calls_forwards}
use Rattle.rx_limited.proofs.lemmas.CallLemmas.{calls-step, calls-last, calls-dead}

module _ (d : Dfa) (around : Surroundings) where
  pub calls-few : (n i : ℕ) (k : Key) → calls d around n i k ≤ n + 1
  calls-few zero i k =
      by_test (is_dead k)
      (λ dead. let none = calls-dead d around 0 i k dead in omega (arith, none))
      (λ alive. let one = calls-last d around i k alive in omega (arith, one))
  calls-few (suc n) i k =
      by_test (is_dead k)
      (λ dead. let none = calls-dead d around (suc n) i k dead in omega (arith, none))
      (λ alive.
      let more = calls-step d around n i k alive in
      let few = calls-few n (i + 1) (next_key d k (around.byte i)) in
      omega (arith, more, few))

few-or-none : (b : Bool) (n most : ℕ) → n ≤ most → (if b then n else 0) ≤ most
few-or-none true n most le = le
few-or-none false n most le = omega arith

pub backwards-few : (d : Dfa) (v : InputValue) → calls_backwards d v ≤ v.end - v.start + 1
backwards-few d v =
    few-or-none (nat_le v.start v.end)
    (calls d (backwards d.nfa.terminator v.haystack) (v.end - v.start) (length v.haystack - v.end) (first_key d v.anchor (byte_after v.haystack v.end)))
    (v.end - v.start + 1)
    (calls-few d (backwards d.nfa.terminator v.haystack) (v.end - v.start) (length v.haystack - v.end) (first_key d v.anchor (byte_after v.haystack v.end)))

pub forwards-few : (d : Dfa) (v : InputValue) → calls_forwards d v ≤ v.end - v.start + 1
forwards-few d v =
    few-or-none (nat_le v.start v.end)
    (calls d (forwards d.nfa.terminator v.haystack) (v.end - v.start) v.start (first_key d v.anchor (byte_before v.haystack v.start)))
    (v.end - v.start + 1)
    (calls-few d (forwards d.nfa.terminator v.haystack) (v.end - v.start) v.start (first_key d v.anchor (byte_before v.haystack v.start)))
