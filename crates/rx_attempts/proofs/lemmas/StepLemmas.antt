-- A search forwards takes no more steps than there are bytes up to the place where it stops, and one.
use Rattle.std.proofs.Common.{◌≡◌, ℕ, zero, suc, ◌+◌, ◌-◌, ◌≤◌, refl, inl, inr, arith}
use Rattle.std.specs.Prelude.{true, nat_le}
use Rattle.std.proofs.lemmas.Bool.Decides.{nat_tests}
use Rattle.rx_model.specs.Look.{byte_before}
use Rattle.rx_model.proofs.lemmas.runs.RunLemmas.{by_test}
use Rattle.rx_search.specs.Input.{InputValue}
use Rattle.rx_nfa.specs.Automaton.{Surroundings, forwards}
use Rattle.rx_determinize.specs.Key.{Key, is_dead}
use Rattle.rx_dfa.specs.Automaton.{Dfa, first_key, next_key}
use Rattle.rx_limited.specs.Calls.{calls, calls_forwards}
use Rattle.rx_limited.specs.Stopat.{left_dead, stop_forwards}
use Rattle.rx_search.specs.Matches.{HalfMatchValue}
use Rattle.rx_attempts.specs.Inputs.{up_to, from_start}
use Rattle.rx_attempts.specs.Inner.{TakesFew}
use Rattle.rx_limited.specs.Calls.{calls_backwards}
use Rattle.rx_limited.proofs.lemmas.CountLemmas.{backwards-few, forwards-few}
use Rattle.rx_limited.proofs.lemmas.CallLemmas.{calls-step, calls-last, calls-dead, left-on, left-here, left-end}

module _ (d : Dfa) (around : Surroundings) where
  left-between : (n i : ℕ) (k : Key) → (i ≤ left_dead d around n i k) × (left_dead d around n i k ≤ i + n)
  left-between zero i k = let e = left-end d around i k in (omega (arith, e), omega (arith, e))
  left-between (suc n) i k =
      by_test (is_dead (next_key d k (around.byte i)))
      (λ dead. let e = left-here d around n i k dead in (omega (arith, e), omega (arith, e)))
      (λ alive.
      let e = left-on d around n i k alive in
      let later = left-between n (i + 1) (next_key d k (around.byte i)) in
      let low = later.0 in
      let high = later.1 in
      (omega (arith, e, low), omega (arith, e, high)))

  calls-stop : (n i : ℕ) (k : Key) → calls d around n i k ≤ left_dead d around n i k - i + 1
  calls-stop zero i k =
      by_test (is_dead k)
      (λ dead. let none = calls-dead d around 0 i k dead in omega (arith, none))
      (λ alive. let one = calls-last d around i k alive in omega (arith, one))
  calls-stop (suc n) i k =
      by_test (is_dead k)
      (λ dead. let none = calls-dead d around (suc n) i k dead in omega (arith, none))
      (λ alive. by_test (is_dead (next_key d k (around.byte i)))
      (λ dead.
      let more = calls-step d around n i k alive in
      let none = calls-dead d around n (i + 1) (next_key d k (around.byte i)) dead in
      omega (arith, more, none))
      (λ on.
      let more = calls-step d around n i k alive in
      let e = left-on d around n i k on in
      let rest = calls-stop n (i + 1) (next_key d k (around.byte i)) in
      let low = (left-between n (i + 1) (next_key d k (around.byte i))).0 in
      omega (arith, more, e, rest, low)))

module _ (d : Dfa) (v : InputValue) (in_order : v.start ≤ v.end) where
  abbrev around : Surroundings
  around = forwards d.nfa.terminator v.haystack

  abbrev first : Key
  first = first_key d v.anchor (byte_before v.haystack v.start)

  in-span : nat_le v.start v.end ≡ true
  in-span = grind (arith, nat_tests)

  stop-is : stop_forwards d v ≡ left_dead d around (v.end - v.start) v.start first
  stop-is = rw in-span refl

  calls-are : calls_forwards d v ≡ calls d around (v.end - v.start) v.start first
  calls-are = rw in-span refl

  pub stop-inside : (v.start ≤ stop_forwards d v) × (stop_forwards d v ≤ v.end)
  stop-inside =
      let e = stop-is in
      let between = left-between d around (v.end - v.start) v.start first in
      let low = between.0 in
      let high = between.1 in
      (omega (arith, e, low), omega (arith, e, high))

  pub calls-to-stop : calls_forwards d v ≤ stop_forwards d v - v.start + 1
  calls-to-stop =
      let e = stop-is in
      let f = calls-are in
      let few = calls-stop d around (v.end - v.start) v.start first in
      omega (arith, e, f, few)

-- The steps of a search forwards from a start of the span.
module _ (d : Dfa) (v : InputValue) (h : HalfMatchValue) (low : v.start ≤ h.offset) (high : h.offset ≤ v.end) (old new : ℕ)
    (most : new ≤ old + calls_forwards d (from_start v h)) where
  pub end-most : new ≤ old + (v.end - v.start) + 1
  end-most = let few = forwards-few d (from_start v h) in omega (arith, most, few)

  pub end-few : (place : ℕ) → place ≡ stop_forwards d (from_start v h) → (place ≤ v.end) × (new ≤ old + (place - h.offset) + 1)
  end-few place stop =
      let few = calls-to-stop d (from_start v h) high in
      let to = (stop-inside d (from_start v h) high).1 in
      (omega (arith, stop, to), omega (arith, most, stop, few))

-- Those of a search backwards from a place of the span.
module _ (d : Dfa) (v : InputValue) (at : ℕ) (low : v.start ≤ at) (high : at ≤ v.end) (old mid : ℕ)
    (most : mid ≤ old + calls_backwards d (up_to v at)) where
  pub back-most : mid ≤ old + (v.end - v.start) + 1
  back-most = let few = backwards-few d (up_to v at) in omega (arith, most, few)

  module _ (min_start : ℕ) (few : mid ≤ old + (at - min_start) + 2) where
    pub back-few : (place : ℕ) → TakesFew v at min_start old mid place
    back-few place from from_low from_high (inl first) = let all = backwards-few d (up_to v at) in omega (arith, most, all, first)
    back-few place from from_low from_high (inr later) = omega (arith, few, later)

    -- and of one forwards from the start that it found
    pub both-few : (offset : ℕ) → v.start ≤ offset → at ≤ offset + (at - min_start) + 1 → (new place : ℕ) → new ≤ mid + (place - offset) + 1
        → TakesFew v at min_start old new place
    both-few offset start near new place taken from from_low from_high (inl first) =
        let all = backwards-few d (up_to v at) in
        omega (arith, most, all, first, taken)
    both-few offset start near new place taken from from_low from_high (inr later) = omega (arith, few, later, near, taken)
