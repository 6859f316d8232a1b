-- A chain of byte states reads its bytes.
use Rattle.std.proofs.Common.{◌≡◌, ℕ, suc, ◌+◌, ◌≤◌, ◌<◌, List, [], ◌∷◌, length, Option, None, slice_index, refl, sym, ◌∙◌, ap, arith, drop-cons}
use Rattle.std.specs.Prelude.{Bool, true, false, ◌&&◌, if◌then◌else◌, nat_lt, nat_le, nat_eq, option_map}
use Rattle.std.proofs.lemmas.Bool.Decides.{nat_tests}
use Rattle.rx_model.specs.Text.{stands_at}
use Rattle.rx_model.specs.Runs.{Configuration, PriorityGraph, Passed, Sieve, sifted, sieved, and_at, Trace, with_write, found, first_some}
use Rattle.rx_model.proofs.lemmas.runs.RunLemmas.{by_test}
use Rattle.rx_model.proofs.lemmas.runs.FoundLemmas.{found-step, found-forget}
use Rattle.rx_model.proofs.lemmas.graphs.SieveLemmas.{sieved-bounded, sieved-rises}
use Rattle.rx_model.proofs.lemmas.runs.WriteLemmas.{write-nothing-alone}
use Rattle.rx_nfa.specs.Automaton.{at, state_step, state_accepts, state_writes, Surroundings, forwards, automaton_over}
use Rattle.rx_nfa.specs.States.{Stands}
use Rattle.rx_nfa.specs.Built.{IsChain}
use Rattle.rx_nfa.specs.declared.state.State.{State}
use Rattle.rx_nfa.specs.declared.state.State.TheVariants.{ByteRange}
use Rattle.rx_nfa.proofs.lemmas.runs.AutomatonLemmas.{automaton-bounded, automaton-rises, automaton-successors, automaton-accepted, automaton-written}
use Rattle.rx_nfa.proofs.lemmas.runs.StateLemmas.{and_at-later}

pub stands-none : (text : List ℕ) (i : ℕ) → stands_at text i [] ≡ true
unfolding stands_at
stands-none text i = refl

pub stands-cons : (text : List ℕ) (i b : ℕ) (bytes : List ℕ) → i < length text
    → stands_at text i (b ∷ bytes) ≡ (nat_eq b (slice_index text i) && stands_at text (suc i) bytes)
unfolding stands_at
stands-cons text i b bytes lt = rw (drop-cons text i 0) refl

module _ (ok : Sieve) (around : Surroundings) (whole : List State) (end low : ℕ) where
  abbrev pub m : PriorityGraph
  m = sieved ok (automaton_over around whole end)

  -- what is found from state r, after n bytes from i on
  abbrev pub after : Passed → (r i : ℕ) → Bool → ℕ → Option Trace
  after p r i stands n = if stands && nat_le (i + n) end then found m p (at r (i + n)) else None

  after-none : (p : Passed) (r i : ℕ) (stands : Bool) (n : ℕ) → end < i + n → after p r i stands n ≡ None
  after-none p r i true n lt = let e : nat_le (i + n) end ≡ false = grind (arith, nat_tests) in rw e refl
  after-none p r i false n lt = refl

  -- what is found from a state that reads a byte
  byte-found : (p : Passed) (q i b next : ℕ) → i ≤ end → Stands low whole q (ByteRange b b next) → p (at q i) ≡ false
      → found m p (at q i) ≡ (if nat_lt i end && nat_eq b (around.byte i) then found m p (at next (i + 1)) else None)
  byte-found p q i b next le s new =
      found-step m p (sieved-bounded ok (automaton_over around whole end) (automaton-bounded around whole end)) (at q i) new
      (ap (sifted ok i) (automaton-accepted around whole end q i s.inside le ∙ ap state_accepts s.is))
      ∙ (λ j. option_map (with_write (written j) i) (first_some (found m (and_at (at q i) p)) (successors j)))
      ∙ by_test (nat_lt i end)
      (λ e. rw e (by_test (nat_eq b (around.byte i))
      (λ k. let hit : (nat_le b (around.byte i) && nat_le (around.byte i) b) ≡ true = grind (arith, nat_tests) in
      rw (hit, k) (write-nothing-alone i (found m (and_at (at q i) p) (at next (i + 1)))
      ∙ found-forget m (sieved-rises ok (automaton_over around whole end) (automaton-rises around whole end)) (and_at (at q i) p) p (at next (i + 1))
      (λ d later. and_at-later q i p d later)))
      (λ k. let miss : (nat_le b (around.byte i) && nat_le (around.byte i) b) ≡ false = grind (arith, nat_tests) in rw (miss, k) refl)))
      (λ e. rw e refl)
    where
      written : m.written (at q i) ≡ None
      written = automaton-written around whole end q i ∙ ap state_writes s.is

      successors : m.successors (at q i) ≡ state_step around end (ByteRange b b next) i
      successors = automaton-successors around whole end q i s.inside le ∙ ap (λ t. state_step around end t i) s.is

module _ (ok : Sieve) (terminator : ℕ) (whole : List State) (text : List ℕ) (end : ℕ) (inside : end ≤ length text) (low : ℕ) where
  abbrev around : Surroundings
  around = forwards terminator text

  pub chain-found : (p : Passed) (q : ℕ) (bytes : List ℕ) (r i : ℕ) → i ≤ end → IsChain (Stands low whole) q bytes r → p (at q i) ≡ false
      → ((d : Configuration) → i < d.place → p d ≡ false) → found (m ok around whole end low) p (at q i) ≡ after ok around whole end low p r i
      (stands_at text i bytes) (length bytes)
  chain-found p q [] r i le c new ahead =
      let e : i ≡ i + 0 = omega arith in
      let fits : nat_le (i + 0) end ≡ true = grind (arith, nat_tests) in
      rw (stands-none text i, fits) (λ j. found (m ok around whole end low) p (at (c j) (e j)))
  chain-found p q (b ∷ bytes) r i le c new ahead =
      byte-found ok around whole end low p q i b c.0 le c.1 new
      ∙ by_test (nat_lt i end)
      (λ e.
      let lt : i < end = grind (arith, nat_tests) in
      let stands = stands-cons text i b bytes (omega arith) in
      rw e (by_test (nat_eq b (slice_index text i))
      (λ k. let on : suc i ≡ i + 1 = omega arith in
      let same : stands_at text i (b ∷ bytes) ≡ stands_at text (i + 1) bytes = stands ∙ rw k (ap (λ n. stands_at text n bytes) on) in
      let place : i + 1 + length bytes ≡ i + suc (length bytes) = omega arith in
      rw k (chain-found p c.0 bytes r (i + 1) (omega arith) c.2 (ahead (at c.0 (i + 1)) (omega arith)) (λ d l. ahead d (omega arith))
      ∙ (λ j. if sym same j && nat_le (place j) end then found (m ok around whole end low) p (at r (place j)) else None)))
      (λ k. let gone : stands_at text i (b ∷ bytes) ≡ false = stands ∙ rw k refl in rw (k, gone) refl)))
      (λ e. rw e (sym (after-none ok around whole end low p r i (stands_at text i (b ∷ bytes)) (suc (length bytes))
      (let past : end ≤ i = grind (arith, nat_tests) in omega arith))))
