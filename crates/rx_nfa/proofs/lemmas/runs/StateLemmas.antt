-- What the automaton does at a state that was read.
use Rattle.std.proofs.Common.{◌≡◌, ℕ, ◌+◌, ◌<◌, ◌≤◌, List, [], ◌∷◌, ◌∙◌, sym, ap, subst, arith, get_or, length, refl}
use Rattle.std.proofs.lemmas.Bool.Decides.{nat_tests}
use Rattle.std.proofs.lemmas.List.{get_or_default}
use Rattle.std.proofs.lemmas.List.Elements.{All-get_or}
use Rattle.std.specs.Prelude.{true, Option, Some, None, nat_lt, All, Contains}
use Rattle.rx_model.specs.Runs.{Configuration, Passed, and_at, same}
use Rattle.rx_model.specs.Machine.{graph_of, is_inside}
use Rattle.rx_model.proofs.lemmas.runs.RunLemmas.{by_test, same-true}
use Rattle.rx_nfa.specs.Automaton.{at, Surroundings, automaton_over, machine, state_at, state_step, state_accepts, state_writes, route, go_on, read_byte, NamesBelow}
use Rattle.rx_nfa.specs.declared.state.Transition.{Transition}
use Rattle.rx_nfa.specs.declared.state.State.{State}
use Rattle.rx_model.proofs.lemmas.runs.MemberLemmas.{none-among, only-among}

module _ (around : Surroundings) (states : List State) (end q i : ℕ) (state : q < length states) (place : i ≤ end) where
  is_here : is_inside (machine around states end) end (at q i) ≡ true
  is_here = grind (arith, nat_tests)

  pub accepted-is : (s : State) → state_at states q ≡ s → (automaton_over around states end).accepted (at q i) ≡ state_accepts s
  unfolding automaton_over graph_of
  accepted-is s e = rw is_here (ap state_accepts e)

  pub successors-is : (s : State) → state_at states q ≡ s → (automaton_over around states end).successors (at q i) ≡ state_step around end s i
  unfolding automaton_over graph_of
  successors-is s e = rw is_here (ap (λ x. state_step around end x i) e)

  pub written-is : (s : State) → state_at states q ≡ s → (automaton_over around states end).written (at q i) ≡ state_writes s
  unfolding automaton_over graph_of
  written-is s e = ap state_writes e

-- the state that was read at the number n, which is q
pub state-known : (states : List State) (n q : ℕ) (r s : State) → n ≡ q → q < length states → r ≡ get_or states n r → r ≡ s → state_at states q ≡ s
state-known states n q r s same lt read is = get_or_default states q _ r lt ∙ ap (λ k. get_or states k r) (sym same) ∙ sym read ∙ is

pub names-known : (states : List State) (q : ℕ) (s : State) → All (NamesBelow (length states)) states → q < length states → state_at states q ≡ s
    → NamesBelow (length states) s
names-known states q s all lt is = subst (NamesBelow (length states)) is (All-get_or (NamesBelow (length states)) states q _ lt all)

-- where a byte leads to, and where it leads nowhere
pub read_byte-taken : (byte : ℕ → ℕ) (end : ℕ) (ts : List Transition) (next i : ℕ) → i < end → route ts (byte i) ≡ Some next
    → read_byte byte end ts i ≡ at next (i + 1) ∷ []
read_byte-taken byte end ts next i lt goes =
    let here : nat_lt i end ≡ true = grind (arith, nat_tests) in
    rw here (ap (λ o. go_on o (i + 1)) goes)

pub read_byte-dead : (byte : ℕ → ℕ) (end : ℕ) (ts : List Transition) (i : ℕ) → (i < end → route ts (byte i) ≡ None) → read_byte byte end ts i ≡ []
read_byte-dead byte end ts i dead =
    by_test (nat_lt i end)
    (λ e. rw e (ap (λ o. go_on o (i + 1)) (dead (grind (arith, nat_tests)))))
    (λ e. rw e refl)

-- what was passed at a place is not what was passed at a later one
pub and_at-later : (q i : ℕ) (p : Passed) (d : Configuration) → i + 1 ≤ d.place → and_at (at q i) p d ≡ p d
and_at-later q i p d later =
    by_test (same (at q i) d)
    (λ e. let equal : i ≡ d.place = ap (λ (x : Configuration). x.place) (same-true (at q i) d e) in absurd (omega arith))
    (λ e. rw e refl)

-- Where the steps lead to.

go_on-place : (o : Option ℕ) (place : ℕ) (d : Configuration) → Contains (go_on o place) d → place ≡ d.place
go_on-place None place d m = absurd (none-among d m)
go_on-place (Some target) place d m = ap (λ (c : Configuration). c.place) (only-among (at target place) d m)

-- a byte that is read takes the place one on
pub read_byte-place : (byte : ℕ → ℕ) (end : ℕ) (ts : List Transition) (i : ℕ) (d : Configuration) → Contains (read_byte byte end ts i) d → i + 1 ≡ d.place
read_byte-place byte end ts i d m =
    by_test (nat_lt i end)
    (λ e. go_on-place (route ts (byte i)) (i + 1) d (rw e at m))
    (λ e. absurd (none-among d (rw e at m)))
