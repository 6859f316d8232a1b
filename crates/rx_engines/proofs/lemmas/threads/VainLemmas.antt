-- Threads that add none: from a state that comes, past states that write slots, to one that was passed.
use Rattle.std.proofs.Common.{◌≡◌, ℕ, ◌≤◌, ◌<◌, List, length, ◌∙◌, ap}
use Rattle.std.specs.Prelude.{true, false, None, option_map}
use Rattle.std.specs.Option.{option_or}
use Rattle.rx_model.specs.Runs.{PriorityGraph, Passed, and_at, first_some, with_write, found}
use Rattle.rx_model.proofs.lemmas.runs.RunLemmas.{by_test, and_at-self, and_at-kept}
use Rattle.rx_model.proofs.lemmas.runs.FoundLemmas.{found-passed, found-prune, found-step}
use Rattle.rx_nfa.specs.Automaton.{at, automaton, forwards, state_at}
use Rattle.rx_nfa.specs.Ordered.{has}
use Rattle.rx_nfa.specs.declared.state.State.{State}
use Rattle.rx_nfa.specs.declared.state.State.TheVariants.{Capture}
use Rattle.rx_nfa.proofs.lemmas.runs.AutomatonLemmas.{automaton-bounded}
use Rattle.rx_nfa.proofs.lemmas.runs.StateLemmas.{accepted-is, successors-is}
use Rattle.rx_nfa.proofs.lemmas.lists.PlaceLemmas.{passed_at-has}
use Rattle.rx_engines.specs.Simulation.{IsVain}

-- Where state r was passed, nothing is found from state q.
abbrev pub EndsAt : List State → (q r : ℕ) → Type 0
EndsAt states q r =
    (terminator : ℕ) (text : List ℕ) (end i : ℕ) (p : Passed) → i ≤ end → p (at r i) ≡ true → found (automaton terminator states text end) p (at q i) ≡ None

pub ends-here : (states : List State) (q : ℕ) → EndsAt states q q
ends-here states q terminator text end i p le seen = found-passed (automaton terminator states text end) p (at q i) seen

module _ (states : List State) (q r next pattern slot : ℕ) (lt : r < length states) (is : state_at states r ≡ Capture next pattern slot)
    (ends : EndsAt states q r)
    (terminator : ℕ) (text : List ℕ) (end i : ℕ) (p : Passed) (le : i ≤ end) (seen : p (at next i) ≡ true) where
  abbrev g : PriorityGraph
  g = automaton terminator states text end

  stepped : p (at r i) ≡ false → found g p (at r i) ≡ None
  stepped new =
      found-step g p (automaton-bounded (forwards terminator text) states end) (at r i) new
      (accepted-is (forwards terminator text) states end r i lt le _ is)
      ∙ ap (λ ds. option_map (with_write (g.written (at r i)) i) (first_some (found g (and_at (at r i) p)) ds))
      (successors-is (forwards terminator text) states end r i lt le _ is)
      ∙ ap (λ o. option_map (with_write (g.written (at r i)) i) (option_or o None))
      (found-passed g (and_at (at r i) p) (at next i) (and_at-kept (at r i) (at next i) p seen))

  none_there : found g p (at r i) ≡ None
  none_there = by_test (p (at r i)) (λ e. found-passed g p (at r i) e) stepped

  ended : found g p (at q i) ≡ None
  ended = found-prune g p (at r i) (at q i) none_there ∙ ends terminator text end i (and_at (at r i) p) le (and_at-self (at r i) p)

-- and where it writes a slot and goes on, nothing is found where the next state was passed
pub ends-next : (states : List State) (q r next pattern slot : ℕ) → r < length states → state_at states r ≡ Capture next pattern slot → EndsAt states q r
    → EndsAt states q next
ends-next states q r next pattern slot lt is ends terminator text end i p le seen =
    ended states q r next pattern slot lt is ends terminator text end i p le seen

-- so a thread adds none where that state is in the set
pub ends-vain : (states : List State) (items : List ℕ) (q r : ℕ) → EndsAt states q r → has items r ≡ true → IsVain states items q
ends-vain states items q r ends seen terminator text end i le = ends terminator text end i _ le (passed_at-has items i r ∙ seen)
