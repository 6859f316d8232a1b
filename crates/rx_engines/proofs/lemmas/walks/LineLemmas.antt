-- The frames of the states at one place that are not yet passed.
use Rattle.std.proofs.Common.{◌≡◌, ℕ, zero, suc, ◌+◌, ◌≤◌, ◌<◌, List, [], ◌∷◌, ◌++◌, ap, arith}
use Rattle.std.specs.Prelude.{false}
use Rattle.rx_model.specs.Runs.{Passed}
use Rattle.rx_model.proofs.lemmas.runs.RunLemmas.{by_test, weight}
use Rattle.rx_nfa.specs.Automaton.{at, state_at}
use Rattle.rx_nfa.specs.Ordered.{has, line, passed_at}
use Rattle.rx_nfa.specs.declared.state.State.{State}
use Rattle.rx_nfa.proofs.lemmas.lists.PlaceLemmas.{line-less}
use Rattle.rx_engines.specs.Simulation.{frames_of_state, frames_of_states, frames_at}

pub line-frames : (states : List State) (n i : ℕ) (p : Passed) → weight (frames_at states) (line n i) p ≤ frames_of_states states n
unfolding weight frames_of_states
line-frames states zero i p = omega arith
line-frames states (suc n) i p =
    let h = line-frames states n i p in
    by_test (p (at n i)) (λ e. rw e (omega arith)) (λ e. rw e (omega arith))

-- a state that comes into the set takes its frames off
pub frames-less : (states : List State) (n i q : ℕ) (items : List ℕ) → q < n → has items q ≡ false
    → weight (frames_at states) (line n i) (passed_at (items ++ q ∷ []) i) + frames_of_state (state_at states q) ≤ weight (frames_at states) (line n i)
    (passed_at items i)
frames-less states n i q items lt new = line-less (frames_at states) n i q items lt new

pub frames_of_states-more : (states : List State) (n : ℕ) → frames_of_states states (n + 1) ≡ frames_of_state (state_at states n) + frames_of_states states n
unfolding frames_of_states
frames_of_states-more states n = let e : n + 1 ≡ suc n = omega arith in ap (frames_of_states states) e
