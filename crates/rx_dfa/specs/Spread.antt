-- What a row's key leads to, class by class.
use Rattle.std.specs.Prelude.{◌≡◌, ℕ, Bool, List, ◌++◌, length, Some, slice_get, slice_index}
use Rattle.rx_model.specs.Look.{Look}
use Rattle.rx_search.specs.declared.anchored.MatchKind.{MatchKind}
use Rattle.rx_nfa.specs.Ordered.{AreBelow, threads_from, targets, begun}
use Rattle.rx_nfa.specs.declared.state.State.{State}
use Rattle.rx_determinize.specs.Key.{Key, arrived, settled, counting, looping, matching}
use Rattle.rx_dfa.specs.Automaton.{Dfa}
use Rattle.rx_dfa.specs.ClassLists.{AreLists}
use Rattle.rx_dfa.specs.Found.{IsNumber, keys_in}
use Rattle.rx_dfa.specs.declared.dense.found.Found.{Found}
use Rattle.rx_dfa.specs.declared.dense.known.Known.{Known}
use Rattle.rx_dfa.specs.declared.dense.spread.Spread.{Spread}

-- The key after a byte, where threads come to the states of this one over it, and behind them that of its loop.
abbrev pub arrived_key : MatchKind → List State → (start : ℕ) → Key → Key
arrived_key kind states start k = settled kind states (arrived states (k.threads ++ begun start k.loops)) k.loops k.matches k.before

-- what the bytes of each class lead to where the threads stay in these states
pub record AreParts (d : Dfa) (threads : List ℕ) (looped : Bool) (s : Spread) : Type 0 where
  pub lists : AreLists s.lists (λ class. targets d.nfa.states (slice_index d.bytes class) (counting d.kind d.nfa.states threads))
  pub loops : s.reached.loops ≡ looping d.kind d.nfa.states threads looped
  pub matches : s.reached.matches.items ≡ matching d.kind d.nfa.states threads

-- Whatever comes next, the threads of the key stay in the same states, and it is told what their bytes lead to.
pub record IsSpread (d : Dfa) (k : Key) (s : Spread) : Type 0 where
  pub threads : List ℕ
  pub stay : (holding : Look → Bool) → threads ≡ threads_from d.nfa.states holding k.threads
  pub below : AreBelow (length d.nfa.states) threads
  pub parts : AreParts d threads k.loops s

-- Each state that is known is that of the key to which threads come.
pub record AreKnown (d : Dfa) (f : Found) (known : Known) : Type 0 where
  pub each : (row : ℕ) (k : Key) → slice_get (keys_in known.keys.keys) row ≡ Some k
      → IsNumber f (slice_index known.states.items row) (arrived_key d.kind d.nfa.states d.nfa.start_anchored k)
