-- The states of a DFA: the keys that are reached.
use Rattle.std.specs.Prelude.{◌≡◌, ℕ, ◌<◌, Bool, true, false, ◌||◌, not, List, [], ◌∷◌, All, Option, Some, None, IfSome, if◌then◌else◌, length, slice_get}
use Rattle.rx_model.specs.Search.{Anchor}
use Rattle.rx_nfa.specs.Nfa.{Nfa}
use Rattle.rx_nfa.specs.Ordered.{AreBelow}
use Rattle.rx_determinize.specs.Key.{Key, is_dead, is_empty}
use Rattle.rx_dfa.specs.Automaton.{Dfa, IsReadable, no_key, first_key, next_key, last_key}

-- All keys of which no thread, no loop and no match is left are one state.
abbrev pub canonical : Key → Key
canonical k = if is_dead k then no_key None else k

-- it is dead, or tells a match
abbrev pub is_special : Key → Bool
is_special k = is_dead k || not (is_empty k.matches)

-- it is a byte that the NFA reads, or none
pub record IsRead (nfa : Nfa) (byte : Option ℕ) : Type 0 where
  pub is_byte : IfSome byte (λ b. b < 256)
  pub readable : IsReadable nfa byte

-- The key that is come to from this one, where each item is a byte or the end of input, and the last one stands first.
unfoldable pub key_after : Dfa → Key → List (Option ℕ) → Key
key_after d k [] = k
key_after d k (None ∷ items) = last_key d (key_after d k items)
key_after d k (Some byte ∷ items) = next_key d (key_after d k items) byte

-- It is come to from a start over bytes that the NFA reads, and maybe the end of input.
pub record IsReached (d : Dfa) (k : Key) : Type 0 where
  pub anchor : Anchor
  pub beside : Option ℕ
  pub items : List (Option ℕ)
  pub begins : IsRead d.nfa beside
  pub bytes : All (IsRead d.nfa) items
  pub is : k ≡ key_after d (first_key d anchor beside) items

-- It is the dead state, or one that is reached and not dead.
pub record IsState (d : Dfa) (k : Key) : Type 0 where
  pub dead : is_dead k ≡ true → k ≡ no_key None
  pub reached : is_dead k ≡ false → IsReached d k
  pub below : AreBelow (length d.nfa.states) k.threads
  pub before : IsRead d.nfa k.before

-- they are states, no two alike
pub record AreStates (d : Dfa) (keys : List Key) : Type 0 where
  pub each : (row : ℕ) (k : Key) → slice_get keys row ≡ Some k → IsState d k
  pub once : (row other : ℕ) (k : Key) → slice_get keys row ≡ Some k → slice_get keys other ≡ Some k → row ≡ other
