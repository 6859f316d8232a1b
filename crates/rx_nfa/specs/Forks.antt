-- Unions of chains.
use Rattle.std.specs.Prelude.{◌≡◌, ℕ, ◌≤◌, ◌<◌, List, length, map, All}
use Rattle.std.specs.Vec.{vec_items}
use Rattle.rx_nfa.specs.Automaton.{state_at}
use Rattle.rx_nfa.specs.Built.{IsChain}
use Rattle.rx_nfa.specs.Named.{first_in, last_in}
use Rattle.rx_nfa.specs.Prefixes.{Lies, Reads, IsOutside, IsWord}
use Rattle.rx_nfa.specs.declared.prefixes.fork.Fork.{Fork}
use Rattle.rx_nfa.specs.declared.prefixes.named.Named.{Named}
use Rattle.rx_nfa.specs.declared.state.State.{State}
use Rattle.rx_nfa.specs.declared.state.State.TheVariants.{ByteRange, Union}

-- The chain from `head` to `next` reads the word. It stands from `last` on, below the root, and no lower than the floor.
pub record IsChainFrom (states : List State) (floor root head next last : ℕ) (word : List ℕ) : Type 0 where
  pub above : floor ≤ last
  pub below : last < root
  pub bytes : IsWord word
  pub chain : IsChain (Lies last root states) head word next

-- the chains from these states read the words of the fork, and stand from its least state on, below the root
pub record AreChains (states : List State) (floor root : ℕ) (heads : List ℕ) (fork : Fork) : Type 0 where
  pub above : floor ≤ fork.low
  pub below : fork.low ≤ root
  pub words : All IsWord (map vec_items fork.words.items)
  pub reads : Reads states fork.low root fork.next heads (map vec_items fork.words.items)
  -- one of their states goes on to the state behind the words
  pub last : 0 < length heads → (q b : ℕ) × Lies fork.low root states q (ByteRange b b fork.next)

-- the states from low on, below the root, are come to from among them and from the root alone
abbrev pub IsPrivate : List Named → (low root : ℕ) → Type 0
IsPrivate named low root = (q : ℕ) → low ≤ q → q < root → (low ≤ first_in named q) × (last_in named q ≤ root)

-- the root is the union of the chains of the fork, into which no other state leads
pub record IsFork (states : List State) (named : List Named) (floor root : ℕ) (fork : Fork) : Type 0 where
  pub heads : List ℕ
  pub some : 0 < length heads
  pub is : state_at states root ≡ Union heads
  pub chains : AreChains states floor root heads fork
  pub closed : IsPrivate named fork.low root
  pub out : IsOutside fork.low root fork.next
