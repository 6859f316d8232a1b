-- What the searches of a strategy write to.
use Rattle.std.specs.Prelude.{◌≡◌, ℕ, ◌+◌, ◌-◌, ◌^◌, min, true, false, Option, Some, None, IfSome, MatchOption, if◌then◌else◌}
use Rattle.std.proofs.Props.{props}
use Rattle.rx_engines.specs.Room as pike
use Rattle.rx_engines.specs.Bounded as bounded
use Rattle.rx_engines.specs.Engine.{accounted_memory, Fits as FitsPikeVM}
use Rattle.rx_dfa.specs.LazyProps.{IsCacheOf-prop}
use Rattle.rx_strategy.specs.Core.{CoreValue, pikevm_of}
use Rattle.rx_strategy.specs.Dfas.{are_lazy, FitsLazies, HoldNoStates, states_memory}
use Rattle.rx_strategy.specs.OnePass.{FitsOnePass, accounted_onepass}
use Rattle.rx_strategy.specs.declared.lazies.Lazies.{Lazies}
use Rattle.rx_strategy.specs.declared.strategy.Strategy.{Strategy}
use Rattle.rx_strategy.specs.declared.strategy.Strategy.TheVariants.{Core}

pub record CacheValue : Type 0 where
  -- the room for each engine
  pub pikevm : pike.Room
  -- the slots that the one-pass DFA writes to
  pub onepass : Option ℕ
  pub backtrack : Option bounded.Room
  -- the caches of lazy DFAs, if there are some
  pub lazies : Option Lazies
  -- what is accounted for the engines that always answer, as far as its strategy needs them
  pub memory : ℕ

-- there is room for the backtracker where the core has one
abbrev pub FitsBacktracker : CoreValue → Option bounded.Room → Type 0
FitsBacktracker c room = MatchOption room (c.backtracks ≡ false) (λ r. c.backtracks ≡ true → bounded.Fits c.nfa r)

-- a cache with this room serves the core
pub record FitsCore (c : CoreValue) (cache : CacheValue) : Type 0 where
  pub pikevm : FitsPikeVM (pikevm_of c) cache.pikevm
  pub onepass : FitsOnePass c.onepass cache.onepass
  pub backtrack : FitsBacktracker c cache.backtrack
  pub lazies : FitsLazies c.dfas cache.lazies

-- a cache with this room serves the strategy
abbrev pub Fits : Strategy → CacheValue → Type 0
Fits (Core core) cache = FitsCore core cache

-- that it does has one proof at most
pub Fits-prop : (s : Strategy) (cache : CacheValue) → IsProp (Fits s cache)
Fits-prop (Core core) cache = Prim.hlevel (IsCacheOf-prop, props)

-- What is accounted for the cache, up to the greatest number of 64 bits: what its engines need, and the states of lazy DFAs that it
-- holds.
abbrev pub memory_of : CacheValue → ℕ
memory_of cache = min (2 ^ 64 - 1) (cache.memory + states_memory cache.lazies)

-- it holds no state of a lazy DFA
abbrev pub HoldsNoStates : CacheValue → Type 0
HoldsNoStates cache = IfSome cache.lazies HoldNoStates

-- A search of the core changes what is accounted for the states of lazy DFAs alone.
pub record AccountsAlikeIn (c : CoreValue) (old new : CacheValue) : Type 0 where
  pub memory : new.memory ≡ old.memory
  -- and where there is no lazy DFA, nothing
  pub states : are_lazy c.dfas ≡ false → new.lazies ≡ old.lazies

-- the same of a search of the strategy
abbrev pub AccountsAlike : Strategy → (old new : CacheValue) → Type 0
AccountsAlike (Core core) old new = AccountsAlikeIn core old new

-- what is accounted for the backtracker's cache of a core
abbrev pub accounted_backtrack : CoreValue → ℕ
accounted_backtrack c = if c.backtracks then accounted_memory c.nfa else 0

-- What is accounted for a cache of the core that holds no state of a lazy DFA, as a new one: for each engine, up to the greatest number of 64 bits.
abbrev pub accounted_core : CoreValue → ℕ
accounted_core c = min (2 ^ 64 - 1) (accounted_memory c.nfa + accounted_onepass c.onepass.dfa + accounted_backtrack c)

-- what is accounted for a cache that is made for the strategy
abbrev pub accounted_for : Strategy → ℕ
accounted_for (Core core) = accounted_core core

-- the second cache serves whatever the first one serves
abbrev pub StillFits : (old new : CacheValue) → Type 0
StillFits old new = (s : Strategy) → Fits s old → Fits s new

-- and as much is accounted for it
pub record FitsAsBefore (old new : CacheValue) : Type 0 where
  pub fits : StillFits old new
  pub memory : memory_of new ≡ memory_of old
