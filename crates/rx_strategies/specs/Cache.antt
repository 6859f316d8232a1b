-- What the searches of a strategy write to.
use Rattle.std.specs.Prelude.{◌≡◌, ℕ, ◌+◌, ◌-◌, ◌^◌, min, Bool, false, Option, Some, None, IsSomeAnd, if◌then◌else◌}
use Rattle.std.proofs.Props.{props}
use Rattle.rx_strategy.specs.Cache as core
use Rattle.rx_strategy.specs.Dfas as dfas
use Rattle.rx_strategy.specs.declared.strategy.Strategy.{Strategy as CoreStrategy}
use Rattle.rx_dfa.specs.declared.lazy.lazy_cache.LazyCache.{LazyCache}
use Rattle.rx_strategy.specs.Prefix.{FitsPrefix, FitsPrefix-prop, prefix_states, are_states}
use Rattle.rx_strategies.specs.Attempts.{InnerValue}
use Rattle.rx_strategies.specs.declared.strategy.Strategy.{Strategy}
use Rattle.rx_strategies.specs.declared.strategy.Strategy.TheVariants.{Pre, Core, ReverseAnchored, ReverseSuffix, ReverseInner}

pub record CacheValue : Type 0 where
  -- the cache of a core, if there is one
  pub rooms : Option core.CacheValue
  -- the cache of a lazy DFA that reads a prefix, if there is one
  pub prefix : Option LazyCache
  -- its strategy has a core
  pub in_use : Bool
  -- its strategy reads a prefix backwards
  pub reads_prefix : Bool

-- there is room for the core
abbrev pub FitsCore : CoreStrategy → CacheValue → Type 0
FitsCore c cache = IsSomeAnd cache.rooms (core.Fits c)

-- .. and for the DFA that reads the prefix
pub record FitsInner (i : InnerValue) (cache : CacheValue) : Type 0 where
  pub core : FitsCore i.core cache
  pub prefix : FitsPrefix i.prefix cache.prefix

-- A cache with this room serves the strategy. A search for literals writes to none.
abbrev pub Fits : Strategy → CacheValue → Type 0
Fits (Pre p) cache = Unit {0}
Fits (Core c) cache = FitsCore c cache
Fits (ReverseAnchored c) cache = FitsCore c cache
Fits (ReverseSuffix s) cache = FitsCore s.core cache
Fits (ReverseInner i) cache = FitsInner i cache

some-prop : (c : CoreStrategy) (o : Option core.CacheValue) → IsProp (IsSomeAnd o (core.Fits c))
some-prop c None = Prim.hlevel props
some-prop c (Some rooms) = core.Fits-prop c rooms

-- that it does has one proof at most
pub Fits-prop : (s : Strategy) (cache : CacheValue) → IsProp (Fits s cache)
Fits-prop (Pre p) cache = Prim.hlevel props
Fits-prop (Core c) cache = some-prop c cache.rooms
Fits-prop (ReverseAnchored c) cache = some-prop c cache.rooms
Fits-prop (ReverseSuffix s) cache = some-prop s.core cache.rooms
Fits-prop (ReverseInner i) cache = Prim.hlevel (some-prop, FitsPrefix-prop, props)

-- what is accounted for the cache of a core, if there is one: for all of it, for the states of lazy DFAs, and for the rest
abbrev pub rooms_memory : Option core.CacheValue → ℕ
rooms_memory None = 0
rooms_memory (Some rooms) = core.memory_of rooms

abbrev pub rooms_states : Option core.CacheValue → ℕ
rooms_states None = 0
rooms_states (Some rooms) = dfas.states_memory rooms.lazies

abbrev pub rooms_fixed : Option core.CacheValue → ℕ
rooms_fixed None = 0
rooms_fixed (Some rooms) = rooms.memory

-- what is accounted for the states that read a prefix
abbrev pub prefix_in : CacheValue → ℕ
prefix_in cache = if cache.reads_prefix then prefix_states cache.prefix else 0

-- what is accounted for the cache, as far as its strategy needs it
abbrev pub memory_of : CacheValue → ℕ
memory_of cache = if cache.in_use then min (2 ^ 64 - 1) (rooms_memory cache.rooms + prefix_in cache) else 0

abbrev pub states_in : CacheValue → ℕ
states_in cache = if cache.in_use then rooms_states cache.rooms + prefix_in cache else 0

abbrev pub fixed_in : CacheValue → ℕ
fixed_in cache = if cache.in_use then rooms_fixed cache.rooms else 0

-- what is accounted for a cache that is made for the strategy
abbrev pub accounted_for : Strategy → ℕ
accounted_for (Pre p) = 0
accounted_for (Core c) = core.accounted_for c
accounted_for (ReverseAnchored c) = core.accounted_for c
accounted_for (ReverseSuffix s) = core.accounted_for s.core
accounted_for (ReverseInner i) = core.accounted_for i.core

-- a search of the core changes what is accounted for the states of lazy DFAs alone
abbrev pub AreAlike : CoreStrategy → (old new : Option core.CacheValue) → Type 0
AreAlike c None None = Unit {0}
AreAlike c None (Some new) = ⊥
AreAlike c (Some old) None = ⊥
AreAlike c (Some old) (Some new) = core.AccountsAlike c old new

pub record AccountsAlikeIn (c : CoreStrategy) (old new : CacheValue) : Type 0 where
  pub in_use : new.in_use ≡ old.in_use
  pub rooms : AreAlike c old.rooms new.rooms
  pub reads_prefix : new.reads_prefix ≡ old.reads_prefix
  pub prefix : new.prefix ≡ old.prefix

-- .. and what is accounted for the states that read a prefix
pub record InnerAlikeIn (i : InnerValue) (old new : CacheValue) : Type 0 where
  pub in_use : new.in_use ≡ old.in_use
  pub rooms : AreAlike i.core old.rooms new.rooms
  pub reads_prefix : new.reads_prefix ≡ old.reads_prefix
  pub prefix : are_states i.prefix ≡ false → new.prefix ≡ old.prefix

-- the same of a search of the strategy; one for literals changes nothing
abbrev pub AccountsAlike : Strategy → (old new : CacheValue) → Type 0
AccountsAlike (Pre p) old new = new ≡ old
AccountsAlike (Core c) old new = AccountsAlikeIn c old new
AccountsAlike (ReverseAnchored c) old new = AccountsAlikeIn c old new
AccountsAlike (ReverseSuffix s) old new = AccountsAlikeIn s.core old new
AccountsAlike (ReverseInner i) old new = InnerAlikeIn i old new

-- the second room serves each core that the first one serves; and as much is accounted for it
abbrev pub ServesMore : (old new : Option core.CacheValue) → Type 0
ServesMore old new = (c : CoreStrategy) → IsSomeAnd old (core.Fits c) → IsSomeAnd new (core.Fits c)

pub record ServesAsBefore (old new : Option core.CacheValue) : Type 0 where
  pub fits : ServesMore old new
  pub memory : rooms_memory new ≡ rooms_memory old

-- the second cache serves whatever the first one serves
abbrev pub StillFits : (old new : CacheValue) → Type 0
StillFits old new = (s : Strategy) → Fits s old → Fits s new

-- and as much is accounted for it
pub record FitsAsBefore (old new : CacheValue) : Type 0 where
  pub fits : StillFits old new
  pub memory : memory_of new ≡ memory_of old
