-- What is accounted for caches, and what they serve.
use Rattle.std.proofs.Common.{◌≡◌, ℕ, ◌-◌, ◌+◌, ◌^◌, refl, ap, true, false, true≢false, arith}
use Rattle.std.specs.Prelude.{Bool, Option, Some, None, min, ◌||◌, if◌then◌else◌}
use Rattle.rx_strategy.specs.Cache as core
use Rattle.rx_strategy.proofs.CacheLemmas as lower
use Rattle.rx_strategy.specs.declared.strategy.Strategy.{Strategy as CoreStrategy}
use Rattle.rx_strategies.specs.Cache.{CacheValue, AreAlike, AccountsAlike, memory_of, states_in, fixed_in, prefix_in, rooms_memory, rooms_states, rooms_fixed}
use Rattle.rx_strategy.specs.Strategy.{has_lazy as core_lazy}
use Rattle.rx_dfa.specs.declared.lazy.lazy_cache.LazyCache.{LazyCache}
use Rattle.rx_strategy.specs.Prefix.{HoldsNoPrefix, prefix_states, are_states}
use Rattle.rx_strategies.specs.Strategy.{has_lazy}
use Rattle.rx_strategies.specs.declared.strategy.Strategy.{Strategy}
use Rattle.rx_strategies.specs.declared.strategy.Strategy.TheVariants.{Pre, Core, ReverseAnchored, ReverseSuffix, ReverseInner}

-- all that is accounted is what is accounted for states, and the rest
pub rooms-parts : (o : Option core.CacheValue) → rooms_memory o ≡ min (2 ^ 64 - 1) (rooms_fixed o + rooms_states o)
rooms-parts None = refl
rooms-parts (Some rooms) = refl

capped-twice : (a b c d : ℕ) → a ≡ min (2 ^ 64 - 1) (b + c) → min (2 ^ 64 - 1) (a + d) ≡ min (2 ^ 64 - 1) (b + (c + d))
capped-twice a b c d is = omega arith

by-use : (b : Bool) (o : Option core.CacheValue) (n : ℕ)
    → (if b then min (2 ^ 64 - 1) (rooms_memory o + n) else 0) ≡ min (2 ^ 64 - 1) ((if b then rooms_fixed o else 0) + (if b then rooms_states o + n else 0))
by-use true o n = capped-twice (rooms_memory o) (rooms_fixed o) (rooms_states o) n (rooms-parts o)
by-use false o n = refl

pub memory-parts : (cache : CacheValue) → memory_of cache ≡ min (2 ^ 64 - 1) (fixed_in cache + states_in cache)
memory-parts cache = by-use cache.in_use cache.rooms (prefix_in cache)

-- a search changes what is accounted for states alone
alike-rooms : (c : CoreStrategy) (old new : Option core.CacheValue) → AreAlike c old new → rooms_fixed new ≡ rooms_fixed old
alike-rooms c None None alike = refl
alike-rooms c None (Some new) alike = absurd alike
alike-rooms c (Some old) None alike = absurd alike
alike-rooms c (Some old) (Some new) alike = lower.alike-fixed c old new alike

fixed-by : (c : CoreStrategy) (old new : CacheValue) → new.in_use ≡ old.in_use → AreAlike c old.rooms new.rooms → fixed_in new ≡ fixed_in old
fixed-by c old new in_use rooms = λ i. if in_use i then alike-rooms c old.rooms new.rooms rooms i else 0

pub alike-fixed : (s : Strategy) (old new : CacheValue) → AccountsAlike s old new → fixed_in new ≡ fixed_in old
alike-fixed (Pre p) old new alike = ap fixed_in alike
alike-fixed (Core c) old new alike = fixed-by c old new alike.in_use alike.rooms
alike-fixed (ReverseAnchored c) old new alike = fixed-by c old new alike.in_use alike.rooms
alike-fixed (ReverseSuffix s) old new alike = fixed-by s.core old new alike.in_use alike.rooms
alike-fixed (ReverseInner i) old new alike = fixed-by i.core old new alike.in_use alike.rooms

-- and nothing where there are no lazy DFAs
alike-all : (c : CoreStrategy) (old new : Option core.CacheValue) → core_lazy c ≡ false → AreAlike c old new → rooms_memory new ≡ rooms_memory old
alike-all c None None off alike = refl
alike-all c None (Some new) off alike = absurd alike
alike-all c (Some old) None off alike = absurd alike
alike-all c (Some old) (Some new) off alike = lower.alike-memory c old new off alike

memory-by : (c : CoreStrategy) (old new : CacheValue) → core_lazy c ≡ false → new.in_use ≡ old.in_use → AreAlike c old.rooms new.rooms
    → new.reads_prefix ≡ old.reads_prefix → new.prefix ≡ old.prefix → memory_of new ≡ memory_of old
memory-by c old new off in_use rooms reads prefix =
    λ i. if in_use i then min (2 ^ 64 - 1) (alike-all c old.rooms new.rooms off rooms i + (if reads i then prefix_states (prefix i) else 0)) else 0

neither : (a b : Bool) → (a || b) ≡ false → (a ≡ false) × (b ≡ false)
neither true b is = absurd (true≢false is)
neither false b is = (refl, is)

pub alike-memory : (s : Strategy) (old new : CacheValue) → has_lazy s ≡ false → AccountsAlike s old new → memory_of new ≡ memory_of old
alike-memory (Pre p) old new off alike = ap memory_of alike
alike-memory (Core c) old new off alike = memory-by c old new off alike.in_use alike.rooms alike.reads_prefix alike.prefix
alike-memory (ReverseAnchored c) old new off alike = memory-by c old new off alike.in_use alike.rooms alike.reads_prefix alike.prefix
alike-memory (ReverseSuffix s) old new off alike = memory-by s.core old new off alike.in_use alike.rooms alike.reads_prefix alike.prefix
alike-memory (ReverseInner i) old new off alike =
    let both = neither (core_lazy i.core) (are_states i.prefix) off in
    memory-by i.core old new both.0 alike.in_use alike.rooms alike.reads_prefix (alike.prefix both.1)

-- caches without states account none
pub no_states : (rooms : core.CacheValue) → core.HoldsNoStates rooms → rooms_states (Some rooms) ≡ 0
no_states rooms none = lower.no-states rooms.lazies none

-- no state that reads a prefix
pub none-read : (o : Option LazyCache) → HoldsNoPrefix o → prefix_states o ≡ 0
none-read None none = refl
none-read (Some cache) none = none.size

-- a cache that holds no state
empty-by : (b r : Bool) (m n : ℕ) → m ≡ 0 → n ≡ 0 → (if b then m + (if r then n else 0) else 0) ≡ 0
empty-by true true m n e f = omega arith
empty-by true false m n e f = omega arith
empty-by false r m n e f = refl

pub empty-states : (cache : CacheValue) → rooms_states cache.rooms ≡ 0 → prefix_states cache.prefix ≡ 0 → states_in cache ≡ 0
empty-states cache rooms prefix = empty-by cache.in_use cache.reads_prefix (rooms_states cache.rooms) (prefix_states cache.prefix) rooms prefix
