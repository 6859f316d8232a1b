-- What the searches of a regex write to. What is in it is the strategy's own: a contract sees it by these definitions alone.
use Rattle.std.specs.Prelude.{◌≡◌, ℕ}
use Rattle.rx_strategies.specs.Attempting.{is_by_inner}
use Rattle.rx_strategies.specs.Cache as strategy
use Rattle.rx_meta.specs.Regex.{RegexValue}

pub record CacheValue : Type 0 where
  pub rooms : strategy.CacheValue

-- the cache serves the regex
unfoldable pub Fits : RegexValue → CacheValue → Type 0
Fits regex cache = strategy.Fits regex.strategy cache.rooms

-- that it does has one proof at most
pub Fits-prop : (regex : RegexValue) (cache : CacheValue) → IsProp (Fits regex cache)
unfolding Fits
Fits-prop regex cache = strategy.Fits-prop regex.strategy cache.rooms

-- It was made or reset last for a regex that is like this one in whether it reads a prefix; so it accounts no states of another one's.
unfoldable pub IsAsMadeFor : RegexValue → CacheValue → Type 0
IsAsMadeFor regex cache = cache.rooms.reads_prefix ≡ is_by_inner regex.strategy

-- what is accounted for the cache
unfoldable pub memory_of : CacheValue → ℕ
memory_of cache = strategy.memory_of cache.rooms

-- what is accounted for the states of lazy DFAs that it holds
unfoldable pub states_memory : CacheValue → ℕ
states_memory cache = strategy.states_in cache.rooms

-- what is accounted for it but for those
unfoldable pub fixed_memory : CacheValue → ℕ
fixed_memory cache = strategy.fixed_in cache.rooms

-- what is accounted for a cache that is made for the regex
unfoldable pub accounted_for : RegexValue → ℕ
accounted_for regex = strategy.accounted_for regex.strategy

-- the second cache serves whatever the first one serves
abbrev pub StillFits : (old new : CacheValue) → Type 0
StillFits old new = (regex : RegexValue) → Fits regex old → Fits regex new

-- and as much is accounted for it
pub record FitsAsBefore (old new : CacheValue) : Type 0 where
  pub fits : StillFits old new
  pub memory : memory_of new ≡ memory_of old

-- A search changes what is accounted for the states of lazy DFAs alone.
unfoldable pub AccountsAlike : RegexValue → (old new : CacheValue) → Type 0
AccountsAlike regex old new = strategy.AccountsAlike regex.strategy old.rooms new.rooms
