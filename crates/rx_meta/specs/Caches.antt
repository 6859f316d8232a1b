-- The caches that the searches of a regex share.
use Rattle.std.specs.Prelude.{◌≡◌}
use Rattle.std.specs.Arc.{arc_value}
use Rattle.rx_util.specs.Held.{maker_of}
use Rattle.rx_util.specs.declared.pool.PoolGuard.{PoolGuard}
use Rattle.rx_meta.specs.Cache.{CacheValue}
use Rattle.rx_meta.specs.Regex.{RegexValue}
use Rattle.rx_meta.specs.declared.cache_maker.CacheMaker.{CacheMaker}

-- the cache is of the regex's own
abbrev pub IsLentBy : RegexValue → PoolGuard CacheValue CacheMaker → Type 0
IsLentBy regex lent = arc_value (maker_of lent.stack.now).strategy ≡ regex.strategy
