use Rattle.std.proofs.Common.{◌≡◌, ap, ◌∙◌, subst}
use Rattle.std.specs.Arc.{arc_value}
use Rattle.std.specs.Prelude.{Result, IfOk}
use Rattle.rx_memory.specs.declared.memory.Memory.{Memory}
use Rattle.rx_strategies.specs.Cache as strategy
use Rattle.rx_strategies.specs.declared.strategy.Strategy.{Strategy}
use Rattle.rx_util.specs.Held.{maker_of}
use Rattle.rx_util.specs.declared.pool.PoolGuard.{PoolGuard}
use Rattle.rx_meta.specs.Cache.{CacheValue, Fits}
use Rattle.rx_meta.specs.declared.cache_maker.CacheMaker.{CacheMaker}
use Rattle.rx_meta.proofs.regex.Regex.lend.Goals as goal

pub returns-clause-fits : goal.returns-clause-fits
unfolding Fits
returns-clause-fits g c =
    subst (λ (s : Strategy). strategy.Fits s c.in_ok-guard.guard.value.rooms) c.caches.ensures
    (subst (λ (r : Result (PoolGuard CacheValue CacheMaker) Memory). IfOk r (λ lent. strategy.Fits (arc_value c.caches.result.now.maker.strategy) lent.value.rooms))
    c.in_ok-guard.was c.get.ensures.value)

pub returns-clause-own : goal.returns-clause-own
returns-clause-own g c =
    ap (λ (m : CacheMaker). arc_value m.strategy)
    (subst (λ (r : Result (PoolGuard CacheValue CacheMaker) Memory). IfOk r (λ lent. maker_of lent.stack.now ≡ c.caches.result.now.maker))
    c.in_ok-guard.was c.get.ensures.maker)
    ∙ c.caches.ensures
