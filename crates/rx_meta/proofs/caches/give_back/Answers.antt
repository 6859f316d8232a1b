use Rattle.std.proofs.Common.{sym, subst}
use Rattle.rx_strategies.specs.Cache as strategy
use Rattle.rx_strategies.specs.declared.strategy.Strategy.{Strategy}
use Rattle.rx_meta.specs.Cache.{Fits}
use Rattle.rx_meta.proofs.caches.give_back.Goals as goal

pub put-requires : goal.put-requires
unfolding Fits
put-requires g c = subst (λ (s : Strategy). strategy.Fits s c.args.lent.guard.value.rooms) (sym c.requires.own) c.requires.fits
