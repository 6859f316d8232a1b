use Rattle.std.proofs.Common.{◌≡◌, sym, ap, ◌∙◌, subst}
use Rattle.rx_engines.specs.Engine.{Fits as FitsPikeVM}
use Rattle.rx_strategy.specs.Cache.{CacheValue, FitsBacktracker}
use Rattle.rx_strategy.specs.OnePass.{FitsOnePass}
use Rattle.rx_strategy.proofs.CacheLemmas.{still-fits}
use Rattle.rx_strategy.proofs.cache.Cache.clone.Goals as goal

pub copy_parts-requires : goal.copy_parts-requires
copy_parts-requires c = ap (λ (v : CacheValue). v.lazies) c.bare-copy.ensures

pub returns-in-Ok-clause-fits : goal.returns-in-Ok-clause-fits
returns-in-Ok-clause-fits c =
    let old : CacheValue = c.args.self.now in
    let new : CacheValue = c.copy_parts.new.copy in
    let bare : CacheValue = c.bare-copy.result in
    let parts = c.in-Ok.ensures in
    let engine : new.pikevm ≡ old.pikevm =
    c.copy_parts.ensures.pikevm ∙ ap (λ (v : CacheValue). v.pikevm) c.bare-copy.ensures ∙ c.in_ok-clone.ensures
    ∙ ap (λ (v : CacheValue). v.pikevm) c.self.view_is in
    still-fits old new (λ vm f. subst (FitsPikeVM vm) (sym engine) f) (λ o f. subst (FitsOnePass o) (sym parts.onepass) f)
    (λ core f. subst (FitsBacktracker core) (sym parts.backtrack) f) parts.fits
