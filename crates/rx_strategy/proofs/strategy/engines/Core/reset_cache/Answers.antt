use Rattle.std.proofs.Common.{refl, sym, ap, subst}
use Rattle.rx_strategy.specs.Cache.{CacheValue, FitsAsBefore, StillFits}
use Rattle.rx_strategy.specs.Core.{CoreValue}
use Rattle.rx_strategy.specs.Dfas.{FitsLazies, states_memory}
use Rattle.rx_strategy.proofs.CacheLemmas.{on-err, still-fits, as-before}
use Rattle.rx_strategy.proofs.strategy.engines.Core.reset_cache.Goals as goal

pub returns-in_err-reset-clause-err : goal.returns-in_err-reset-clause-err
returns-in_err-reset-clause-err c =
    let was = c.cache.inside in
    let old : CacheValue = record { pikevm = was.pikevm; onepass = was.onepass; backtrack = was.backtrack; lazies = was.lazies; memory = was.memory } in
    let new : CacheValue = record {
      pikevm = c.reset.new.self;
      onepass = was.onepass;
      backtrack = was.backtrack;
      lazies = was.lazies;
      memory = was.memory;
    } in
    on-err c.from_residual.result
    (subst (λ (o : CacheValue). FitsAsBefore o new) c.cache.view_is
    (as-before old new c.reset.ensures.kept (λ _ f. f) (λ _ f. f) (λ _ f. f) refl refl))

pub returns-in_err-reset-clause-kept : goal.returns-in_err-reset-clause-kept
returns-in_err-reset-clause-kept c given =
    let was = c.cache.inside in
    let old : CacheValue = record { pikevm = was.pikevm; onepass = was.onepass; backtrack = was.backtrack; lazies = was.lazies; memory = was.memory } in
    let new : CacheValue = record {
      pikevm = c.reset.new.self;
      onepass = was.onepass;
      backtrack = was.backtrack;
      lazies = was.lazies;
      memory = was.memory;
    } in
    subst (λ (o : CacheValue). StillFits o new) c.cache.view_is (still-fits old new c.reset.ensures.kept (λ _ f. f) (λ _ f. f) (λ _ f. f))

pub returns-in_err-fit_cache-clause-err : goal.returns-in_err-fit_cache-clause-err
returns-in_err-fit_cache-clause-err c =
    let was = c.cache.inside in
    let old : CacheValue = record { pikevm = was.pikevm; onepass = was.onepass; backtrack = was.backtrack; lazies = was.lazies; memory = was.memory } in
    let new : CacheValue = record {
      pikevm = c.reset.new.self;
      onepass = c.fit_cache.new.cache;
      backtrack = was.backtrack;
      lazies = was.lazies;
      memory = was.memory;
    } in
    on-err c.from_residual-in_err-fit_cache.result
    (subst (λ (o : CacheValue). FitsAsBefore o new) c.cache.view_is
    (as-before old new c.reset.ensures.kept c.fit_cache.ensures.kept (λ _ f. f) (λ _ f. f) refl refl))

pub returns-in_err-fit_cache-clause-kept : goal.returns-in_err-fit_cache-clause-kept
returns-in_err-fit_cache-clause-kept c given =
    let was = c.cache.inside in
    let old : CacheValue = record { pikevm = was.pikevm; onepass = was.onepass; backtrack = was.backtrack; lazies = was.lazies; memory = was.memory } in
    let new : CacheValue = record {
      pikevm = c.reset.new.self;
      onepass = c.fit_cache.new.cache;
      backtrack = was.backtrack;
      lazies = was.lazies;
      memory = was.memory;
    } in
    subst (λ (o : CacheValue). StillFits o new) c.cache.view_is (still-fits old new c.reset.ensures.kept c.fit_cache.ensures.kept (λ _ f. f) (λ _ f. f))

pub returns-in_err-backtrack-clause-err : goal.returns-in_err-backtrack-clause-err
returns-in_err-backtrack-clause-err c =
    let was = c.cache.inside in
    let old : CacheValue = record { pikevm = was.pikevm; onepass = was.onepass; backtrack = was.backtrack; lazies = was.lazies; memory = was.memory } in
    let new : CacheValue = record {
      pikevm = c.reset.new.self;
      onepass = c.fit_cache.new.cache;
      backtrack = c.reset_backtrack.new.cache;
      lazies = was.lazies;
      memory = was.memory;
    } in
    on-err c.from_residual-in_err-backtrack.result
    (subst (λ (o : CacheValue). FitsAsBefore o new) c.cache.view_is
    (as-before old new c.reset.ensures.kept c.fit_cache.ensures.kept c.reset_backtrack.ensures.kept (λ _ f. f) refl refl))

pub returns-in_err-backtrack-clause-kept : goal.returns-in_err-backtrack-clause-kept
returns-in_err-backtrack-clause-kept c given =
    let was = c.cache.inside in
    let old : CacheValue = record { pikevm = was.pikevm; onepass = was.onepass; backtrack = was.backtrack; lazies = was.lazies; memory = was.memory } in
    let new : CacheValue = record {
      pikevm = c.reset.new.self;
      onepass = c.fit_cache.new.cache;
      backtrack = c.reset_backtrack.new.cache;
      lazies = was.lazies;
      memory = was.memory;
    } in
    subst (λ (o : CacheValue). StillFits o new) c.cache.view_is (still-fits old new c.reset.ensures.kept c.fit_cache.ensures.kept c.reset_backtrack.ensures.kept (λ _ f. f))

pub returns-in_err-reset_cache-clause-err : goal.returns-in_err-reset_cache-clause-err
returns-in_err-reset_cache-clause-err c =
    let was = c.cache.inside in
    let lazies = c.reset_cache.new.lazies in
    let same = c.in_err-reset_cache.ensures.err in
    let old : CacheValue = record { pikevm = was.pikevm; onepass = was.onepass; backtrack = was.backtrack; lazies = was.lazies; memory = was.memory } in
    let new : CacheValue = record {
      pikevm = c.reset.new.self;
      onepass = c.fit_cache.new.cache;
      backtrack = c.reset_backtrack.new.cache;
      lazies = lazies;
      memory = was.memory;
    } in
    on-err c.from_residual-in_err-reset_cache.result
    (subst (λ (o : CacheValue). FitsAsBefore o new) c.cache.view_is
    (as-before old new c.reset.ensures.kept c.fit_cache.ensures.kept c.reset_backtrack.ensures.kept (λ dfas f. subst (FitsLazies dfas) (sym same) f) refl
    (ap states_memory same)))

pub returns-clause-kept : goal.returns-clause-kept
returns-clause-kept c given =
    let was = c.cache.inside in
    let old : CacheValue = record { pikevm = was.pikevm; onepass = was.onepass; backtrack = was.backtrack; lazies = was.lazies; memory = was.memory } in
    let new : CacheValue = record {
      pikevm = c.reset.new.self;
      onepass = c.fit_cache.new.cache;
      backtrack = c.reset_backtrack.new.cache;
      lazies = c.reset_cache.new.lazies;
      memory = c.saturating_add-cache-inside.result;
    } in
    let fits = subst (λ (p : CoreValue × CacheValue). FitsLazies p.0.dfas p.1.lazies) (λ i. (sym c.self.view_is i, sym c.cache.view_is i)) given.lazies in
    subst (λ (o : CacheValue). StillFits o new) c.cache.view_is
    (still-fits old new c.reset.ensures.kept c.fit_cache.ensures.kept c.reset_backtrack.ensures.kept (c.reset_cache.ensures.kept fits))
