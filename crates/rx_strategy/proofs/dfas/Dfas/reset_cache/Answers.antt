use Rattle.std.proofs.Common.{subst}
use Rattle.std.specs.Prelude.{Option}
use Rattle.rx_strategy.specs.Dfas.{FitsLazies}
use Rattle.rx_strategy.specs.declared.dfas.Dfas.{Dfas}
use Rattle.rx_strategy.specs.declared.lazies.Lazies.{Lazies}
use Rattle.rx_strategy.proofs.CacheLemmas.{more-lazies}
use Rattle.rx_strategy.proofs.dfas.Dfas.reset_cache.Goals as goal

pub returns-in-Some-clause-kept : goal.returns-in-Some-clause-kept
returns-in-Some-clause-kept c given dfas fits =
    let own = subst (λ (p : Dfas × Option Lazies). FitsLazies p.0 p.1) (λ i. (c.in-Lazy.is i, c.in-Some.is i)) given in
    more-lazies c.in-Some.both c.reset.new.self (c.reset.ensures.kept own) dfas (subst (λ (o : Option Lazies). FitsLazies dfas o) c.in-Some.is fits)
