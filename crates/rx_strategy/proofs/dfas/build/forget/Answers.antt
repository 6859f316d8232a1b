use Rattle.std.proofs.Common.{subst}
use Rattle.std.specs.Prelude.{Option}
use Rattle.rx_strategy.specs.Dfas.{FitsLazies}
use Rattle.rx_strategy.specs.declared.lazies.Lazies.{Lazies}
use Rattle.rx_strategy.proofs.CacheLemmas.{more-lazies}
use Rattle.rx_strategy.proofs.dfas.build.forget.Goals as goal

pub returns-in-Some-clause-kept : goal.returns-in-Some-clause-kept
returns-in-Some-clause-kept c dfas given =
    more-lazies c.in-Some.both c.clear.new.self c.clear.ensures.kept dfas (subst (λ (o : Option Lazies). FitsLazies dfas o) c.in-Some.is given)
