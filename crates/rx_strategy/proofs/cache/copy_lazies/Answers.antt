use Rattle.std.proofs.Common.{sym, subst}
use Rattle.std.specs.Prelude.{Option}
use Rattle.rx_strategy.specs.Dfas.{FitsLazies}
use Rattle.rx_strategy.specs.declared.lazies.Lazies.{Lazies}
use Rattle.rx_strategy.proofs.CacheLemmas.{more-lazies}
use Rattle.rx_strategy.proofs.cache.copy_lazies.Goals as goal

pub returns-clause-fits : goal.returns-clause-fits
returns-clause-fits c dfas given =
    subst (λ (o : Option Lazies). FitsLazies dfas o) (sym c.replace.ensures.after)
    (more-lazies c.in-Some.lazies c.in_ok-made.made c.in_ok-made.ensures.fits dfas (subst (λ (o : Option Lazies). FitsLazies dfas o) c.in-Some.is given))
