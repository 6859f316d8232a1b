use Rattle.std.proofs.Common.{subst}
use Rattle.std.specs.Prelude.{Result}
use Rattle.rx_strategy.specs.declared.strategy.Strategy.{Strategy as CoreStrategy}
use Rattle.rx_strategies.specs.Attempts.{SuffixValue, IsSuffixTried}
use Rattle.rx_strategies.proofs.MadeLemmas.{suffix-made, endless-made}
use Rattle.rx_strategies.proofs.strategy.by_suffix.Goals as goal

pub returns-in-Ok : goal.returns-in-Ok
returns-in-Ok c =
    let config = c.args.config.now in
    let hs = c.args.exprs.now in
    let core = c.args.core in
    suffix-made config hs core c.in-Ok.suffix
    (subst (λ (o : Result SuffixValue CoreStrategy). IsSuffixTried config hs core o) c.in-Ok.is c.in_ok-suffix.ensures) c.requires

pub by_inner-requires : goal.by_inner-requires
by_inner-requires c =
    let config = c.args.config.now in
    let hs = c.args.exprs.now in
    let core = c.args.core in
    endless-made config hs core c.in-Err.core
    (subst (λ (o : Result SuffixValue CoreStrategy). IsSuffixTried config hs core o) c.in-Err.is c.in_ok-suffix.ensures) c.requires
