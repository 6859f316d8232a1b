use Rattle.std.proofs.Common.{subst}
use Rattle.std.specs.Prelude.{Result}
use Rattle.rx_strategy.specs.declared.strategy.Strategy.{Strategy as CoreStrategy}
use Rattle.rx_strategies.specs.Attempts.{InnerValue, IsInnerTried}
use Rattle.rx_strategies.proofs.MadeLemmas.{inner-made, core-made}
use Rattle.rx_strategies.proofs.strategy.by_inner.Goals as goal

pub returns-in-Ok : goal.returns-in-Ok
returns-in-Ok c =
    let config = c.args.config.now in
    let hs = c.args.exprs.now in
    let core = c.args.core in
    inner-made config hs core c.in-Ok.inner
    (subst (λ (o : Result InnerValue CoreStrategy). IsInnerTried config hs core o) c.in-Ok.is c.in_ok-inner.ensures) c.requires

pub returns-in-Err : goal.returns-in-Err
returns-in-Err c =
    let config = c.args.config.now in
    let hs = c.args.exprs.now in
    let core = c.args.core in
    core-made config hs core c.in-Err.core
    (subst (λ (o : Result InnerValue CoreStrategy). IsInnerTried config hs core o) c.in-Err.is c.in_ok-inner.ensures) c.requires
