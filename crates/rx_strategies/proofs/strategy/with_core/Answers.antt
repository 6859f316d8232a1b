use Rattle.std.proofs.Common.{subst}
use Rattle.std.specs.Prelude.{Result}
use Rattle.rx_strategy.specs.declared.strategy.Strategy.{Strategy as CoreStrategy}
use Rattle.rx_strategies.specs.Choice.{IsFromEnd}
use Rattle.rx_strategies.proofs.MadeLemmas.{end-made, forwards-made}
use Rattle.rx_strategies.proofs.strategy.with_core.Goals as goal

pub returns-in-Ok : goal.returns-in-Ok
returns-in-Ok c =
    end-made c.args.config.now c.args.exprs.now c.args.core c.in-Ok.anchored
    (subst (λ (o : Result CoreStrategy CoreStrategy). IsFromEnd c.args.core o) c.in-Ok.is c.new.ensures) c.requires

pub by_suffix-requires : goal.by_suffix-requires
by_suffix-requires c =
    forwards-made c.args.config.now c.args.exprs.now c.args.core c.in-Err.core
    (subst (λ (o : Result CoreStrategy CoreStrategy). IsFromEnd c.args.core o) c.in-Err.is c.new.ensures) c.requires
