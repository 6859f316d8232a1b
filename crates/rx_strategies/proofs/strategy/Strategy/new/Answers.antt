use Rattle.rx_strategies.proofs.MadeLemmas.{made-backtracks}
use Rattle.std.proofs.lemmas.Result.{IfOk-from_err}
use Rattle.rx_strategies.proofs.strategy.Strategy.new.Goals as goal

pub returns-clause-no_backtracker : goal.returns-clause-no_backtracker
returns-clause-no_backtracker c all =
    made-backtracks c.args.config.now c.args.exprs.now c.in_ok-first_of.field-0 c.in_ok-first_of.ensures all

pub returns-in_err-core-clause-made : goal.returns-in_err-core-clause-made
returns-in_err-core-clause-made c = IfOk-from_err c.from_residual.result _ c.from_residual.ensures.0

pub returns-in_err-core-clause-no_backtracker : goal.returns-in_err-core-clause-no_backtracker
returns-in_err-core-clause-no_backtracker c = IfOk-from_err c.from_residual.result _ c.from_residual.ensures.0

pub returns-in_err-core-clause-allowed : goal.returns-in_err-core-clause-allowed
returns-in_err-core-clause-allowed c = IfOk-from_err c.from_residual.result _ c.from_residual.ensures.0

pub returns-in_err-first_of-clause-made : goal.returns-in_err-first_of-clause-made
returns-in_err-first_of-clause-made c = IfOk-from_err c.from_residual-in_err-first_of.result _ c.from_residual-in_err-first_of.ensures.0

pub returns-in_err-first_of-clause-no_backtracker : goal.returns-in_err-first_of-clause-no_backtracker
returns-in_err-first_of-clause-no_backtracker c = IfOk-from_err c.from_residual-in_err-first_of.result _ c.from_residual-in_err-first_of.ensures.0

pub returns-in_err-first_of-clause-allowed : goal.returns-in_err-first_of-clause-allowed
returns-in_err-first_of-clause-allowed c = IfOk-from_err c.from_residual-in_err-first_of.result _ c.from_residual-in_err-first_of.ensures.0

pub returns-clause-made : goal.returns-clause-made
returns-clause-made c = c.in_ok-first_of.ensures

pub returns-clause-allowed : goal.returns-clause-allowed
returns-clause-allowed c = c.in_ok-core.ensures.allowed

pub first_of-requires : goal.first_of-requires
first_of-requires c = c.in_ok-core.ensures.made
