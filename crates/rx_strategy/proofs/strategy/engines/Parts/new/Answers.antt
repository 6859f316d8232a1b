use Rattle.std.proofs.lemmas.Result.{IfOk-from_err}
use Rattle.rx_strategy.proofs.strategy.engines.Parts.new.Goals as goal

pub returns-in_err-own-clause-own : goal.returns-in_err-own-clause-own
returns-in_err-own-clause-own c =
    IfOk-from_err c.from_residual.result _ c.from_residual.ensures.0

pub returns-in_err-own-clause-backtrack : goal.returns-in_err-own-clause-backtrack
returns-in_err-own-clause-backtrack c =
    IfOk-from_err c.from_residual.result _ c.from_residual.ensures.0

pub returns-in_err-own-clause-onepass : goal.returns-in_err-own-clause-onepass
returns-in_err-own-clause-onepass c =
    IfOk-from_err c.from_residual.result _ c.from_residual.ensures.0

pub returns-in_err-own-clause-dfas : goal.returns-in_err-own-clause-dfas
returns-in_err-own-clause-dfas c =
    IfOk-from_err c.from_residual.result _ c.from_residual.ensures.0

pub returns-in_err-backtrack-clause-own : goal.returns-in_err-backtrack-clause-own
returns-in_err-backtrack-clause-own c =
    IfOk-from_err c.from_residual-in_err-backtrack.result _ c.from_residual-in_err-backtrack.ensures.0

pub returns-in_err-backtrack-clause-backtrack : goal.returns-in_err-backtrack-clause-backtrack
returns-in_err-backtrack-clause-backtrack c =
    IfOk-from_err c.from_residual-in_err-backtrack.result _ c.from_residual-in_err-backtrack.ensures.0

pub returns-in_err-backtrack-clause-onepass : goal.returns-in_err-backtrack-clause-onepass
returns-in_err-backtrack-clause-onepass c =
    IfOk-from_err c.from_residual-in_err-backtrack.result _ c.from_residual-in_err-backtrack.ensures.0

pub returns-in_err-backtrack-clause-dfas : goal.returns-in_err-backtrack-clause-dfas
returns-in_err-backtrack-clause-dfas c =
    IfOk-from_err c.from_residual-in_err-backtrack.result _ c.from_residual-in_err-backtrack.ensures.0

pub returns-in_err-onepass-clause-own : goal.returns-in_err-onepass-clause-own
returns-in_err-onepass-clause-own c =
    IfOk-from_err c.from_residual-in_err-onepass.result _ c.from_residual-in_err-onepass.ensures.0

pub returns-in_err-onepass-clause-backtrack : goal.returns-in_err-onepass-clause-backtrack
returns-in_err-onepass-clause-backtrack c =
    IfOk-from_err c.from_residual-in_err-onepass.result _ c.from_residual-in_err-onepass.ensures.0

pub returns-in_err-onepass-clause-onepass : goal.returns-in_err-onepass-clause-onepass
returns-in_err-onepass-clause-onepass c =
    IfOk-from_err c.from_residual-in_err-onepass.result _ c.from_residual-in_err-onepass.ensures.0

pub returns-in_err-onepass-clause-dfas : goal.returns-in_err-onepass-clause-dfas
returns-in_err-onepass-clause-dfas c =
    IfOk-from_err c.from_residual-in_err-onepass.result _ c.from_residual-in_err-onepass.ensures.0

pub returns-in_err-dfas-clause-own : goal.returns-in_err-dfas-clause-own
returns-in_err-dfas-clause-own c =
    IfOk-from_err c.from_residual-in_err-dfas.result _ c.from_residual-in_err-dfas.ensures.0

pub returns-in_err-dfas-clause-backtrack : goal.returns-in_err-dfas-clause-backtrack
returns-in_err-dfas-clause-backtrack c =
    IfOk-from_err c.from_residual-in_err-dfas.result _ c.from_residual-in_err-dfas.ensures.0

pub returns-in_err-dfas-clause-onepass : goal.returns-in_err-dfas-clause-onepass
returns-in_err-dfas-clause-onepass c =
    IfOk-from_err c.from_residual-in_err-dfas.result _ c.from_residual-in_err-dfas.ensures.0

pub returns-in_err-dfas-clause-dfas : goal.returns-in_err-dfas-clause-dfas
returns-in_err-dfas-clause-dfas c =
    IfOk-from_err c.from_residual-in_err-dfas.result _ c.from_residual-in_err-dfas.ensures.0
