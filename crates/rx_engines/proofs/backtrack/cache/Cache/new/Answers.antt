use Rattle.std.proofs.Common.{◌∙◌, ap}
use Rattle.std.proofs.lemmas.Result.{IfOk-from_err}
use Rattle.rx_engines.specs.Engine.{accounted_memory}
use Rattle.rx_engines.specs.Threads.{Frames}
use Rattle.rx_engines.proofs.backtrack.cache.Cache.new.Goals as goal

pub returns-in_err-visited-clause-fits : goal.returns-in_err-visited-clause-fits
returns-in_err-visited-clause-fits c = IfOk-from_err c.from_residual.result _ c.from_residual.ensures.0

pub returns-in_err-visited-clause-memory : goal.returns-in_err-visited-clause-memory
returns-in_err-visited-clause-memory c = IfOk-from_err c.from_residual.result _ c.from_residual.ensures.0

pub returns-in_err-stack-clause-fits : goal.returns-in_err-stack-clause-fits
returns-in_err-stack-clause-fits c = IfOk-from_err c.from_residual-in_err-stack.result _ c.from_residual-in_err-stack.ensures.0

pub returns-in_err-stack-clause-memory : goal.returns-in_err-stack-clause-memory
returns-in_err-stack-clause-memory c = IfOk-from_err c.from_residual-in_err-stack.result _ c.from_residual-in_err-stack.ensures.0

pub returns-in_err-slots-clause-fits : goal.returns-in_err-slots-clause-fits
returns-in_err-slots-clause-fits c = IfOk-from_err c.from_residual-in_err-slots.result _ c.from_residual-in_err-slots.ensures.0

pub returns-in_err-slots-clause-memory : goal.returns-in_err-slots-clause-memory
returns-in_err-slots-clause-memory c = IfOk-from_err c.from_residual-in_err-slots.result _ c.from_residual-in_err-slots.ensures.0

pub invariant_of-result : goal.invariant_of-result
invariant_of-result c = (c.in_ok-visited.ensures.none, ap (λ (s : Frames). s.items) c.in_ok-stack.ensures.value)

pub returns-clause-memory : goal.returns-clause-memory
returns-clause-memory c = c.memory_of.ensures ∙ ap accounted_memory c.get_nfa-nfa.ensures
