use Rattle.std.proofs.Common.{subst}
use Rattle.rx_nfa.specs.Compiled.{IsCompiled}
use Rattle.rx_nfa.proofs.compiler.constant.by_default.Goals as goal

pub returns-in-Ok : goal.returns-in-Ok
returns-in-Ok c = subst (λ k. IsCompiled k c.args.exprs.now c.in-Ok.nfa) c.new.ensures c.in-Ok.ensures.compiled
