use Rattle.std.proofs.Common.{sym, subst}
use Rattle.rx_thompson.specs.Build.{IsRefused}
use Rattle.rx_thompson.specs.declared.error.BuildError.{BuildError}
use Rattle.rx_thompson.proofs.BuildLemmas.{refused-error}
use Rattle.rx_thompson.proofs.compiler.Compiler.build_many_from_hir.Goals as goal

pub returns-in-Err-clause-refused : goal.returns-in-Err-clause-refused
returns-in-Err-clause-refused c =
    let config = c.args.self.now.nfa.config in
    subst (λ (e : BuildError). IsRefused config c.args.exprs.now e) (sym c.from.ensures)
    (refused-error config c.args.exprs.now c.in-Err.error c.in-Err.ensures.refused)
