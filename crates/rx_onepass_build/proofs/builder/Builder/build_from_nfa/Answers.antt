use Rattle.std.proofs.Common.{sym, subst}
use Rattle.std.proofs.lemmas.Result.{err_from_is_err_and}
use Rattle.rx_onepass_build.specs.Build.{IsRefusalOf}
use Rattle.rx_onepass_build.specs.Stop.{error_of}
use Rattle.rx_onepass_build.proofs.lemmas.BuildLemmas.{refusal-of}
use Rattle.rx_onepass_build.proofs.builder.Builder.build_from_nfa.Goals as goal

pub returns-in_err-admit-clause-refused : goal.returns-in_err-admit-clause-refused
returns-in_err-admit-clause-refused c =
    let e = err_from_is_err_and c.from_residual.result c.from_residual.ensures.1 in rw (e.1, e.2) (c.in_err-admit.ensures.err c.args.self.now.config)

pub returns-in-Err-clause-refused : goal.returns-in-Err-clause-refused
returns-in-Err-clause-refused c =
    subst (IsRefusalOf c.args.self.now.config c.args.nfa.now) (sym c.error.ensures)
    (refusal-of c.args.self.now.config c.args.nfa.now (error_of c.in-Err.stop) c.in-Err.ensures.refused)
