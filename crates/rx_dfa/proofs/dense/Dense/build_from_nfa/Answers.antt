use Rattle.std.proofs.lemmas.Result.{err_from_is_err_and}
use Rattle.rx_dfa.proofs.dense.Dense.build_from_nfa.Goals as goal

pub invariant_of-result : goal.invariant_of-result
invariant_of-result c = c.in_ok-parts.ensures.dense

pub returns-in_err-parts-clause-err : goal.returns-in_err-parts-clause-err
returns-in_err-parts-clause-err c =
    let e = err_from_is_err_and c.from_residual.result c.from_residual.ensures.1 in rw (e.1, e.2) c.in_err-parts.ensures.err

pub returns-clause-dfa : goal.returns-clause-dfa
returns-clause-dfa c = c.in_ok-parts.ensures.dfa

pub returns-clause-full : goal.returns-clause-full
returns-clause-full c = c.in_ok-parts.ensures.full
