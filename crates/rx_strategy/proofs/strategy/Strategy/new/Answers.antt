use Rattle.std.proofs.Common.{refl, subst}
use Rattle.rx_nfa.specs.Compiled.{IsCompiled}
use Rattle.rx_nfa.specs.Config.{nothing_set, overwritten}
use Rattle.rx_nfa.specs.declared.compiler.config.Config.{Config}
use Rattle.rx_model.specs.Expression.{alternation}
use Rattle.rx_hir.specs.Normal.{expressions}
use Rattle.rx_strategy.proofs.CoreLemmas.{reads-back, core-made}
use Rattle.rx_strategy.proofs.InfoLemmas.{known-of}
use Rattle.std.proofs.lemmas.Result.{IfOk-from_err}
use Rattle.rx_strategy.proofs.CacheLemmas.{ok-of-err}
use Rattle.rx_strategy.proofs.strategy.Strategy.new.Goals as goal

pub new-requires-2 : goal.new-requires-2
new-requires-2 c =
    let hs = c.args.exprs.now in
    let compiled = subst (λ (k : Config). IsCompiled (overwritten nothing_set k) hs c.in_ok-nfa.nfa) c.compiler.ensures c.in_ok-nfa.ensures.made in
    record {
      known = known-of c.args.config.now hs c.in_ok-nfa.nfa c.in_ok-info.info.properties compiled c.in_ok-info.ensures;
      reads = reads-back c.args.config.now hs c.in_ok-nfa.nfa c.in_ok-reverse.reverse compiled c.in_ok-reverse.ensures.made;
    }

pub returns-clause-made : goal.returns-clause-made
returns-clause-made c =
    let config = c.args.config.now in
    let hs = c.args.exprs.now in
    let compiled = subst (λ (k : Config). IsCompiled (overwritten nothing_set k) hs c.in_ok-nfa.nfa) c.compiler.ensures c.in_ok-nfa.ensures.made in
    core-made config hs _ _ c.in_ok-new.ensures.core refl refl (c.in_ok-new.ensures.onepass (alternation (expressions hs)) c.in_ok-info.ensures) refl
    c.in_ok-pre.ensures compiled c.in_ok-reverse.ensures.made c.in_ok-info.ensures c.in_ok-new.ensures.dfas

pub returns-in_err-nfa-clause-made : goal.returns-in_err-nfa-clause-made
returns-in_err-nfa-clause-made c =
    IfOk-from_err c.from_residual.result _ c.from_residual.ensures.0

pub returns-in_err-nfa-clause-no_backtracker : goal.returns-in_err-nfa-clause-no_backtracker
returns-in_err-nfa-clause-no_backtracker c =
    IfOk-from_err c.from_residual.result _ c.from_residual.ensures.0

pub returns-in_err-nfa-clause-allowed : goal.returns-in_err-nfa-clause-allowed
returns-in_err-nfa-clause-allowed c =
    ok-of-err _ c.from_residual.result c.from_residual.ensures.0

pub returns-in_err-reverse-clause-made : goal.returns-in_err-reverse-clause-made
returns-in_err-reverse-clause-made c =
    IfOk-from_err c.from_residual-in_err-reverse.result _ c.from_residual-in_err-reverse.ensures.0

pub returns-in_err-reverse-clause-no_backtracker : goal.returns-in_err-reverse-clause-no_backtracker
returns-in_err-reverse-clause-no_backtracker c =
    IfOk-from_err c.from_residual-in_err-reverse.result _ c.from_residual-in_err-reverse.ensures.0

pub returns-in_err-reverse-clause-allowed : goal.returns-in_err-reverse-clause-allowed
returns-in_err-reverse-clause-allowed c =
    ok-of-err _ c.from_residual-in_err-reverse.result c.from_residual-in_err-reverse.ensures.0

pub returns-in_err-info-clause-made : goal.returns-in_err-info-clause-made
returns-in_err-info-clause-made c =
    IfOk-from_err c.from_residual-in_err-info.result _ c.from_residual-in_err-info.ensures.0

pub returns-in_err-info-clause-no_backtracker : goal.returns-in_err-info-clause-no_backtracker
returns-in_err-info-clause-no_backtracker c =
    IfOk-from_err c.from_residual-in_err-info.result _ c.from_residual-in_err-info.ensures.0

pub returns-in_err-info-clause-allowed : goal.returns-in_err-info-clause-allowed
returns-in_err-info-clause-allowed c =
    ok-of-err _ c.from_residual-in_err-info.result c.from_residual-in_err-info.ensures.0

pub returns-in_err-pre-clause-made : goal.returns-in_err-pre-clause-made
returns-in_err-pre-clause-made c =
    IfOk-from_err c.from_residual-in_err-pre.result _ c.from_residual-in_err-pre.ensures.0

pub returns-in_err-pre-clause-no_backtracker : goal.returns-in_err-pre-clause-no_backtracker
returns-in_err-pre-clause-no_backtracker c =
    IfOk-from_err c.from_residual-in_err-pre.result _ c.from_residual-in_err-pre.ensures.0

pub returns-in_err-pre-clause-allowed : goal.returns-in_err-pre-clause-allowed
returns-in_err-pre-clause-allowed c =
    ok-of-err _ c.from_residual-in_err-pre.result c.from_residual-in_err-pre.ensures.0

pub returns-in_err-new-clause-made : goal.returns-in_err-new-clause-made
returns-in_err-new-clause-made c =
    IfOk-from_err c.from_residual-in_err-new.result _ c.from_residual-in_err-new.ensures.0

pub returns-in_err-new-clause-no_backtracker : goal.returns-in_err-new-clause-no_backtracker
returns-in_err-new-clause-no_backtracker c =
    IfOk-from_err c.from_residual-in_err-new.result _ c.from_residual-in_err-new.ensures.0

pub returns-in_err-new-clause-allowed : goal.returns-in_err-new-clause-allowed
returns-in_err-new-clause-allowed c =
    ok-of-err _ c.from_residual-in_err-new.result c.from_residual-in_err-new.ensures.0
