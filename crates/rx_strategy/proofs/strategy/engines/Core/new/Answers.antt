use Rattle.std.proofs.Common.{◌≡◌, sym, ap, ◌∙◌, subst}
use Rattle.std.specs.Prelude.{Option}
use Rattle.rx_model.specs.Expression.{alternation}
use Rattle.rx_hir.specs.Normal.{expressions}
use Rattle.rx_nfa.specs.Nfa.{Nfa}
use Rattle.rx_search.specs.declared.anchored.MatchKind.{MatchKind}
use Rattle.rx_engines.specs.Engine.{PikeVMValue}
use Rattle.rx_strategy.specs.Availability.{AreDfasBeside}
use Rattle.rx_strategy.specs.Core.{AreKnownOf}
use Rattle.rx_strategy.specs.Dfas.{ServeNfa}
use Rattle.rx_strategy.specs.OnePass.{ServesOnce}
use Rattle.rx_strategy.proofs.CoreLemmas.{engines-agree, dfas-serve}
use Rattle.rx_strategy.proofs.OnePassLemmas.{serves-once}
use Rattle.std.proofs.lemmas.Result.{IfOk-from_err}
use Rattle.rx_strategy.proofs.strategy.engines.Core.new.Goals as goal

pub invariant_of-result : goal.invariant_of-result
invariant_of-result c =
    let is = c.build_from_nfa.ensures in
    let same : c.build_from_nfa.result.nfa ≡ c.args.nfa = ap (λ (e : PikeVMValue). e.nfa) is in
    let kind = ap (λ (e : PikeVMValue). e.kind) is ∙ c.get_match_kind-kind.ensures in
    let pre = ap (λ (e : PikeVMValue). e.pre) is ∙ c.in_ok-parts.ensures.own in
    let dfas = subst (λ (o : Option Nfa). AreDfasBeside c.args.config.now c.args.nfa o c.in_ok-parts.parts.dfas) c.as_ref.ensures.value c.in_ok-parts.ensures.dfas in (
      engines-agree c.args.config.now c.in_ok-parts.parts.backtrack c.build_from_nfa.result c.args.nfa c.args.pre same kind c.in_ok-parts.ensures.backtrack,
      subst (AreKnownOf c.args.info.properties) (sym same) c.requires.known,
      pre,
      subst (λ (p : Nfa × MatchKind). ServeNfa p.0 p.1 c.args.reverse c.in_ok-parts.parts.dfas) (λ i. (sym same i, sym kind i))
          (dfas-serve c.args.config.now c.args.nfa c.args.reverse c.in_ok-parts.parts.dfas dfas c.requires.reads.0 c.requires.reads.1),
      sym (ap (λ (e : PikeVMValue). e.kind) is),
      subst (λ (p : Nfa × MatchKind). ServesOnce p.0 p.1 c.args.info.properties c.in_ok-parts.parts.onepass) (λ i. (sym same i, sym kind i))
          (serves-once c.args.config.now c.args.nfa c.args.info.properties c.in_ok-parts.parts.onepass c.in_ok-parts.ensures.onepass
          (alternation (expressions c.requires.known.patterns)) c.requires.known.properties),
    )

pub returns-in_err-parts-clause-core : goal.returns-in_err-parts-clause-core
returns-in_err-parts-clause-core c =
    IfOk-from_err c.from_residual.result _ c.from_residual.ensures.0

pub returns-in_err-parts-clause-onepass : goal.returns-in_err-parts-clause-onepass
returns-in_err-parts-clause-onepass c =
    IfOk-from_err c.from_residual.result _ c.from_residual.ensures.0

pub returns-in_err-parts-clause-dfas : goal.returns-in_err-parts-clause-dfas
returns-in_err-parts-clause-dfas c =
    IfOk-from_err c.from_residual.result _ c.from_residual.ensures.0
