use Rattle.std.proofs.Common.{◌≡◌, ap, ◌∙◌, subst}
use Rattle.std.specs.Prelude.{IfOk}
use Rattle.rx_model.specs.Expression.{alternation}
use Rattle.rx_model.specs.Search.{anchored}
use Rattle.rx_search.specs.Input.{InputValue}
use Rattle.rx_search.specs.Matches.{half_match_value}
use Rattle.rx_search.specs.Promise.{Premises}
use Rattle.rx_hir.specs.Normal.{expressions}
use Rattle.rx_dfa.specs.Search.{IsAnswerFor}
use Rattle.rx_strategy.specs.Core.{IsCoreFor}
use Rattle.rx_strategy.proofs.AnchorLemmas.{once-answers}
use Rattle.rx_strategy.proofs.strategy.engines.Core.try_search_half.Goals as goal

pub returns-then-begins_once-clause-answer : goal.returns-then-begins_once-clause-answer
returns-then-begins_once-clause-answer c r p =
    let core = c.args.self.now in
    let v = c.args.input.now in
    let result = c.try_search_end.result in
    let known = c.begins_once.ensures c.if-begins_once.true in
    let first : c.anchored-first.result ≡ record v { anchor = anchored } =
    c.anchored-first.ensures ∙ ap (λ (x : InputValue). record x { anchor = anchored }) c.clone.ensures.value in
    once-answers core r v known.0 (known.1 (alternation (expressions r.expressions)) p.is_for.properties) p core.kind half_match_value result
    (subst (λ (w : InputValue). Premises (IsCoreFor core r) core.pre r w → IfOk result (IsAnswerFor core.kind r w half_match_value)) first
    (c.try_search_end.ensures.answer r))
