use Rattle.std.proofs.Common.{sym, subst}
use Rattle.std.specs.Prelude.{Option}
use Rattle.rx_model.specs.Expression.{alternation}
use Rattle.rx_search.specs.Matches.{MatchValue, match_value}
use Rattle.rx_hir.specs.Normal.{expressions}
use Rattle.rx_dfa.specs.Search.{IsAnswerFor}
use Rattle.rx_strategy.proofs.DfaLemmas.{answers-of-len}
use Rattle.rx_strategy.proofs.strategy.engines.Core.try_search_of_len.Goals as goal

pub returns-in-Ok-clause-answer : goal.returns-in-Ok-clause-answer
returns-in-Ok-clause-answer c r p =
    let core = c.args.self.now in
    let v = c.args.input.now in
    subst (λ (o : Option MatchValue). IsAnswerFor core.kind r v match_value o) (sym c.match_of_len.ensures)
    (answers-of-len core v c.requires.spanned.end r p.is_for c.args.len (c.requires.len (alternation (expressions r.expressions)) p.is_for.properties)
    core.kind c.in-Ok.found (c.in-Ok.ensures.answer r p))
