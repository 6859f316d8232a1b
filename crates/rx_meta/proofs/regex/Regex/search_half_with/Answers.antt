use Rattle.std.proofs.Common.{subst}
use Rattle.std.specs.Prelude.{IfOk}
use Rattle.rx_search.specs.Matches.{half_match_value}
use Rattle.rx_meta.specs.Regex.{RegexValue}
use Rattle.rx_meta.specs.Search.{IsAnswer}
use Rattle.rx_meta.proofs.ServeLemmas.{with_strategy, answers-of}
use Rattle.rx_meta.proofs.regex.Regex.search_half_with.Goals as goal

pub returns-clause-answer : goal.returns-clause-answer
returns-clause-answer c =
    subst (λ (regex : RegexValue). IfOk c.search_half.result (IsAnswer regex c.args.input.now half_match_value))
    (with_strategy c.args.self.now c.strategy.ensures)
    (answers-of _ c.args.input.now half_match_value c.search_half.result c.search_half.ensures.answer)
