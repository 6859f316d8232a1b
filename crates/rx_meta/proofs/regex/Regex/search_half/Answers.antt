use Rattle.std.proofs.Common.{subst}
use Rattle.std.specs.Prelude.{None}
use Rattle.rx_search.specs.Matches.{half_match_value}
use Rattle.rx_meta.specs.Regex.{RegexValue}
use Rattle.rx_meta.specs.Search.{IsAnswer}
use Rattle.rx_meta.proofs.ServeLemmas.{with_strategy, none-answers}
use Rattle.rx_meta.proofs.regex.Regex.search_half.Goals as goal

pub returns-then-is_impossible-clause-answer : goal.returns-then-is_impossible-clause-answer
returns-then-is_impossible-clause-answer g c =
    subst (λ (regex : RegexValue). IsAnswer regex c.args.input.now half_match_value None) (with_strategy c.args.self.now c.strategy.ensures)
    (none-answers _ c.args.input.now (c.is_impossible.ensures.none c.if-is_impossible.true) half_match_value)
