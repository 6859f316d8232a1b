use Rattle.std.proofs.Common.{ap, ◌∙◌, subst}
use Rattle.std.specs.Prelude.{None, IfOk}
use Rattle.rx_model.specs.Search.{Patterns}
use Rattle.rx_search.specs.Matches.{match_value}
use Rattle.rx_search.specs.Promise.{Premises}
use Rattle.rx_dfa.specs.Search.{IsAnswerFor}
use Rattle.rx_strategies.specs.Strategy.{name_of as strategy_name}
use Rattle.rx_meta.specs.Regex.{RegexValue, Serves, kind_in, name_of}
use Rattle.rx_meta.proofs.NameLemmas.{named-inner}
use Rattle.rx_meta.proofs.ServeLemmas.{with_strategy, attempt-of}
use Rattle.rx_meta.proofs.attempts.reverse_inner_attempt.Goals as goal

pub reverse_inner_attempt-requires-clause-by_inner : goal.reverse_inner_attempt-requires-clause-by_inner
unfolding name_of
reverse_inner_attempt-requires-clause-by_inner g c = named-inner c.strategy.result.now (ap strategy_name c.strategy.ensures ∙ c.requires.strategy)

pub returns-clause-answer : goal.returns-clause-answer
returns-clause-answer g c =
    let called = c.reverse_inner_attempt in
    subst (λ (regex : RegexValue). (r : Patterns) → Premises (Serves regex r) None r c.args.input.now
    → IfOk called.result (IsAnswerFor (kind_in regex) r c.args.input.now match_value))
    (with_strategy c.args.regex.now c.strategy.ensures)
    (attempt-of _ c.args.input.now called.result called.ensures.answer)
