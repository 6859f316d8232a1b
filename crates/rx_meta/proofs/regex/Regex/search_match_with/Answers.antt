use Rattle.std.proofs.Common.{subst}
use Rattle.std.specs.Prelude.{IfOk}
use Rattle.rx_search.specs.Matches.{match_value}
use Rattle.rx_meta.specs.Regex.{RegexValue}
use Rattle.rx_meta.specs.Search.{IsAnswer, AreSlotsOfAnswer}
use Rattle.rx_meta.proofs.ServeLemmas.{with_strategy, answers-of, slots-of}
use Rattle.rx_meta.proofs.regex.Regex.search_match_with.Goals as goal

pub returns-clause-answer : goal.returns-clause-answer
returns-clause-answer c =
    subst (λ (regex : RegexValue). IfOk c.search_slots.result (IsAnswer regex c.args.input.now match_value)) (with_strategy c.args.self.now c.strategy.ensures)
    (answers-of _ c.args.input.now match_value c.search_slots.result c.search_slots.ensures.answer)

pub returns-clause-slots : goal.returns-clause-slots
returns-clause-slots c =
    subst (λ (regex : RegexValue). IfOk c.search_slots.result (AreSlotsOfAnswer regex c.args.input.now match_value c.search_slots.new.slots))
    (with_strategy c.args.self.now c.strategy.ensures)
    (slots-of _ c.args.input.now match_value c.search_slots.new.slots c.search_slots.result c.search_slots.ensures.slots)
