use Rattle.std.proofs.Common.{subst}
use Rattle.std.specs.Prelude.{None}
use Rattle.rx_search.specs.Told.{matched_pattern}
use Rattle.rx_meta.specs.Regex.{RegexValue}
use Rattle.rx_meta.specs.Search.{IsAnswer, AreSlotsOfAnswer}
use Rattle.rx_meta.proofs.ServeLemmas.{with_strategy, none-answers, none-slots}
use Rattle.rx_meta.proofs.regex.Regex.search_slots.Goals as goal

pub returns-then-is_impossible-clause-answer : goal.returns-then-is_impossible-clause-answer
returns-then-is_impossible-clause-answer g c =
    subst (λ (regex : RegexValue). IsAnswer regex c.args.input.now matched_pattern None) (with_strategy c.args.self.now c.strategy.ensures)
    (none-answers _ c.args.input.now (c.is_impossible.ensures.none c.if-is_impossible.true) matched_pattern)

pub returns-then-is_impossible-clause-slots : goal.returns-then-is_impossible-clause-slots
returns-then-is_impossible-clause-slots g c =
    subst (λ (regex : RegexValue). AreSlotsOfAnswer regex c.args.input.now matched_pattern c.empty.new.slots None)
    (with_strategy c.args.self.now c.strategy.ensures)
    (none-slots _ c.args.input.now (c.is_impossible.ensures.none c.if-is_impossible.true) matched_pattern c.empty.new.slots)
