use Rattle.rx_strategy.proofs.AnswerLemmas.{core-answers, core-slots, engine-told}
use Rattle.rx_strategy.proofs.strategy.engines.Core.search_slots_nofail.Goals as goal

pub returns-clause-answer : goal.returns-clause-answer
returns-clause-answer c =
    let core = c.args.self.now in
    let v = c.args.input.now in
    let slots = c.search_nofail.new.slots in
    let found = c.search_nofail.result in
    core-answers core v core.kind slots found (engine-told core v core.kind slots found c.requires.spanned.end c.search_nofail.ensures.told)
    c.requires.told

pub returns-clause-slots : goal.returns-clause-slots
returns-clause-slots c =
    let core = c.args.self.now in
    let v = c.args.input.now in
    let slots = c.search_nofail.new.slots in
    let found = c.search_nofail.result in
    core-slots core v core.kind slots found (engine-told core v core.kind slots found c.requires.spanned.end c.search_nofail.ensures.told)
