use Rattle.rx_pre.proofs.AnswerLemmas.{found-slots, slots-after}
use Rattle.rx_pre.proofs.pre.Pre.search_slots.Goals as goal

pub returns-clause-slots : goal.returns-clause-slots
returns-clause-slots c =
    found-slots c.args.self.now c.args.input.now c.search-found.result c.leave_span.new.slots c.leave_span.ensures.left c.search-found.ensures.answer

pub returns-clause-none : goal.returns-clause-none
returns-clause-none c =
    slots-after c.search-found.result c.leave_span.new.slots _ c.leave_span.ensures.len c.leave_span.ensures.left
