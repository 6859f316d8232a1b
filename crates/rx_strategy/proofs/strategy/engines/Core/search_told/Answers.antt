use Rattle.std.proofs.Common.{◌≡◌, ◌*◌, ◌≤◌, length, ◌∙◌, ap, arith}
use Rattle.rx_search.specs.Told.{tells}
use Rattle.rx_nfa.specs.Nfa.{Nfa}
use Rattle.rx_strategy.specs.Core.{IsCoreFor}
use Rattle.rx_strategy.proofs.AnswerLemmas.{core-answers, core-slots}
use Rattle.rx_strategy.proofs.SpanLemmas.{span-slots}
use Rattle.rx_strategy.proofs.strategy.engines.Core.search_told.Goals as goal

pub returns-then-slots-pattern_len-clause-answer : goal.returns-then-slots-pattern_len-clause-answer
returns-then-slots-pattern_len-clause-answer c =
    let core = c.args.self.now in
    core-answers core c.args.input.now core.kind c.search_groups.new.slots c.search_groups.result c.search_groups.ensures.told c.requires.told

pub returns-then-slots-pattern_len-clause-slots : goal.returns-then-slots-pattern_len-clause-slots
returns-then-slots-pattern_len-clause-slots c =
    let core = c.args.self.now in
    core-slots core c.args.input.now core.kind c.search_groups.new.slots c.search_groups.result c.search_groups.ensures.told

pub returns-clause-slots : goal.returns-clause-slots
returns-clause-slots c =
    let core = c.args.self.now in
    let count : c.pattern_len.result ≡ length core.nfa.starts = c.pattern_len.ensures.value ∙ ap (λ (n : Nfa). length n.starts) c.get_nfa.ensures in
    let same = c.leave_span.ensures.len in
    let few : length c.leave_span.new.slots ≤ 2 * length core.nfa.starts =
    omega (arith, count, same, c.if-slots-pattern_len.false) in
    span-slots (λ r. IsCoreFor core r) core.pre core.kind c.args.input.now c.search_span-found.result c.leave_span.new.slots (length core.nfa.starts)
    c.search_span-found.ensures.answer (λ r of. of.nfa.runs.patterns) (λ r of. ap tells of.which_captures ∙ c.requires.told) few c.leave_span.ensures.left
