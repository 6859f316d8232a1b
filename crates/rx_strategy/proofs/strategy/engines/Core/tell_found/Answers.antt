use Rattle.std.proofs.Common.{◌≡◌, ◌*◌, ◌≤◌, length, ◌∙◌, ap, arith}
use Rattle.rx_search.specs.Matches.{match_value}
use Rattle.rx_search.specs.Told.{tells}
use Rattle.rx_nfa.specs.Nfa.{Nfa}
use Rattle.rx_strategy.specs.Attempts.{IsToldBy}
use Rattle.rx_strategy.specs.Core.{IsCoreFor}
use Rattle.rx_strategy.proofs.AnswerLemmas.{for-answers, for-slots, for-dfa}
use Rattle.rx_strategy.proofs.SpanLemmas.{span-slots}
use Rattle.rx_strategy.proofs.strategy.engines.Core.tell_found.Goals as goal

pub returns-then-slots-pattern_len-clause-answer : goal.returns-then-slots-pattern_len-clause-answer
returns-then-slots-pattern_len-clause-answer c =
    let core = c.args.self.now in
    let v = c.args.input.now in
    for-answers core v (λ r. IsToldBy (IsCoreFor core r) core.kind r v c.args.found) (λ r of. of.0) core.kind c.search_found.new.slots
    c.search_found.result (λ r p. c.search_found.ensures.told r p.is_for.0 p.is_for.1) c.requires.told

pub returns-then-slots-pattern_len-clause-slots : goal.returns-then-slots-pattern_len-clause-slots
returns-then-slots-pattern_len-clause-slots c =
    let core = c.args.self.now in
    let v = c.args.input.now in
    for-slots core v (λ r. IsToldBy (IsCoreFor core r) core.kind r v c.args.found) (λ r of. of.0) core.kind c.search_found.new.slots
    c.search_found.result (λ r p. c.search_found.ensures.told r p.is_for.0 p.is_for.1)

pub returns-clause-answer : goal.returns-clause-answer
returns-clause-answer c =
    let core = c.args.self.now in
    let v = c.args.input.now in
    for-dfa core v (λ r. IsToldBy (IsCoreFor core r) core.kind r v c.args.found) (λ r of. of.0) core.kind match_value c.args.found
    (λ r p. p.is_for.1) c.requires.told

pub returns-clause-slots : goal.returns-clause-slots
returns-clause-slots c =
    let core = c.args.self.now in
    let v = c.args.input.now in
    let count : c.pattern_len.result ≡ length core.nfa.starts = c.pattern_len.ensures.value ∙ ap (λ (n : Nfa). length n.starts) c.get_nfa.ensures in
    let same = c.leave_span.ensures.len in
    let few : length c.leave_span.new.slots ≤ 2 * length core.nfa.starts =
    omega (arith, count, same, c.if-slots-pattern_len.false) in
    span-slots (λ r. IsToldBy (IsCoreFor core r) core.kind r v c.args.found) core.pre core.kind v c.args.found c.leave_span.new.slots
    (length core.nfa.starts)
    (for-dfa core v (λ r. IsToldBy (IsCoreFor core r) core.kind r v c.args.found) (λ r of. of.0) core.kind match_value c.args.found
    (λ r p. p.is_for.1) c.requires.told)
    (λ r of. of.0.nfa.runs.patterns) (λ r of. ap tells of.0.which_captures ∙ c.requires.told) few c.leave_span.ensures.left
