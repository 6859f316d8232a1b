use Rattle.rx_search.specs.Matches.{match_value}
use Rattle.rx_strategy.specs.Attempts.{IsToldBy}
use Rattle.rx_strategy.specs.Core.{IsCoreFor}
use Rattle.rx_strategy.proofs.AnswerLemmas.{fewer-answers, fewer-slots}
use Rattle.rx_strategy.proofs.strategy.engines.Core.leave_found.Goals as goal

pub returns-clause-answer : goal.returns-clause-answer
returns-clause-answer c =
    let core = c.args.self.now in
    let v = c.args.input.now in
    fewer-answers (λ r. IsCoreFor core r) (λ r. IsToldBy (IsCoreFor core r) core.kind r v c.args.found) core.pre v
    (λ r p. (p.is_for, c.requires.right r p)) core.kind match_value c.tell_found.result c.tell_found.ensures.answer

pub returns-clause-slots : goal.returns-clause-slots
returns-clause-slots c =
    let core = c.args.self.now in
    let v = c.args.input.now in
    fewer-slots (λ r. IsCoreFor core r) (λ r. IsToldBy (IsCoreFor core r) core.kind r v c.args.found) core.pre v
    (λ r p. (p.is_for, c.requires.right r p)) core.kind match_value c.tell_found.new.slots c.tell_found.result c.tell_found.ensures.slots
