use Rattle.rx_search.specs.Answer.{half_of}
use Rattle.rx_search.specs.Matches.{match_value}
use Rattle.rx_strategy.specs.Core.{IsCoreFor}
use Rattle.rx_strategy.proofs.AnswerLemmas.{part-answers, core-answers, engine-told}
use Rattle.rx_strategy.proofs.strategy.engines.Core.search_half_nofail.Goals as goal

pub returns-clause-answer : goal.returns-clause-answer
returns-clause-answer c =
    let core = c.args.self.now in
    let v = c.args.input.now in
    let slots = c.search_nofail.new.slots in
    let found = c.search_nofail.result in
    part-answers (λ r. IsCoreFor core r) core.pre core.kind v match_value half_of found c.half_match.result c.half_match.ensures
    (core-answers core v core.kind slots found (engine-told core v core.kind slots found c.requires.spanned.end c.search_nofail.ensures.told)
    c.requires.told)
