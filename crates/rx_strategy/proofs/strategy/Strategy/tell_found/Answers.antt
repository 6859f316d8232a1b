use Rattle.rx_strategy.proofs.StrategyLemmas.{told-by-core}
use Rattle.rx_strategy.proofs.strategy.Strategy.tell_found.Goals as goal

pub returns-clause-answer : goal.returns-clause-answer
returns-clause-answer c =
    told-by-core c.args.self.now c.args.input.now c.args.found c.tell_found.result (λ core is. rw is at c.tell_found.ensures.answer)
