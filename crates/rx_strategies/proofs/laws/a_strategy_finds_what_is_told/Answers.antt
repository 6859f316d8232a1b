use Rattle.rx_strategies.proofs.StrategyLemmas.{finds-told}
use Rattle.rx_strategies.proofs.laws.a_strategy_finds_what_is_told.Goals as goal

pub returns : goal.returns
returns c = λ s r v within x. finds-told s r v within x
