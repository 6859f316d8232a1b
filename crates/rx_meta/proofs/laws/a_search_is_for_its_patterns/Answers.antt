use Rattle.rx_strategies.proofs.StrategyLemmas.{finds-told}
use Rattle.rx_meta.specs.Regex.{searches}
use Rattle.rx_meta.proofs.ServeLemmas.{premises-of}
use Rattle.rx_meta.proofs.laws.a_search_is_for_its_patterns.Goals as goal

pub returns : goal.returns
unfolding searches
returns c = λ regex r v within premises. finds-told regex.strategy r v within (premises-of regex v r premises)
