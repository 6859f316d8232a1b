use Rattle.rx_search.proofs.SearcherLemmas.{successive-matches}
use Rattle.rx_search.proofs.searcher.searches_give_the_matches.Goals as goal

pub returns : goal.returns
returns c = successive-matches
