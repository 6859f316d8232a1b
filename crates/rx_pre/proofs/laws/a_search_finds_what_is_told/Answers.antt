use Rattle.rx_pre.proofs.FoundLemmas.{finds-told}
use Rattle.rx_pre.proofs.laws.a_search_finds_what_is_told.Goals as goal

pub returns : goal.returns
returns c p r v within x = finds-told p r v x.is_for within x.utf8
