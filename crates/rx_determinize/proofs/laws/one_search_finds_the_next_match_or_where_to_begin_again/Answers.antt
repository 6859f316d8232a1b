use Rattle.rx_determinize.proofs.lemmas.PermittedLemmas.{search-once}
use Rattle.rx_determinize.proofs.laws.one_search_finds_the_next_match_or_where_to_begin_again.Goals as goal

pub returns : goal.returns
returns c = λ nfa range sight text b within utf8 anchor a before le start begins keeps sees.
    search-once nfa range sight text b within utf8 anchor a before le start begins keeps sees
