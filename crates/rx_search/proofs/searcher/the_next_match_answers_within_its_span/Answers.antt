use Rattle.rx_search.proofs.SearcherLemmas.{next-answers, told-answers}
use Rattle.rx_search.proofs.searcher.the_next_match_answers_within_its_span.Goals as goal

pub returns-clause-next : goal.returns-clause-next
returns-clause-next c = next-answers

pub returns-clause-told : goal.returns-clause-told
returns-clause-told c = told-answers
