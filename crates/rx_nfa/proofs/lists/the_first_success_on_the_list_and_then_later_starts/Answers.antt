use Rattle.std.proofs.Common.{suc, ◌+◌, ◌≡◌, ◌∙◌, ap, arith}
use Rattle.std.specs.Prelude.{option_map}
use Rattle.std.specs.Option.{option_or}
use Rattle.rx_model.specs.Runs.{nowhere}
use Rattle.rx_search.specs.Matches.{half_match_value}
use Rattle.rx_nfa.specs.Ordered.{first_on, first_of_starts, where_there}
use Rattle.rx_nfa.proofs.lemmas.lists.LaterLemmas.{list_search-first, list_search_of-next}
use Rattle.rx_nfa.proofs.lists.the_first_success_on_the_list_and_then_later_starts.Goals as goal

pub returns-clause-list : goal.returns-clause-list
returns-clause-list c = λ around states names end g has_steps may start inside n i ends loops qs below best.
    let more : suc n ≡ n + 1 = omega arith in
    list_search-first around states names end g has_steps may start inside n i ends loops qs below best
    ∙ ap (λ m. option_or (option_or (first_on g nowhere i qs) (where_there loops (option_map half_match_value (first_of_starts g may start m i nowhere)))) best)
    more

pub returns-clause-next : goal.returns-clause-next
returns-clause-next c = λ nfa range utf8_empty text anchor b a start in_order begins. list_search_of-next nfa range utf8_empty text b a in_order anchor start
    begins
