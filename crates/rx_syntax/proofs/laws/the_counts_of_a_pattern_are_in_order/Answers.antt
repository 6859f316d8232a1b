use Rattle.rx_syntax.proofs.lemmas.translation.OrderedLemmas.{ordered_one, ordered_each, ordered_all}
use Rattle.rx_syntax.proofs.laws.the_counts_of_a_pattern_are_in_order.Goals as goal

pub returns : goal.returns
returns c = record { one = ordered_one; each = ordered_each; all = ordered_all }
