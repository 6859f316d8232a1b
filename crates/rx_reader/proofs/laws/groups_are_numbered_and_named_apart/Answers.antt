use Rattle.rx_reader.proofs.lemmas.patterns.GroupLemmas.{from_one, in_order, none_left_out, one_name, one_number}
use Rattle.rx_reader.proofs.laws.groups_are_numbered_and_named_apart.Goals as goal

pub returns : goal.returns
returns c = record { numbers = from_one; in_order = in_order; no_gap = none_left_out; one_name = one_name; one_number = one_number }
