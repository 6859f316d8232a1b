use Rattle.rx_syntax.proofs.lemmas.groups.GroupLemmas.{from_one_on, one_name_each, told_at_its_number, told_once}
use Rattle.rx_syntax.proofs.laws.each_group_of_a_pattern_has_one_name.Goals as goal

pub returns : goal.returns
returns c = record { numbers = from_one_on; names = one_name_each; told = told_at_its_number; once = told_once }
