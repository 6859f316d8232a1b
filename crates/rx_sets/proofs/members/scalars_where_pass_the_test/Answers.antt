use Rattle.rx_sets.proofs.MembersLemmas.{scalars_where-members, scalars_where-ranges, scalars_where-only}
use Rattle.rx_sets.proofs.members.scalars_where_pass_the_test.Goals as goal

pub returns : goal.returns
returns c = record { members = scalars_where-members; ranges = scalars_where-ranges; one_list = scalars_where-only }
