use Rattle.std.proofs.Common.{refl, ◌+◌}
use Rattle.rx_onepass_table.proofs.lemmas.AlongLemmas.{walk-tells}
use Rattle.rx_onepass_table.proofs.laws.the_walk_tells_the_first_run.Goals as goal

pub returns : goal.returns
returns c =
    λ nfa range entries t table ok text n place bytes row entry is. walk-tells nfa range.names text (place + n) bytes entries t table ok n place row entry refl is
