use Rattle.rx_hir.proofs.LookLemmas.{first-holds, last-holds}
use Rattle.rx_hir.proofs.hir.laws.look_sets_hold_at_the_ends.Goals as goal

pub returns : goal.returns
returns c = record {
  first = λ t text h kind e i j m. first-holds t text kind h e i j m;
  last = λ t text h kind e i j m. last-holds t text kind h e i j m;
}
