use Rattle.std.proofs.Common.{◌+◌, suc, refl, subst, true}
use Rattle.rx_model.specs.Runs.{ending_at}
use Rattle.rx_onepass_table.specs.Along.{walk, farthest, first_from, BothTellSame}
use Rattle.rx_onepass_table.proofs.lemmas.AlongLemmas.{walk-tells, farthest-same, farthest-walk}
use Rattle.rx_onepass_table.proofs.laws.the_walk_tells_the_run_of_the_farthest_end.Goals as goal

pub returns : goal.returns
returns c =
    λ nfa range entries t table text n place bytes row entry is.
    subst (BothTellSame nfa (farthest (λ e. first_from nfa (ending_at e) text (place + n) entry place) (suc n) place)) (farthest-walk nfa text t n place row)
    (farthest-same nfa (λ e. first_from nfa (ending_at e) text (place + n) entry place) (λ e. walk nfa t true (ending_at e) text n place row)
    (λ e. walk-tells nfa range.names text (place + n) bytes entries t table (ending_at e) n place row entry refl is) (suc n) place)
