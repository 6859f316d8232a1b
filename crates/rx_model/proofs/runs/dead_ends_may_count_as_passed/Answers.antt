use Rattle.std.proofs.Common.{sym}
use Rattle.rx_model.proofs.lemmas.runs.FoundLemmas.{found-prune, found-forget}
use Rattle.rx_model.proofs.runs.dead_ends_may_count_as_passed.Goals as goal

pub returns-clause-pruned : goal.returns-clause-pruned
returns-clause-pruned c = λ g passed x none d. sym (found-prune g passed x d none)

pub returns-clause-behind : goal.returns-clause-behind
returns-clause-behind c = λ g rises p q d alike. found-forget g rises p q d alike
