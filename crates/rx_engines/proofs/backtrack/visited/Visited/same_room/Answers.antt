use Rattle.std.proofs.Common.{◌∙◌, ap}
use Rattle.rx_engines.specs.Backtrack.{words_used}
use Rattle.rx_engines.proofs.lemmas.backtracking.BitLemmas.{words_used-replicate}
use Rattle.rx_engines.proofs.backtrack.visited.Visited.same_room.Goals as goal

pub returns-clause-none : goal.returns-clause-none
returns-clause-none c = ap words_used (c.in_ok-vec.ensures.items_if_clones_equal (λ y h. h)) ∙ words_used-replicate _
