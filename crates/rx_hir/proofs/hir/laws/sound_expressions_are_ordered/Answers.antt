use Rattle.rx_hir.proofs.SoundLemmas.{IsSound-ordered}
use Rattle.rx_hir.proofs.hir.laws.sound_expressions_are_ordered.Goals as goal

pub returns : goal.returns
returns c = IsSound-ordered
