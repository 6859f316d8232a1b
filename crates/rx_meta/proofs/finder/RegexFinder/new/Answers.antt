use Rattle.std.proofs.Common.{refl}
use Rattle.std.specs.Prelude.{Some, None}
use Rattle.rx_meta.proofs.FinderLemmas.{all-none}
use Rattle.rx_meta.proofs.finder.RegexFinder.new.Goals as goal

pub returns-clause-empty : goal.returns-clause-empty
returns-clause-empty c = all-none _ _ (c.in_ok-slots.ensures.items_if_clones_equal (elim [ None ↦ λ h. refl | Some n ↦ λ h. absurd h ]))
