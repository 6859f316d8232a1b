use Rattle.std.proofs.Common.{rules}
use Rattle.rx_slots.proofs.DrawLemmas.{splits}
use Rattle.rx_slots.proofs.draws.Draws.split.Goals as goal

pub split_seat-another-requires : goal.split_seat-another-requires
split_seat-another-requires c = (search rules, search rules, splits _ _ _ c.requires.left)
