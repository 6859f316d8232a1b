use Rattle.std.proofs.Common.{rules}
use Rattle.rx_slots.proofs.DrawLemmas.{draws}
use Rattle.rx_slots.proofs.draws.Draws.draw.Goals as goal

pub fetch_add-found-requires : goal.fetch_add-found-requires
fetch_add-found-requires c = (search rules, search rules, draws _ _ _ _ _ c.requires.goes_on)
