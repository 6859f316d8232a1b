use Rattle.std.proofs.Common.{◌∙◌, ap, sym, refl}
use Rattle.rx_strategies.specs.Cache.{rooms_fixed}
use Rattle.rx_strategies.proofs.CacheLemmas.{no_states}
use Rattle.rx_strategies.proofs.RoomLemmas.{there-serves, none-there}
use Rattle.rx_strategies.proofs.cache.clone_rooms.Goals as goal

pub returns-in-Ok-clause-fits : goal.returns-in-Ok-clause-fits
returns-in-Ok-clause-fits c = there-serves c.args.rooms.now c.in-Some.rooms c.in-Ok.copy c.in-Some.is c.in-Ok.ensures.fits

pub returns-in-Ok-clause-fixed : goal.returns-in-Ok-clause-fixed
returns-in-Ok-clause-fixed c = c.in-Ok.ensures.memory ∙ ap rooms_fixed (sym c.in-Some.is)

pub returns-in-Ok-clause-empty : goal.returns-in-Ok-clause-empty
returns-in-Ok-clause-empty c = no_states c.in-Ok.copy c.in-Ok.ensures.empty

pub returns-in-None-clause-fits : goal.returns-in-None-clause-fits
returns-in-None-clause-fits c k fits = none-there c.args.rooms.now c.in-None.is k fits

pub returns-in-None-clause-fixed : goal.returns-in-None-clause-fixed
returns-in-None-clause-fixed c = ap rooms_fixed (sym c.in-None.is)

pub returns-in-None-clause-empty : goal.returns-in-None-clause-empty
returns-in-None-clause-empty c = refl
