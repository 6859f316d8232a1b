use Rattle.std.proofs.Common.{subst}
use Rattle.rx_attempts.specs.Stops.{StopsBy}
use Rattle.rx_attempts.specs.declared.patience.Patience.TheVariants.{Endless}
use Rattle.rx_attempts.specs.declared.patience.Stop.{Stop}
use Rattle.rx_strategy.specs.Strategy.{SuffixFailsFor}
use Rattle.rx_strategies.proofs.RoomLemmas.{there-fits, there-alike, none-there}
use Rattle.rx_strategies.proofs.attempting.by_suffix.Goals as goal

pub try_search-requires-clause-fits : goal.try_search-requires-clause-fits
try_search-requires-clause-fits g c = there-fits c.args.rooms.now c.in-Some.rooms c.in-Some.rooms c.in-Some.is c.args.suffix.now.core c.requires.fits

pub try_search-requires-clause-free : goal.try_search-requires-clause-free
try_search-requires-clause-free g c = c.requires.free

pub unreachable-requires : goal.unreachable-requires
unreachable-requires g c = none-there c.args.rooms.now c.in_default.is c.args.suffix.now.core c.requires.fits

pub unreachable-requires-in-Err-Dense : goal.unreachable-requires-in-Err-Dense
unreachable-requires-in-Err-Dense g c =
    subst (λ (s : Stop). StopsBy Endless (SuffixFailsFor c.args.suffix.now.core c.args.suffix.now.needles c.args.input.now c.try_search.new.cache) s)
    c.in-Err-Dense.field-0-is c.in-Err-Dense.ensures.err

pub returns-in-Ok-clause-answer : goal.returns-in-Ok-clause-answer
returns-in-Ok-clause-answer g c = c.in-Ok.ensures.answer

pub returns-in-Ok-clause-within : goal.returns-in-Ok-clause-within
returns-in-Ok-clause-within g c = c.in-Ok.ensures.within

pub returns-in-Ok-clause-in_range : goal.returns-in-Ok-clause-in_range
returns-in-Ok-clause-in_range g c = c.in-Ok.ensures.in_range

pub returns-in-Ok-clause-ticks : goal.returns-in-Ok-clause-ticks
returns-in-Ok-clause-ticks g c = c.in-Ok.ensures.ticks

pub returns-in-Ok-clause-few : goal.returns-in-Ok-clause-few
returns-in-Ok-clause-few g c = c.try_search.ensures.few

pub returns-in-Ok-clause-cache : goal.returns-in-Ok-clause-cache
returns-in-Ok-clause-cache g c = c.try_search.ensures.cache

pub returns-in-Ok-clause-memory : goal.returns-in-Ok-clause-memory
returns-in-Ok-clause-memory g c =
    there-alike c.args.rooms.now c.in-Some.rooms c.try_search.new.cache c.in-Some.is c.args.suffix.now.core c.try_search.ensures.memory

pub returns-in-Err-Retry-clause-few : goal.returns-in-Err-Retry-clause-few
returns-in-Err-Retry-clause-few g c = c.try_search.ensures.few

pub returns-in-Err-Retry-clause-cache : goal.returns-in-Err-Retry-clause-cache
returns-in-Err-Retry-clause-cache g c = c.try_search.ensures.cache

pub returns-in-Err-Retry-clause-memory : goal.returns-in-Err-Retry-clause-memory
returns-in-Err-Retry-clause-memory g c =
    there-alike c.args.rooms.now c.in-Some.rooms c.try_search.new.cache c.in-Some.is c.args.suffix.now.core c.try_search.ensures.memory

pub returns-in-Err-Retry-clause-err : goal.returns-in-Err-Retry-clause-err
returns-in-Err-Retry-clause-err g c =
    subst (λ (s : Stop). StopsBy Endless (SuffixFailsFor c.args.suffix.now.core c.args.suffix.now.needles c.args.input.now c.try_search.new.cache) s)
    c.in-Err-Retry.field-0-is c.in-Err-Retry.ensures.err
