use Rattle.std.proofs.Common.{refl}
use Rattle.rx_strategies.proofs.ArmLemmas.{arm-premises, arm-range, arm-suffix-fails, arm-suffix-counts, not-by-suffix}
use Rattle.rx_strategies.proofs.RoomLemmas.{by-suffix, lent-fits, left-alike}
use Rattle.rx_strategies.proofs.attempting.reverse_suffix_attempt.Goals as goal

pub by_suffix-requires-clause-fits : goal.by_suffix-requires-clause-fits
by_suffix-requires-clause-fits g c = lent-fits _ _ c.cache.view_is _ _ (by-suffix _ _ _ c.in-ReverseSuffix.is refl) c.requires.fits

pub by_suffix-requires-clause-free : goal.by_suffix-requires-clause-free
by_suffix-requires-clause-free g c = c.requires.free

pub unreachable-requires : goal.unreachable-requires
unreachable-requires g c = not-by-suffix c.args.strategy.now c.requires.by_suffix c.in_default.not-ReverseSuffix

pub returns-clause-answer : goal.returns-clause-answer
returns-clause-answer g c = arm-premises _ _ c.in-ReverseSuffix.is c.args.input.now c.by_suffix.result c.by_suffix.ensures.answer

pub returns-clause-within : goal.returns-clause-within
returns-clause-within g c = c.by_suffix.ensures.within

pub returns-clause-in_range : goal.returns-clause-in_range
returns-clause-in_range g c = arm-range _ _ c.in-ReverseSuffix.is c.args.input.now (λ m. m.pattern) c.by_suffix.result c.by_suffix.ensures.in_range

pub returns-clause-err : goal.returns-clause-err
returns-clause-err g c = arm-suffix-fails _ _ c.in-ReverseSuffix.is c.args.input.now _ c.by_suffix.result c.by_suffix.ensures.err

pub returns-clause-ticks : goal.returns-clause-ticks
returns-clause-ticks g c early = arm-suffix-counts _ _ c.in-ReverseSuffix.is c.args.input.now _ _ c.by_suffix.result (c.by_suffix.ensures.ticks early)

pub returns-clause-few : goal.returns-clause-few
returns-clause-few g c = c.by_suffix.ensures.few

pub returns-clause-cache : goal.returns-clause-cache
returns-clause-cache g c = (by-suffix _ _ _ c.in-ReverseSuffix.is refl).serves _ c.by_suffix.ensures.cache

pub returns-clause-memory : goal.returns-clause-memory
returns-clause-memory g c = left-alike _ _ c.cache.view_is _ _ (by-suffix _ _ _ c.in-ReverseSuffix.is refl) _ c.by_suffix.ensures.memory
