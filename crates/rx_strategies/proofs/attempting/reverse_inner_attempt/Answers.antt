use Rattle.rx_strategies.proofs.ArmLemmas.{arm-premises, arm-range, arm-inner-fails, arm-inner-counts, not-by-inner}
use Rattle.rx_strategies.proofs.RoomLemmas.{serves-inner, lent-inner, lent-states, left-inner}
use Rattle.rx_strategies.proofs.attempting.reverse_inner_attempt.Goals as goal

pub by_inner-requires-clause-fits : goal.by_inner-requires-clause-fits
by_inner-requires-clause-fits g c = lent-inner _ _ c.cache.view_is _ _ c.in-ReverseInner.is c.requires.fits

pub by_inner-requires-clause-states_fit : goal.by_inner-requires-clause-states_fit
by_inner-requires-clause-states_fit g c = lent-states _ _ c.cache.view_is _ _ c.in-ReverseInner.is c.requires.fits

pub by_inner-requires-clause-free : goal.by_inner-requires-clause-free
by_inner-requires-clause-free g c = c.requires.free

pub unreachable-requires : goal.unreachable-requires
unreachable-requires g c = not-by-inner c.args.strategy.now c.requires.by_inner c.in_default.not-ReverseInner

pub returns-clause-answer : goal.returns-clause-answer
returns-clause-answer g c = arm-premises _ _ c.in-ReverseInner.is c.args.input.now c.by_inner.result c.by_inner.ensures.answer

pub returns-clause-within : goal.returns-clause-within
returns-clause-within g c = c.by_inner.ensures.within

pub returns-clause-in_range : goal.returns-clause-in_range
returns-clause-in_range g c = arm-range _ _ c.in-ReverseInner.is c.args.input.now (λ m. m.pattern) c.by_inner.result c.by_inner.ensures.in_range

pub returns-clause-err : goal.returns-clause-err
returns-clause-err g c = arm-inner-fails _ _ c.in-ReverseInner.is c.args.input.now _ c.by_inner.result c.by_inner.ensures.err

pub returns-clause-ticks : goal.returns-clause-ticks
returns-clause-ticks g c early = arm-inner-counts _ _ c.in-ReverseInner.is c.args.input.now _ _ c.by_inner.result (c.by_inner.ensures.ticks early)

pub returns-clause-few : goal.returns-clause-few
returns-clause-few g c = c.by_inner.ensures.few

pub returns-clause-cache : goal.returns-clause-cache
returns-clause-cache g c = serves-inner _ _ c.in-ReverseInner.is _ c.by_inner.ensures.cache c.by_inner.ensures.states_fit

pub returns-clause-memory : goal.returns-clause-memory
returns-clause-memory g c = left-inner _ _ c.cache.view_is _ _ c.in-ReverseInner.is _ _ c.by_inner.ensures.memory c.by_inner.ensures.states_same
