use Rattle.rx_engines.proofs.backtrack.backtracker.BoundedBacktracker.try_search_slots.Goals as goal

pub pattern-requires : goal.pattern-requires
pattern-requires c = tt

pub returns-in-Err-clause-cache : goal.returns-in-Err-clause-cache
returns-in-Err-clause-cache c = c.try_find_slots.ensures.cache

pub returns-in-Err-clause-err : goal.returns-in-Err-clause-err
returns-in-Err-clause-err c = c.in-Err.ensures.err

pub returns-in-Err-clause-in_range : goal.returns-in-Err-clause-in_range
returns-in-Err-clause-in_range c = c.in-Err.ensures.in_range

pub returns-in-Err-clause-memory : goal.returns-in-Err-clause-memory
returns-in-Err-clause-memory c = c.try_find_slots.ensures.memory

pub returns-in-Err-clause-none : goal.returns-in-Err-clause-none
returns-in-Err-clause-none c = c.in-Err.ensures.none

pub returns-in-Err-clause-patterns : goal.returns-in-Err-clause-patterns
returns-in-Err-clause-patterns c = c.try_find_slots.ensures.patterns

pub returns-in-Err-clause-refused : goal.returns-in-Err-clause-refused
returns-in-Err-clause-refused c = c.in-Err.ensures.refused

pub returns-in-Err-clause-short : goal.returns-in-Err-clause-short
returns-in-Err-clause-short c = c.in-Err.ensures.short

pub returns-in-Err-clause-slots : goal.returns-in-Err-clause-slots
returns-in-Err-clause-slots c = c.in-Err.ensures.slots

pub returns-in-Err-clause-slots_within : goal.returns-in-Err-clause-slots_within
returns-in-Err-clause-slots_within c = c.try_find_slots.ensures.slots_within

pub returns-in-Err-clause-value : goal.returns-in-Err-clause-value
returns-in-Err-clause-value c = c.in-Err.ensures.value

pub returns-in-Ok-None-clause-cache : goal.returns-in-Ok-None-clause-cache
returns-in-Ok-None-clause-cache c = c.try_find_slots.ensures.cache

pub returns-in-Ok-None-clause-err : goal.returns-in-Ok-None-clause-err
returns-in-Ok-None-clause-err c = c.in-Ok-None.ensures.err

pub returns-in-Ok-None-clause-in_range : goal.returns-in-Ok-None-clause-in_range
returns-in-Ok-None-clause-in_range c = tt

pub returns-in-Ok-None-clause-memory : goal.returns-in-Ok-None-clause-memory
returns-in-Ok-None-clause-memory c = c.try_find_slots.ensures.memory

pub returns-in-Ok-None-clause-patterns : goal.returns-in-Ok-None-clause-patterns
returns-in-Ok-None-clause-patterns c = c.try_find_slots.ensures.patterns

pub returns-in-Ok-None-clause-refused : goal.returns-in-Ok-None-clause-refused
returns-in-Ok-None-clause-refused c = c.in-Ok-None.ensures.refused

pub returns-in-Ok-None-clause-short : goal.returns-in-Ok-None-clause-short
returns-in-Ok-None-clause-short c = c.in-Ok-None.ensures.short

pub returns-in-Ok-None-clause-slots : goal.returns-in-Ok-None-clause-slots
returns-in-Ok-None-clause-slots c = c.in-Ok-None.ensures.slots

pub returns-in-Ok-None-clause-slots_within : goal.returns-in-Ok-None-clause-slots_within
returns-in-Ok-None-clause-slots_within c = c.try_find_slots.ensures.slots_within

pub returns-in-Ok-Some-clause-cache : goal.returns-in-Ok-Some-clause-cache
returns-in-Ok-Some-clause-cache c = c.try_find_slots.ensures.cache

pub returns-in-Ok-Some-clause-err : goal.returns-in-Ok-Some-clause-err
returns-in-Ok-Some-clause-err c = c.in-Ok-Some.ensures.err

pub returns-in-Ok-Some-clause-memory : goal.returns-in-Ok-Some-clause-memory
returns-in-Ok-Some-clause-memory c = c.try_find_slots.ensures.memory

pub returns-in-Ok-Some-clause-none : goal.returns-in-Ok-Some-clause-none
returns-in-Ok-Some-clause-none c = tt

pub returns-in-Ok-Some-clause-patterns : goal.returns-in-Ok-Some-clause-patterns
returns-in-Ok-Some-clause-patterns c = c.try_find_slots.ensures.patterns

pub returns-in-Ok-Some-clause-refused : goal.returns-in-Ok-Some-clause-refused
returns-in-Ok-Some-clause-refused c = c.in-Ok-Some.ensures.refused

pub returns-in-Ok-Some-clause-short : goal.returns-in-Ok-Some-clause-short
returns-in-Ok-Some-clause-short c = c.in-Ok-Some.ensures.short

pub returns-in-Ok-Some-clause-slots : goal.returns-in-Ok-Some-clause-slots
returns-in-Ok-Some-clause-slots c = c.in-Ok-Some.ensures.slots

pub returns-in-Ok-Some-clause-slots_within : goal.returns-in-Ok-Some-clause-slots_within
returns-in-Ok-Some-clause-slots_within c = c.try_find_slots.ensures.slots_within
