use Rattle.rx_strategy.specs.Cache.{CacheValue}
use Rattle.rx_strategy.proofs.BacktrackLemmas.{short-enough, has-room, room-again}
use Rattle.rx_strategy.proofs.PartLemmas.{fit-before, backtrack-fit, backtrack-alike, own-pikevm, pikevm-again, pikevm-alike}
use Rattle.rx_strategy.proofs.strategy.engines.Core.search_states.Goals as goal

pub find_by_backtracking-requires-clause-fits : goal.find_by_backtracking-requires-clause-fits
find_by_backtracking-requires-clause-fits c =
    let was = c.cache.inside in
    let held : CacheValue = record { pikevm = was.pikevm; onepass = was.onepass; backtrack = was.backtrack; lazies = was.lazies; memory = was.memory } in
    has-room c.args.self.now c.args.input.now c.in-Backtrack.engine.now c.in-Backtrack.ensures.0 c.in-Backtrack.ensures.1 held.backtrack
    (fit-before c.args.self.now held c.args.cache.now c.cache.view_is c.requires).backtrack

pub find_by_backtracking-requires-clause-short : goal.find_by_backtracking-requires-clause-short
find_by_backtracking-requires-clause-short c =
    short-enough c.args.self.now c.args.input.now c.in-Backtrack.engine.now c.in-Backtrack.ensures.0 c.in-Backtrack.ensures.1

pub find_slots-requires : goal.find_slots-requires
find_slots-requires c =
    let was = c.cache.inside in
    let held : CacheValue = record { pikevm = was.pikevm; onepass = was.onepass; backtrack = was.backtrack; lazies = was.lazies; memory = was.memory } in
    own-pikevm c.args.self.now held c.args.cache.now c.cache.view_is c.in-PikeVM.engine.now c.in-PikeVM.ensures.1 c.requires

pub returns-in-Backtrack-clause-cache : goal.returns-in-Backtrack-clause-cache
returns-in-Backtrack-clause-cache c =
    let was = c.cache.inside in
    let held : CacheValue = record { pikevm = was.pikevm; onepass = was.onepass; backtrack = was.backtrack; lazies = was.lazies; memory = was.memory } in
    backtrack-fit c.args.self.now held c.args.cache.now c.cache.view_is c.find_by_backtracking.new.cache c.requires
    (room-again c.args.self.now c.in-Backtrack.engine.now c.in-Backtrack.ensures.1 c.find_by_backtracking.new.cache c.find_by_backtracking.ensures.cache)

pub returns-in-Backtrack-clause-memory : goal.returns-in-Backtrack-clause-memory
returns-in-Backtrack-clause-memory c =
    let was = c.cache.inside in
    let held : CacheValue = record { pikevm = was.pikevm; onepass = was.onepass; backtrack = was.backtrack; lazies = was.lazies; memory = was.memory } in
    backtrack-alike c.args.self.now held c.args.cache.now c.cache.view_is c.find_by_backtracking.new.cache

pub returns-in-PikeVM-clause-cache : goal.returns-in-PikeVM-clause-cache
returns-in-PikeVM-clause-cache c =
    let was = c.cache.inside in
    let held : CacheValue = record { pikevm = was.pikevm; onepass = was.onepass; backtrack = was.backtrack; lazies = was.lazies; memory = was.memory } in
    pikevm-again c.args.self.now held c.args.cache.now c.cache.view_is c.in-PikeVM.engine.now c.in-PikeVM.ensures.1 c.find_slots.new.cache c.requires
    c.find_slots.ensures.cache

pub returns-in-PikeVM-clause-memory : goal.returns-in-PikeVM-clause-memory
returns-in-PikeVM-clause-memory c =
    let was = c.cache.inside in
    let held : CacheValue = record { pikevm = was.pikevm; onepass = was.onepass; backtrack = was.backtrack; lazies = was.lazies; memory = was.memory } in
    pikevm-alike c.args.self.now held c.args.cache.now c.cache.view_is c.find_slots.new.cache
