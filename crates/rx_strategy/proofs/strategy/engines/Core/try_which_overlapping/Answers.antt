use Rattle.std.proofs.Common.{length}
use Rattle.std.specs.Prelude.{None}
use Rattle.rx_strategy.proofs.DfaLemmas.{core-searches, dfas-room, less-asked}
use Rattle.rx_strategy.specs.Cache.{CacheValue}
use Rattle.rx_strategy.proofs.PartLemmas.{own-lazies, lazies-fit, lazies-alike}
use Rattle.rx_strategy.proofs.strategy.engines.Core.try_which_overlapping.Goals as goal

pub try_which_overlapping-requires-clause-room : goal.try_which_overlapping-requires-clause-room
try_which_overlapping-requires-clause-room c =
    let core = c.args.self.now in
    dfas-room core.nfa core.kind core.reverse c.get_dfas.result.now (length c.args.set.now) c.get_dfas.ensures.serve c.requires.room

pub returns-clause-matching : goal.returns-clause-matching
returns-clause-matching c r p =
    let core = c.args.self.now in
    let v = c.args.input.now in
    c.try_which_overlapping.ensures.matching core.kind r
    (core-searches core c.get_dfas.result.now c.get_dfas.ensures.serve None r v (less-asked core.pre r v p))

pub returns-clause-filled : goal.returns-clause-filled
returns-clause-filled c r p =
    let core = c.args.self.now in
    let v = c.args.input.now in
    c.try_which_overlapping.ensures.filled core.kind r
    (core-searches core c.get_dfas.result.now c.get_dfas.ensures.serve None r v (less-asked core.pre r v p))

pub try_which_overlapping-requires-clause-fits : goal.try_which_overlapping-requires-clause-fits
try_which_overlapping-requires-clause-fits c =
    let was = c.cache.inside in
    let held : CacheValue = record { pikevm = was.pikevm; onepass = was.onepass; backtrack = was.backtrack; lazies = was.lazies; memory = was.memory } in
    own-lazies c.args.self.now held c.args.cache.now c.cache.view_is c.get_dfas.result.now c.get_dfas.ensures.value c.requires.fits

pub returns-clause-cache : goal.returns-clause-cache
returns-clause-cache c =
    let was = c.cache.inside in
    let held : CacheValue = record { pikevm = was.pikevm; onepass = was.onepass; backtrack = was.backtrack; lazies = was.lazies; memory = was.memory } in
    lazies-fit c.args.self.now held c.args.cache.now c.cache.view_is c.get_dfas.result.now c.get_dfas.ensures.value c.try_which_overlapping.new.lazies c.requires.fits
    c.try_which_overlapping.ensures.fits

pub returns-clause-memory : goal.returns-clause-memory
returns-clause-memory c =
    let was = c.cache.inside in
    let held : CacheValue = record { pikevm = was.pikevm; onepass = was.onepass; backtrack = was.backtrack; lazies = was.lazies; memory = was.memory } in
    lazies-alike c.args.self.now held c.args.cache.now c.cache.view_is c.get_dfas.result.now c.get_dfas.ensures.value c.try_which_overlapping.new.lazies
    c.try_which_overlapping.ensures.same
