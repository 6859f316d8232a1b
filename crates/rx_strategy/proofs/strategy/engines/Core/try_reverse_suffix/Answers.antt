use Rattle.std.specs.Prelude.{None}
use Rattle.rx_strategy.proofs.DfaLemmas.{core-searches, in-nfa}
use Rattle.rx_search.specs.Matches.{MatchValue}
use Rattle.rx_strategy.specs.Cache.{CacheValue}
use Rattle.rx_strategy.proofs.PartLemmas.{own-lazies, lazies-fit, lazies-alike}
use Rattle.rx_strategy.proofs.strategy.engines.Core.try_reverse_suffix.Goals as goal

pub returns-clause-answer : goal.returns-clause-answer
returns-clause-answer g c r p has =
    let core = c.args.self.now in
    let v = c.args.input.now in
    c.try_reverse_suffix.ensures.answer core.kind r
    (core-searches core c.get_dfas.result.now c.get_dfas.ensures.serve None r v p) has

pub returns-clause-in_range : goal.returns-clause-in_range
returns-clause-in_range g c =
    let core = c.args.self.now in
    in-nfa core.nfa core.kind core.reverse c.get_dfas.result.now c.get_dfas.ensures.serve (λ (m : MatchValue). m.pattern) c.try_reverse_suffix.result
    c.try_reverse_suffix.ensures.in_range

pub try_reverse_suffix-requires-clause-fits : goal.try_reverse_suffix-requires-clause-fits
try_reverse_suffix-requires-clause-fits g c =
    let was = c.cache.inside in
    let held : CacheValue = record { pikevm = was.pikevm; onepass = was.onepass; backtrack = was.backtrack; lazies = was.lazies; memory = was.memory } in
    own-lazies c.args.self.now held c.args.cache.now c.cache.view_is c.get_dfas.result.now c.get_dfas.ensures.value c.requires.fits

pub returns-clause-cache : goal.returns-clause-cache
returns-clause-cache g c =
    let was = c.cache.inside in
    let held : CacheValue = record { pikevm = was.pikevm; onepass = was.onepass; backtrack = was.backtrack; lazies = was.lazies; memory = was.memory } in
    lazies-fit c.args.self.now held c.args.cache.now c.cache.view_is c.get_dfas.result.now c.get_dfas.ensures.value c.try_reverse_suffix.new.lazies c.requires.fits
    c.try_reverse_suffix.ensures.fits

pub returns-clause-memory : goal.returns-clause-memory
returns-clause-memory g c =
    let was = c.cache.inside in
    let held : CacheValue = record { pikevm = was.pikevm; onepass = was.onepass; backtrack = was.backtrack; lazies = was.lazies; memory = was.memory } in
    lazies-alike c.args.self.now held c.args.cache.now c.cache.view_is c.get_dfas.result.now c.get_dfas.ensures.value c.try_reverse_suffix.new.lazies
    c.try_reverse_suffix.ensures.same
