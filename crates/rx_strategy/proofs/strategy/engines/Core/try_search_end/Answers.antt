use Rattle.rx_search.specs.Matches.{HalfMatchValue}
use Rattle.std.specs.Prelude.{option_copied}
use Rattle.rx_strategy.specs.Cache.{CacheValue}
use Rattle.rx_strategy.proofs.DfaLemmas.{core-searches, in-nfa}
use Rattle.rx_strategy.proofs.PartLemmas.{own-lazies, lazies-fit, lazies-alike, leftmost-dfas}
use Rattle.rx_strategy.proofs.strategy.engines.Core.try_search_end.Goals as goal

pub try_search_half-requires-clause-fits : goal.try_search_half-requires-clause-fits
try_search_half-requires-clause-fits c =
    let was = c.cache.inside in
    let held : CacheValue = record { pikevm = was.pikevm; onepass = was.onepass; backtrack = was.backtrack; lazies = was.lazies; memory = was.memory } in
    own-lazies c.args.self.now held c.args.cache.now c.cache.view_is c.get_dfas.result.now c.get_dfas.ensures.value c.requires

pub try_search_half-requires-clause-leftmost : goal.try_search_half-requires-clause-leftmost
try_search_half-requires-clause-leftmost c =
    let core = c.args.self.now in
    leftmost-dfas core.nfa core.kind core.reverse c.get_dfas.result.now c.get_dfas.ensures.serve (option_copied c.looks_for-pre.result)
    c.looks_for-pre.ensures.leftmost

pub returns-clause-answer : goal.returns-clause-answer
returns-clause-answer c r p =
    let core = c.args.self.now in
    let v = c.args.input.now in
    c.try_search_half.ensures.answer core.kind r
    (core-searches core c.get_dfas.result.now c.get_dfas.ensures.serve (option_copied c.looks_for-pre.result) r v (c.looks_for-pre.ensures.begins r p))

pub returns-clause-in_range : goal.returns-clause-in_range
returns-clause-in_range c =
    let core = c.args.self.now in
    in-nfa core.nfa core.kind core.reverse c.get_dfas.result.now c.get_dfas.ensures.serve (λ (m : HalfMatchValue). m.pattern) c.try_search_half.result
    c.try_search_half.ensures.in_range

pub returns-clause-cache : goal.returns-clause-cache
returns-clause-cache c =
    let was = c.cache.inside in
    let held : CacheValue = record { pikevm = was.pikevm; onepass = was.onepass; backtrack = was.backtrack; lazies = was.lazies; memory = was.memory } in
    lazies-fit c.args.self.now held c.args.cache.now c.cache.view_is c.get_dfas.result.now c.get_dfas.ensures.value c.try_search_half.new.lazies c.requires
    c.try_search_half.ensures.fits

pub returns-clause-memory : goal.returns-clause-memory
returns-clause-memory c =
    let was = c.cache.inside in
    let held : CacheValue = record { pikevm = was.pikevm; onepass = was.onepass; backtrack = was.backtrack; lazies = was.lazies; memory = was.memory } in
    lazies-alike c.args.self.now held c.args.cache.now c.cache.view_is c.get_dfas.result.now c.get_dfas.ensures.value c.try_search_half.new.lazies
    c.try_search_half.ensures.same
