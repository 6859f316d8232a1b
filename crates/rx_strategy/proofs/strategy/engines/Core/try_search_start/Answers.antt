use Rattle.std.proofs.Common.{sym, subst}
use Rattle.std.specs.Prelude.{None, Some}
use Rattle.rx_search.specs.Matches.{MatchValue, match_value}
use Rattle.rx_dfa.specs.Search.{IsAnswerFor}
use Rattle.rx_strategy.proofs.DfaLemmas.{core-searches, less-asked, answers-begun}
use Rattle.rx_strategy.specs.Cache.{CacheValue}
use Rattle.rx_strategy.proofs.PartLemmas.{own-lazies, lazies-fit, lazies-alike}
use Rattle.rx_strategy.proofs.strategy.engines.Core.try_search_start.Goals as goal

pub returns-then-begins_with_span-clause-answer : goal.returns-then-begins_with_span-clause-answer
returns-then-begins_with_span-clause-answer c r p ended =
    let core = c.args.self.now in
    let v = c.args.input.now in
    subst (λ (m : MatchValue). IsAnswerFor core.kind r v match_value (Some m)) (sym c.match_from_start.ensures)
    (answers-begun core v r c.args.end (c.begins_with_span.ensures c.if-begins_with_span.true) core.kind ended)

pub returns-clause-answer : goal.returns-clause-answer
returns-clause-answer c r p ended =
    let core = c.args.self.now in
    let v = c.args.input.now in
    c.try_search_start.ensures.answer core.kind r
    (core-searches core c.get_dfas.result.now c.get_dfas.ensures.serve None r v (less-asked core.pre r v p)) ended

pub try_search_start-requires-clause-fits : goal.try_search_start-requires-clause-fits
try_search_start-requires-clause-fits c =
    let was = c.cache.inside in
    let held : CacheValue = record { pikevm = was.pikevm; onepass = was.onepass; backtrack = was.backtrack; lazies = was.lazies; memory = was.memory } in
    own-lazies c.args.self.now held c.args.cache.now c.cache.view_is c.get_dfas.result.now c.get_dfas.ensures.value c.requires.fits

pub returns-clause-cache : goal.returns-clause-cache
returns-clause-cache c =
    let was = c.cache.inside in
    let held : CacheValue = record { pikevm = was.pikevm; onepass = was.onepass; backtrack = was.backtrack; lazies = was.lazies; memory = was.memory } in
    lazies-fit c.args.self.now held c.args.cache.now c.cache.view_is c.get_dfas.result.now c.get_dfas.ensures.value c.try_search_start.new.lazies c.requires.fits
    c.try_search_start.ensures.fits

pub returns-clause-memory : goal.returns-clause-memory
returns-clause-memory c =
    let was = c.cache.inside in
    let held : CacheValue = record { pikevm = was.pikevm; onepass = was.onepass; backtrack = was.backtrack; lazies = was.lazies; memory = was.memory } in
    lazies-alike c.args.self.now held c.args.cache.now c.cache.view_is c.get_dfas.result.now c.get_dfas.ensures.value c.try_search_start.new.lazies
    c.try_search_start.ensures.same
