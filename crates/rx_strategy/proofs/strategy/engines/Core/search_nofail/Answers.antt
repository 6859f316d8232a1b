use Rattle.std.proofs.Common.{sym, ap, ◌∙◌, subst}
use Rattle.rx_search.specs.Told.{tells}
use Rattle.rx_search.specs.declared.anchored.MatchKind.{MatchKind}
use Rattle.rx_nfa.specs.Nfa.{Nfa, IsNfaOf}
use Rattle.rx_strategy.specs.Core.{IsToldFor}
use Rattle.rx_strategy.specs.OnePass.{begun}
use Rattle.rx_strategy.proofs.AnswerLemmas.{searched-told}
use Rattle.rx_strategy.proofs.OnePassLemmas.{begun-told, one-over}
use Rattle.rx_strategy.specs.Cache.{CacheValue}
use Rattle.rx_strategy.proofs.PartLemmas.{fit-before, onepass-fit, onepass-alike, one-serves, one-again}
use Rattle.rx_strategy.proofs.strategy.engines.Core.search_nofail.Goals as goal

pub find_in_one_pass-requires-clause-each : goal.find_in_one_pass-requires-clause-each
find_in_one_pass-requires-clause-each c = (one-over c.args.self.now c.in-Some.engine.now c.in-Some.ensures.serves.1 c.in-Some.ensures.once).each

pub returns-in-Some-clause-told : goal.returns-in-Some-clause-told
returns-in-Some-clause-told c r of begins =
    let core = c.args.self.now in
    let v = c.args.input.now in
    let d = c.in-Some.engine.now in
    let over = one-over core d c.in-Some.ensures.serves.1 c.in-Some.ensures.once in
    let slots = c.find_in_one_pass.new.slots in
    let found = c.find_in_one_pass.result in
    let own : IsNfaOf d.nfa r = subst (λ (n : Nfa). IsNfaOf n r) (sym over.nfa_is) of.nfa in
    begun-told core v c.in-Some.ensures.serves.0 c.in-Some.ensures.once r of slots core.kind found
    (subst (λ (k : MatchKind). IsToldFor k r (begun v) slots found) over.kind_is
    (c.find_in_one_pass.ensures.told r own (ap tells of.which_captures ∙ c.requires.told)))

pub returns-in-None-clause-told : goal.returns-in-None-clause-told
returns-in-None-clause-told c r of begins =
    let core = c.args.self.now in
    searched-told core c.args.input.now core.kind c.search_states.new.slots c.search_states.result (c.search_states.ensures.answer begins) r of

pub find_in_one_pass-requires-clause-fits : goal.find_in_one_pass-requires-clause-fits
find_in_one_pass-requires-clause-fits c =
    let was = c.cache.inside in
    let held : CacheValue = record { pikevm = was.pikevm; onepass = was.onepass; backtrack = was.backtrack; lazies = was.lazies; memory = was.memory } in
    one-serves c.args.self.now.onepass c.in-Some.engine.now held.onepass c.in-Some.ensures.serves.1
    (fit-before c.args.self.now held c.args.cache.now c.cache.view_is c.requires.fits).onepass

pub returns-in-Some-clause-cache : goal.returns-in-Some-clause-cache
returns-in-Some-clause-cache c =
    let was = c.cache.inside in
    let held : CacheValue = record { pikevm = was.pikevm; onepass = was.onepass; backtrack = was.backtrack; lazies = was.lazies; memory = was.memory } in
    onepass-fit c.args.self.now held c.args.cache.now c.cache.view_is c.find_in_one_pass.new.cache c.requires.fits
    (one-again c.args.self.now.onepass c.in-Some.engine.now c.find_in_one_pass.new.cache c.in-Some.ensures.serves.1 c.find_in_one_pass.ensures.cache)

pub returns-in-Some-clause-memory : goal.returns-in-Some-clause-memory
returns-in-Some-clause-memory c =
    let was = c.cache.inside in
    let held : CacheValue = record { pikevm = was.pikevm; onepass = was.onepass; backtrack = was.backtrack; lazies = was.lazies; memory = was.memory } in
    onepass-alike c.args.self.now held c.args.cache.now c.cache.view_is c.find_in_one_pass.new.cache
