use Rattle.std.proofs.Common.{◌≡◌, sym, ap, ◌∙◌, subst, true≢false}
use Rattle.std.specs.Prelude.{Option, Some, None, is_some, IfOk}
use Rattle.std.specs.Result.{IfErr}
use Rattle.rx_search.specs.Matches.{MatchValue}
use Rattle.rx_nfa.specs.Nfa.{Nfa}
use Rattle.rx_attempts.specs.Stops.{StopsBy}
use Rattle.rx_dfa.specs.declared.lazy.lazy_cache.LazyCache.{LazyCache}
use Rattle.rx_strategy.specs.Attempts.{HasInner, InnerFailsIn, HasCountedInner}
use Rattle.rx_strategy.specs.Cache.{CacheValue}
use Rattle.rx_strategy.specs.Dfas.{pair_of}
use Rattle.rx_strategy.specs.Prefix.{PrefixValue, dfa_in, FitsSort, is_lazy_sort, prefix_gives_up, prefix_wants}
use Rattle.rx_strategy.specs.declared.dfas.Dfas.{Dfas}
use Rattle.rx_strategy.specs.declared.prefix.Sort.{Sort}
use Rattle.rx_strategy.specs.declared.prefix.Sort.TheVariants.{Full, Lazy}
use Rattle.rx_strategy.proofs.DfaLemmas.{core-searches, in-nfa}
use Rattle.rx_strategy.proofs.PartLemmas.{own-lazies, lazies-fit, lazies-alike}
use Rattle.rx_strategy.proofs.strategy.engines.Core.try_reverse_inner.Goals as goal

pub try_reverse_inner-requires-clause-fits : goal.try_reverse_inner-requires-clause-fits
try_reverse_inner-requires-clause-fits g c =
    let was = c.cache.inside in
    let held : CacheValue = record { pikevm = was.pikevm; onepass = was.onepass; backtrack = was.backtrack; lazies = was.lazies; memory = was.memory } in
    own-lazies c.args.self.now held c.args.cache.now c.cache.view_is c.get_dfas-dfas.result.now c.get_dfas-dfas.ensures.value c.requires.fits

pub try_reverse_inner-requires-clause-there : goal.try_reverse_inner-requires-clause-there
try_reverse_inner-requires-clause-there g c =
    ap (λ (d : Dfas). is_some (pair_of d)) c.get_dfas-dfas.ensures.value ∙ c.requires.there

pub try_reverse_inner-requires-clause-reverse : goal.try_reverse_inner-requires-clause-reverse
try_reverse_inner-requires-clause-reverse g c =
    let back = c.prefix.invariant in
    ap (λ (s : Sort). (dfa_in s).nfa.reverse) (sym c.in-Full.is) ∙ ap (λ (n : Nfa). n.reverse) back.nfa_is ∙ back.reads_back

pub try_reverse_inner-requires-in-Lazy-clause-fits : goal.try_reverse_inner-requires-in-Lazy-clause-fits
try_reverse_inner-requires-in-Lazy-clause-fits g c =
    let was = c.cache.inside in
    let held : CacheValue = record { pikevm = was.pikevm; onepass = was.onepass; backtrack = was.backtrack; lazies = was.lazies; memory = was.memory } in
    own-lazies c.args.self.now held c.args.cache.now c.cache.view_is c.get_dfas-dfas.result.now c.get_dfas-dfas.ensures.value c.requires.fits

pub try_reverse_inner-requires-in-Lazy-clause-there : goal.try_reverse_inner-requires-in-Lazy-clause-there
try_reverse_inner-requires-in-Lazy-clause-there g c =
    ap (λ (d : Dfas). is_some (pair_of d)) c.get_dfas-dfas.ensures.value ∙ c.requires.there

pub try_reverse_inner-requires-in-Lazy-clause-reverse : goal.try_reverse_inner-requires-in-Lazy-clause-reverse
try_reverse_inner-requires-in-Lazy-clause-reverse g c =
    let back = c.prefix.invariant in
    ap (λ (s : Sort). (dfa_in s).nfa.reverse) (sym c.in-Lazy.is) ∙ ap (λ (n : Nfa). n.reverse) back.nfa_is ∙ back.reads_back

pub try_reverse_inner-requires-in-Lazy-clause-rev_fits : goal.try_reverse_inner-requires-in-Lazy-clause-rev_fits
try_reverse_inner-requires-in-Lazy-clause-rev_fits g c =
    let held : FitsSort c.prefix.inside.sort c.states.inside.lazy =
    subst (λ (p : PrefixValue × Option LazyCache). FitsSort p.0.sort p.1) (λ i. (sym c.prefix.view_is i, sym c.states.view_is i)) c.requires.states_fit in
    subst (λ (p : Sort × Option LazyCache). FitsSort p.0 p.1) (λ i. (c.in-Lazy.is i, c.in-Some.is i)) held

pub returns-in-Full-clause-answer : goal.returns-in-Full-clause-answer
returns-in-Full-clause-answer g c r p has =
    let core = c.args.self.now in
    let v = c.args.input.now in
    let sort : c.args.prefix.now.sort ≡ Full c.in-Full.rev = sym (ap (λ (x : PrefixValue). x.sort) c.prefix.view_is) ∙ c.in-Full.is in
    c.try_reverse_inner.ensures.answer core.kind r
    (core-searches core c.get_dfas-dfas.result.now c.get_dfas-dfas.ensures.serve None r v p)
    (subst (λ (s : Sort). HasInner (dfa_in s) c.args.pre.now r) sort has)

pub returns-in-Full-clause-in_range : goal.returns-in-Full-clause-in_range
returns-in-Full-clause-in_range g c =
    let core = c.args.self.now in
    in-nfa core.nfa core.kind core.reverse c.get_dfas-dfas.result.now c.get_dfas-dfas.ensures.serve (λ (m : MatchValue). m.pattern) c.try_reverse_inner.result
    c.try_reverse_inner.ensures.in_range

pub returns-in-Full-clause-err : goal.returns-in-Full-clause-err
returns-in-Full-clause-err g c =
    let call = c.try_reverse_inner in
    let a = c.args in
    let sort : c.args.prefix.now.sort ≡ Full c.in-Full.rev = sym (ap (λ (x : PrefixValue). x.sort) c.prefix.view_is) ∙ c.in-Full.is in
    subst (λ (p : Dfas × Sort). IfErr call.result (StopsBy a.patience (InnerFailsIn p.0 (dfa_in p.1) a.pre.now a.input.now call.new.lazies
    (prefix_gives_up p.1 c.args.states.now) (prefix_wants p.1)))) (λ i. (c.get_dfas-dfas.ensures.value i, sym sort i)) call.ensures.err

pub returns-in-Full-clause-ticks : goal.returns-in-Full-clause-ticks
returns-in-Full-clause-ticks g c whole =
    let call = c.try_reverse_inner in
    let a = c.args in
    let sort : c.args.prefix.now.sort ≡ Full c.in-Full.rev = sym (ap (λ (x : PrefixValue). x.sort) c.prefix.view_is) ∙ c.in-Full.is in
    subst (λ (p : Dfas × Sort). IfOk call.result (HasCountedInner p.0 (dfa_in p.1) a.pre.now a.input.now a.steps.now call.new.steps))
    (λ i. (c.get_dfas-dfas.ensures.value i, sym sort i)) (call.ensures.ticks whole)

pub returns-in-Full-clause-cache : goal.returns-in-Full-clause-cache
returns-in-Full-clause-cache g c =
    let call = c.try_reverse_inner in
    let was = c.cache.inside in
    let held : CacheValue = record { pikevm = was.pikevm; onepass = was.onepass; backtrack = was.backtrack; lazies = was.lazies; memory = was.memory } in
    lazies-fit c.args.self.now held c.args.cache.now c.cache.view_is c.get_dfas-dfas.result.now c.get_dfas-dfas.ensures.value call.new.lazies c.requires.fits
    call.ensures.fits

pub returns-in-Full-clause-memory : goal.returns-in-Full-clause-memory
returns-in-Full-clause-memory g c =
    let was = c.cache.inside in
    let held : CacheValue = record { pikevm = was.pikevm; onepass = was.onepass; backtrack = was.backtrack; lazies = was.lazies; memory = was.memory } in
    lazies-alike c.args.self.now held c.args.cache.now c.cache.view_is c.get_dfas-dfas.result.now c.get_dfas-dfas.ensures.value c.try_reverse_inner.new.lazies
    c.try_reverse_inner.ensures.same

pub returns-in-Some-clause-answer : goal.returns-in-Some-clause-answer
returns-in-Some-clause-answer g c r p has =
    let core = c.args.self.now in
    let v = c.args.input.now in
    let sort : c.args.prefix.now.sort ≡ Lazy c.in-Lazy.rev = sym (ap (λ (x : PrefixValue). x.sort) c.prefix.view_is) ∙ c.in-Lazy.is in
    c.try_reverse_inner-in-Lazy.ensures.answer core.kind r
    (core-searches core c.get_dfas-dfas.result.now c.get_dfas-dfas.ensures.serve None r v p)
    (subst (λ (s : Sort). HasInner (dfa_in s) c.args.pre.now r) sort has)

pub returns-in-Some-clause-in_range : goal.returns-in-Some-clause-in_range
returns-in-Some-clause-in_range g c =
    let core = c.args.self.now in
    in-nfa core.nfa core.kind core.reverse c.get_dfas-dfas.result.now c.get_dfas-dfas.ensures.serve (λ (m : MatchValue). m.pattern) c.try_reverse_inner-in-Lazy.result
    c.try_reverse_inner-in-Lazy.ensures.in_range

pub returns-in-Some-clause-err : goal.returns-in-Some-clause-err
returns-in-Some-clause-err g c =
    let call = c.try_reverse_inner-in-Lazy in
    let a = c.args in
    let sort : c.args.prefix.now.sort ≡ Lazy c.in-Lazy.rev = sym (ap (λ (x : PrefixValue). x.sort) c.prefix.view_is) ∙ c.in-Lazy.is in
    subst (λ (p : Dfas × Sort). IfErr call.result (StopsBy a.patience (InnerFailsIn p.0 (dfa_in p.1) a.pre.now a.input.now call.new.lazies
    (prefix_gives_up p.1 (Some call.new.rev_cache)) (prefix_wants p.1)))) (λ i. (c.get_dfas-dfas.ensures.value i, sym sort i)) call.ensures.err

pub returns-in-Some-clause-ticks : goal.returns-in-Some-clause-ticks
returns-in-Some-clause-ticks g c whole =
    let call = c.try_reverse_inner-in-Lazy in
    let a = c.args in
    let sort : c.args.prefix.now.sort ≡ Lazy c.in-Lazy.rev = sym (ap (λ (x : PrefixValue). x.sort) c.prefix.view_is) ∙ c.in-Lazy.is in
    subst (λ (p : Dfas × Sort). IfOk call.result (HasCountedInner p.0 (dfa_in p.1) a.pre.now a.input.now a.steps.now call.new.steps))
    (λ i. (c.get_dfas-dfas.ensures.value i, sym sort i)) (call.ensures.ticks whole)

pub returns-in-Some-clause-cache : goal.returns-in-Some-clause-cache
returns-in-Some-clause-cache g c =
    let call = c.try_reverse_inner-in-Lazy in
    let was = c.cache.inside in
    let held : CacheValue = record { pikevm = was.pikevm; onepass = was.onepass; backtrack = was.backtrack; lazies = was.lazies; memory = was.memory } in
    lazies-fit c.args.self.now held c.args.cache.now c.cache.view_is c.get_dfas-dfas.result.now c.get_dfas-dfas.ensures.value call.new.lazies c.requires.fits
    call.ensures.fits

pub returns-in-Some-clause-memory : goal.returns-in-Some-clause-memory
returns-in-Some-clause-memory g c =
    let was = c.cache.inside in
    let held : CacheValue = record { pikevm = was.pikevm; onepass = was.onepass; backtrack = was.backtrack; lazies = was.lazies; memory = was.memory } in
    lazies-alike c.args.self.now held c.args.cache.now c.cache.view_is c.get_dfas-dfas.result.now c.get_dfas-dfas.ensures.value c.try_reverse_inner-in-Lazy.new.lazies
    c.try_reverse_inner-in-Lazy.ensures.same

pub returns-in-Some-clause-states_fit : goal.returns-in-Some-clause-states_fit
returns-in-Some-clause-states_fit g c =
    let sort : c.args.prefix.now.sort ≡ Lazy c.in-Lazy.rev = sym (ap (λ (x : PrefixValue). x.sort) c.prefix.view_is) ∙ c.in-Lazy.is in
    subst (λ (s : Sort). FitsSort s (Some c.try_reverse_inner-in-Lazy.new.rev_cache)) (sym sort) c.try_reverse_inner-in-Lazy.ensures.rev_fits

pub returns-in-Some-clause-states_same : goal.returns-in-Some-clause-states_same
returns-in-Some-clause-states_same g c off =
    let sort : c.args.prefix.now.sort ≡ Lazy c.in-Lazy.rev = sym (ap (λ (x : PrefixValue). x.sort) c.prefix.view_is) ∙ c.in-Lazy.is in
    absurd (true≢false (sym (ap is_lazy_sort sort) ∙ off))
