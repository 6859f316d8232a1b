use Rattle.std.proofs.Common.{sym, ap, subst}
use Rattle.std.specs.Prelude.{Some, None, IfOk}
use Rattle.std.specs.Result.{IfErr}
use Rattle.rx_search.specs.Matches.{MatchValue}
use Rattle.rx_attempts.specs.Stops.{StopsBy}
use Rattle.rx_strategy.specs.Attempts.{InnerFailsIn, HasCountedInner}
use Rattle.rx_strategy.specs.Dfas.{pair_of}
use Rattle.rx_strategy.specs.declared.dfas.Dfas.{Dfas}
use Rattle.rx_strategy.proofs.CacheLemmas.{first-fits}
use Rattle.rx_strategy.proofs.PairLemmas.{reads-on, search-as, are-patterns, caches-of, not-lazy}
use Rattle.rx_strategy.proofs.dfas.Dfas.try_reverse_inner.Goals as goal

pub by_inner-requires-clause-forward : goal.by_inner-requires-clause-forward
by_inner-requires-clause-forward g c =
    reads-on c.args.self.now (c.in-Full.forward.dfa, c.in-Full.backward.dfa) (ap pair_of c.in-Full.is) c.requires.paired

pub by_inner_in-requires-clause-fits : goal.by_inner_in-requires-clause-fits
by_inner_in-requires-clause-fits g c =
    (caches-of c.args.self.now c.in-Lazy.forward c.in-Lazy.backward c.args.lazies.now c.in-Some.both c.in-Lazy.is c.in-Some.is c.requires.fits).0

pub by_inner_in-requires-clause-forward : goal.by_inner_in-requires-clause-forward
by_inner_in-requires-clause-forward g c =
    reads-on c.args.self.now (c.in-Lazy.forward.dfa, c.in-Lazy.backward.dfa) (ap pair_of c.in-Lazy.is) c.requires.paired

pub returns-in-Full-clause-answer : goal.returns-in-Full-clause-answer
returns-in-Full-clause-answer g c kind r given has =
    c.by_inner.ensures.answer kind r c.in-Full.backward.dfa
    (search-as c.args.self.now (c.in-Full.forward.dfa, c.in-Full.backward.dfa) (ap pair_of c.in-Full.is) None kind r c.args.input.now given) has

pub returns-in-Full-clause-in_range : goal.returns-in-Full-clause-in_range
returns-in-Full-clause-in_range g c =
    are-patterns c.args.self.now (c.in-Full.forward.dfa, c.in-Full.backward.dfa) (ap pair_of c.in-Full.is) (λ (m : MatchValue). m.pattern) c.by_inner.result
    c.by_inner.ensures.in_range

pub returns-in-Full-clause-err : goal.returns-in-Full-clause-err
returns-in-Full-clause-err g c =
    let a = c.args in
    let rev = g.B.Automaton.dfa a.rev.now in
    let gave = g.B.Automaton.gives_up a.rev.now c.by_inner.new.rev_cache in
    let wants = g.B.Automaton.wants a.rev.now in
    subst (λ (d : Dfas). IfErr c.by_inner.result (StopsBy a.patience (InnerFailsIn d rev a.pre.now a.input.now a.lazies.now gave wants)))
    (sym c.in-Full.is) c.by_inner.ensures.err

pub returns-in-Full-clause-ticks : goal.returns-in-Full-clause-ticks
returns-in-Full-clause-ticks g c whole =
    let a = c.args in
    let rev = g.B.Automaton.dfa a.rev.now in
    subst (λ (d : Dfas). IfOk c.by_inner.result (HasCountedInner d rev a.pre.now a.input.now a.steps.now c.by_inner.new.steps)) (sym c.in-Full.is)
    (c.by_inner.ensures.ticks whole)

pub returns-in-Some-clause-answer : goal.returns-in-Some-clause-answer
returns-in-Some-clause-answer g c kind r given has =
    c.by_inner_in.ensures.answer kind r c.in-Lazy.backward.dfa
    (search-as c.args.self.now (c.in-Lazy.forward.dfa, c.in-Lazy.backward.dfa) (ap pair_of c.in-Lazy.is) None kind r c.args.input.now given) has

pub returns-in-Some-clause-in_range : goal.returns-in-Some-clause-in_range
returns-in-Some-clause-in_range g c =
    are-patterns c.args.self.now (c.in-Lazy.forward.dfa, c.in-Lazy.backward.dfa) (ap pair_of c.in-Lazy.is) (λ (m : MatchValue). m.pattern)
    c.by_inner_in.result c.by_inner_in.ensures.in_range

pub returns-in-Some-clause-err : goal.returns-in-Some-clause-err
returns-in-Some-clause-err g c =
    let a = c.args in
    let rev = g.B.Automaton.dfa a.rev.now in
    let gave = g.B.Automaton.gives_up a.rev.now c.by_inner_in.new.rev_cache in
    let wants = g.B.Automaton.wants a.rev.now in
    subst (λ (d : Dfas). IfErr c.by_inner_in.result (StopsBy a.patience (InnerFailsIn d rev a.pre.now a.input.now (Some c.by_inner_in.new.both) gave wants)))
    (sym c.in-Lazy.is) c.by_inner_in.ensures.err

pub returns-in-Some-clause-ticks : goal.returns-in-Some-clause-ticks
returns-in-Some-clause-ticks g c whole =
    let a = c.args in
    let rev = g.B.Automaton.dfa a.rev.now in
    subst (λ (d : Dfas). IfOk c.by_inner_in.result (HasCountedInner d rev a.pre.now a.input.now a.steps.now c.by_inner_in.new.steps)) (sym c.in-Lazy.is)
    (c.by_inner_in.ensures.ticks whole)

pub returns-in-Some-clause-fits : goal.returns-in-Some-clause-fits
returns-in-Some-clause-fits g c =
    first-fits c.args.self.now c.in-Lazy.forward c.in-Lazy.backward c.args.lazies.now c.in-Some.both c.by_inner_in.new.both c.in-Lazy.is c.in-Some.is
    c.requires.fits c.by_inner_in.ensures.fits c.by_inner_in.ensures.same

pub returns-in-Some-clause-same : goal.returns-in-Some-clause-same
returns-in-Some-clause-same g c off =
    not-lazy c.args.self.now c.in-Lazy.forward c.in-Lazy.backward c.args.lazies.now c.in-Some.both c.in-Lazy.is c.in-Some.is off
