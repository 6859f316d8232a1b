use Rattle.std.proofs.Common.{sym, ap, subst}
use Rattle.std.specs.Prelude.{Some, None, IfOk}
use Rattle.std.specs.Result.{IfErr}
use Rattle.rx_search.specs.Matches.{MatchValue}
use Rattle.rx_attempts.specs.Stops.{StopsBy}
use Rattle.rx_strategy.specs.Attempts.{SuffixFailsIn, HasCountedSuffix}
use Rattle.rx_strategy.specs.Dfas.{pair_of}
use Rattle.rx_strategy.specs.declared.dfas.Dfas.{Dfas}
use Rattle.rx_strategy.proofs.PairLemmas.{reads-on, reads-back, search-as, are-patterns, caches-of, not-lazy, serve-lazy}
use Rattle.rx_strategy.proofs.dfas.Dfas.try_reverse_suffix.Goals as goal

pub by_suffix-requires-clause-forward : goal.by_suffix-requires-clause-forward
by_suffix-requires-clause-forward g c =
    reads-on c.args.self.now (c.in-Full.forward.dfa, c.in-Full.backward.dfa) (ap pair_of c.in-Full.is) c.requires.paired

pub by_suffix-requires-clause-backward : goal.by_suffix-requires-clause-backward
by_suffix-requires-clause-backward g c =
    reads-back c.args.self.now (c.in-Full.forward.dfa, c.in-Full.backward.dfa) (ap pair_of c.in-Full.is) c.requires.paired

pub by_suffix_in-requires-clause-fits : goal.by_suffix_in-requires-clause-fits
by_suffix_in-requires-clause-fits g c =
    caches-of c.args.self.now c.in-Lazy.forward c.in-Lazy.backward c.args.lazies.now c.in-Some.both c.in-Lazy.is c.in-Some.is c.requires.fits

pub by_suffix_in-requires-clause-forward : goal.by_suffix_in-requires-clause-forward
by_suffix_in-requires-clause-forward g c =
    reads-on c.args.self.now (c.in-Lazy.forward.dfa, c.in-Lazy.backward.dfa) (ap pair_of c.in-Lazy.is) c.requires.paired

pub by_suffix_in-requires-clause-backward : goal.by_suffix_in-requires-clause-backward
by_suffix_in-requires-clause-backward g c =
    reads-back c.args.self.now (c.in-Lazy.forward.dfa, c.in-Lazy.backward.dfa) (ap pair_of c.in-Lazy.is) c.requires.paired

pub returns-in-Full-clause-answer : goal.returns-in-Full-clause-answer
returns-in-Full-clause-answer g c kind r given has =
    c.by_suffix.ensures.answer kind r
    (search-as c.args.self.now (c.in-Full.forward.dfa, c.in-Full.backward.dfa) (ap pair_of c.in-Full.is) None kind r c.args.input.now given) has

pub returns-in-Full-clause-in_range : goal.returns-in-Full-clause-in_range
returns-in-Full-clause-in_range g c =
    are-patterns c.args.self.now (c.in-Full.forward.dfa, c.in-Full.backward.dfa) (ap pair_of c.in-Full.is) (λ (m : MatchValue). m.pattern) c.by_suffix.result
    c.by_suffix.ensures.in_range

pub returns-in-Full-clause-err : goal.returns-in-Full-clause-err
returns-in-Full-clause-err g c =
    let a = c.args in
    subst (λ (d : Dfas). IfErr c.by_suffix.result (StopsBy a.patience (SuffixFailsIn d a.pre.now a.input.now a.lazies.now))) (sym c.in-Full.is)
    c.by_suffix.ensures.err

pub returns-in-Full-clause-ticks : goal.returns-in-Full-clause-ticks
returns-in-Full-clause-ticks g c whole =
    let a = c.args in
    subst (λ (d : Dfas). IfOk c.by_suffix.result (HasCountedSuffix d a.pre.now a.input.now a.steps.now c.by_suffix.new.steps)) (sym c.in-Full.is)
    (c.by_suffix.ensures.ticks whole)

pub returns-in-Some-clause-answer : goal.returns-in-Some-clause-answer
returns-in-Some-clause-answer g c kind r given has =
    c.by_suffix_in.ensures.answer kind r
    (search-as c.args.self.now (c.in-Lazy.forward.dfa, c.in-Lazy.backward.dfa) (ap pair_of c.in-Lazy.is) None kind r c.args.input.now given) has

pub returns-in-Some-clause-in_range : goal.returns-in-Some-clause-in_range
returns-in-Some-clause-in_range g c =
    are-patterns c.args.self.now (c.in-Lazy.forward.dfa, c.in-Lazy.backward.dfa) (ap pair_of c.in-Lazy.is) (λ (m : MatchValue). m.pattern)
    c.by_suffix_in.result c.by_suffix_in.ensures.in_range

pub returns-in-Some-clause-err : goal.returns-in-Some-clause-err
returns-in-Some-clause-err g c =
    let a = c.args in
    subst (λ (d : Dfas). IfErr c.by_suffix_in.result (StopsBy a.patience (SuffixFailsIn d a.pre.now a.input.now (Some c.by_suffix_in.new.both))))
    (sym c.in-Lazy.is) c.by_suffix_in.ensures.err

pub returns-in-Some-clause-ticks : goal.returns-in-Some-clause-ticks
returns-in-Some-clause-ticks g c whole =
    let a = c.args in
    subst (λ (d : Dfas). IfOk c.by_suffix_in.result (HasCountedSuffix d a.pre.now a.input.now a.steps.now c.by_suffix_in.new.steps)) (sym c.in-Lazy.is)
    (c.by_suffix_in.ensures.ticks whole)

pub returns-in-Some-clause-fits : goal.returns-in-Some-clause-fits
returns-in-Some-clause-fits g c =
    serve-lazy c.args.self.now c.in-Lazy.forward c.in-Lazy.backward c.by_suffix_in.new.both c.in-Lazy.is c.by_suffix_in.ensures.fits

pub returns-in-Some-clause-same : goal.returns-in-Some-clause-same
returns-in-Some-clause-same g c off =
    not-lazy c.args.self.now c.in-Lazy.forward c.in-Lazy.backward c.args.lazies.now c.in-Some.both c.in-Lazy.is c.in-Some.is off
