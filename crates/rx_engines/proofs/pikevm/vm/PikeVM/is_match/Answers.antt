use Rattle.std.proofs.Common.{sym, ◌∙◌, ap, arith}
use Rattle.std.specs.Prelude.{is_some}
use Rattle.rx_engines.specs.Engine.{PikeVMValue}
use Rattle.rx_engines.proofs.lemmas.answers.EngineLemmas.{patterns-agree, search-inside, room-met, next-is}
use Rattle.rx_engines.proofs.lemmas.candidates.CandidateLemmas.{passes-no_run}
use Rattle.rx_engines.proofs.pikevm.vm.PikeVM.is_match.Goals as goal

pub returns-in_default-clause-value : goal.returns-in_default-clause-value
returns-in_default-clause-value c begins =
    let same = ap (λ (e : PikeVMValue). e.nfa) c.self.view_is in
    sym (ap is_some ((rw same at c.in_default.ensures.none) c.args.input.now.end (omega arith)))

pub returns-in_default-clause-patterns : goal.returns-in_default-clause-patterns
returns-in_default-clause-patterns c = patterns-agree c.args.self.now c.args.input.now c.of.ensures.spanned.end

pub find-requires-clause-room : goal.find-requires-clause-room
find-requires-clause-room c =
    let same = ap (λ (e : PikeVMValue). e.nfa) c.self.view_is in
    room-met c.args.self.now.nfa c.args.input.now c.in-Some.search (rw same at c.in-Some.ensures.some) c.args.cache.now c.requires

pub find-requires-clause-search : goal.find-requires-clause-search
find-requires-clause-search c =
    let same = ap (λ (e : PikeVMValue). e.nfa) c.self.view_is in
    search-inside c.args.self.now.nfa c.args.input.now c.in-Some.search (rw same at c.in-Some.ensures.some) (rw same at c.of.ensures.in_range)
    c.of.ensures.spanned.end

pub returns-clause-value : goal.returns-clause-value
returns-clause-value c begins =
    let same = ap (λ (e : PikeVMValue). e.nfa) c.self.view_is in
    let of = rw same at c.in-Some.ensures.some in
    let passes = passes-no_run c.args.self.now.nfa c.args.input.now c.in-Some.search of c.of.ensures.spanned.end c.self.inside.candidates
    c.in-Some.ensures.known (rw same at c.self.invariant.1) (ap (λ (e : PikeVMValue). e.pre) c.self.view_is) begins c.find.ensures.answer.offered
    c.find.ensures.answer.offers in
    c.is_some.ensures ∙ c.find.ensures.answer.any ∙ ap is_some
    (next-is c.args.self.now.nfa c.args.input.now c.in-Some.search of c.find.ensures.answer.offered passes)

pub returns-clause-patterns : goal.returns-clause-patterns
returns-clause-patterns c = patterns-agree c.args.self.now c.args.input.now c.of.ensures.spanned.end
