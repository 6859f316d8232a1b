use Rattle.std.proofs.Common.{◌≡◌, length, sym, ◌∙◌, ap, true≢false}
use Rattle.std.specs.Prelude.{is_some}
use Rattle.rx_engines.specs.Engine.{PikeVMValue}
use Rattle.rx_engines.specs.Overlap.{of_pattern}
use Rattle.rx_engines.proofs.lemmas.answers.EngineLemmas.{patterns-agree, search-inside, room-met, next-is}
use Rattle.rx_engines.proofs.lemmas.answers.OverlapLemmas.{range-pattern, passes-pattern, found-is, unsought}
use Rattle.rx_engines.proofs.pikevm.vm.PikeVM.has_match.Goals as goal

pub of_pattern-requires : goal.of_pattern-requires
of_pattern-requires c = let same = ap (λ (e : PikeVMValue). length e.nfa.starts) c.self.view_is in rw same c.requires.is_there

pub returns-in_default-clause-value : goal.returns-in_default-clause-value
returns-in_default-clause-value c r is begins =
    let same = ap (λ (e : PikeVMValue). e.nfa) c.self.view_is in
    unsought c.args.self.now r is c.args.input.now c.of_pattern.ensures.spanned.end c.args.pattern (rw same at c.in_default.ensures.none)

pub find-requires-clause-search : goal.find-requires-clause-search
find-requires-clause-search c =
    let same = ap (λ (e : PikeVMValue). e.nfa) c.self.view_is in
    search-inside (of_pattern c.args.self.now.nfa c.args.pattern) c.args.input.now c.in-Some.search (rw same at c.in-Some.ensures.some)
    (range-pattern c.args.self.now.nfa c.args.pattern c.requires.is_there (rw same at c.of_pattern.ensures.in_range)) c.of_pattern.ensures.spanned.end

pub find-requires-clause-room : goal.find-requires-clause-room
find-requires-clause-room c =
    let same = ap (λ (e : PikeVMValue). e.nfa) c.self.view_is in
    room-met (of_pattern c.args.self.now.nfa c.args.pattern) c.args.input.now c.in-Some.search (rw same at c.in-Some.ensures.some) c.args.cache.now
    c.requires.fits

pub returns-clause-value : goal.returns-clause-value
returns-clause-value c r is begins =
    let same = ap (λ (e : PikeVMValue). e.nfa) c.self.view_is in
    let nfa = c.args.self.now.nfa in
    let v = c.args.input.now in
    let of = rw same at c.in-Some.ensures.some in
    let passes = passes-pattern nfa r is v c.of_pattern.ensures.spanned.end c.args.pattern c.requires.is_there c.in-Some.ensures.sought c.in-Some.search of
    c.self.inside.candidates c.in-Some.ensures.known (rw same at c.self.invariant.1) (ap (λ (e : PikeVMValue). e.pre) c.self.view_is) begins
    c.find.ensures.answer.offered c.find.ensures.answer.offers in
    found-is nfa r is v c.of_pattern.ensures.spanned.end c.args.pattern c.requires.is_there c.in-Some.ensures.sought c.is_some.result
    (c.is_some.ensures ∙ c.find.ensures.answer.any
    ∙ ap is_some (next-is (of_pattern nfa c.args.pattern) v c.in-Some.search of c.find.ensures.answer.offered passes))
