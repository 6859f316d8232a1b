use Rattle.std.proofs.Common.{sym, ◌∙◌, ap, subst, refl, arith}
use Rattle.std.specs.Prelude.{is_some, option_map, IfSome}
use Rattle.rx_search.specs.Matches.{match_value}
use Rattle.rx_search.specs.Told.{HasSlots}
use Rattle.rx_engines.specs.Engine.{PikeVMValue}
use Rattle.rx_engines.proofs.lemmas.answers.EngineLemmas.{answer_in-none, patterns-agree, search-inside, room-met, next-is, answer-is, reported-is_match, found-within, found-pattern, found-slots, found-places, stop-inside}
use Rattle.rx_engines.proofs.lemmas.candidates.CandidateLemmas.{passes-no_run}
use Rattle.rx_engines.proofs.lemmas.answers.SpanLemmas.{empty-within}
use Rattle.rx_engines.proofs.pikevm.vm.PikeVM.find_slots.Goals as goal

pub returns-in_default-clause-patterns : goal.returns-in_default-clause-patterns
returns-in_default-clause-patterns c = patterns-agree c.args.self.now c.args.input.now c.of.ensures.spanned.end

pub returns-clause-patterns : goal.returns-clause-patterns
returns-clause-patterns c = patterns-agree c.args.self.now c.args.input.now c.of.ensures.spanned.end

-- there is nothing to search

pub returns-in_default-clause-value : goal.returns-in_default-clause-value
returns-in_default-clause-value c begins =
    let same = ap (λ (e : PikeVMValue). e.nfa) c.self.view_is in
    sym (ap (option_map match_value) (answer_in-none c.args.self.now c.args.input.now (rw same at c.in_default.ensures.none)))

pub returns-in_default-clause-any : goal.returns-in_default-clause-any
returns-in_default-clause-any c begins =
    let same = ap (λ (e : PikeVMValue). e.nfa) c.self.view_is in
    sym (ap is_some ((rw same at c.in_default.ensures.none) c.args.input.now.end (omega arith)))

pub returns-in_default-clause-slots : goal.returns-in_default-clause-slots
returns-in_default-clause-slots c begins =
    let same = ap (λ (e : PikeVMValue). e.nfa) c.self.view_is in
    subst (λ o. IfSome o (HasSlots c.empty.new.slots)) (sym (answer_in-none c.args.self.now c.args.input.now (rw same at c.in_default.ensures.none))) tt

pub returns-in_default-clause-slots_within : goal.returns-in_default-clause-slots_within
returns-in_default-clause-slots_within c = empty-within c.args.input.now _ c.empty.new.slots c.empty.ensures

-- the search

pub find-requires-clause-search : goal.find-requires-clause-search
find-requires-clause-search c =
    let same = ap (λ (e : PikeVMValue). e.nfa) c.self.view_is in
    search-inside c.args.self.now.nfa c.args.input.now c.in-Some.search (rw same at c.in-Some.ensures.some) (rw same at c.of.ensures.in_range)
    c.of.ensures.spanned.end

pub find-requires-clause-room : goal.find-requires-clause-room
find-requires-clause-room c =
    let same = ap (λ (e : PikeVMValue). e.nfa) c.self.view_is in
    room-met c.args.self.now.nfa c.args.input.now c.in-Some.search (rw same at c.in-Some.ensures.some) c.args.cache.now c.requires

pub returns-clause-value : goal.returns-clause-value
returns-clause-value c begins =
    let same = ap (λ (e : PikeVMValue). e.nfa) c.self.view_is in
    let of = rw same at c.in-Some.ensures.some in
    let passes = passes-no_run c.args.self.now.nfa c.args.input.now c.in-Some.search of c.of.ensures.spanned.end c.self.inside.candidates
    c.in-Some.ensures.known (rw same at c.self.invariant.1) (ap (λ (e : PikeVMValue). e.pre) c.self.view_is) begins c.find.ensures.answer.offered
    c.find.ensures.answer.offers in
    c.find.ensures.answer.value ∙ ap (option_map match_value)
    (answer-is c.args.self.now c.args.input.now c.in-Some.search of c.find.ensures.answer.offered passes c.get_earliest.ensures)

pub returns-clause-any : goal.returns-clause-any
returns-clause-any c begins =
    let same = ap (λ (e : PikeVMValue). e.nfa) c.self.view_is in
    let of = rw same at c.in-Some.ensures.some in
    let passes = passes-no_run c.args.self.now.nfa c.args.input.now c.in-Some.search of c.of.ensures.spanned.end c.self.inside.candidates
    c.in-Some.ensures.known (rw same at c.self.invariant.1) (ap (λ (e : PikeVMValue). e.pre) c.self.view_is) begins c.find.ensures.answer.offered
    c.find.ensures.answer.offers in
    c.find.ensures.answer.any ∙ ap is_some (next-is c.args.self.now.nfa c.args.input.now c.in-Some.search of c.find.ensures.answer.offered passes)

pub returns-clause-slots : goal.returns-clause-slots
returns-clause-slots c begins =
    let same = ap (λ (e : PikeVMValue). e.nfa) c.self.view_is in
    let of = rw same at c.in-Some.ensures.some in
    let passes = passes-no_run c.args.self.now.nfa c.args.input.now c.in-Some.search of c.of.ensures.spanned.end c.self.inside.candidates
    c.in-Some.ensures.known (rw same at c.self.invariant.1) (ap (λ (e : PikeVMValue). e.pre) c.self.view_is) begins c.find.ensures.answer.offered
    c.find.ensures.answer.offers in
    subst (λ o. IfSome o (HasSlots c.find.new.slots)) (answer-is c.args.self.now c.args.input.now c.in-Some.search of c.find.ensures.answer.offered passes
    c.get_earliest.ensures)
    (found-slots c.args.self.now.nfa c.args.input.now c.in-Some.search of c.find.ensures.answer.offered (rw same at c.of.ensures.in_range) _ _ refl
    c.find.new.slots c.find.ensures.answer.slots_are)

pub returns-clause-is_match : goal.returns-clause-is_match
returns-clause-is_match c r is begins =
    let same = ap (λ (e : PikeVMValue). e.nfa) c.self.view_is in
    let of = rw same at c.in-Some.ensures.some in
    let passes = passes-no_run c.args.self.now.nfa c.args.input.now c.in-Some.search of c.of.ensures.spanned.end c.self.inside.candidates
    c.in-Some.ensures.known (rw same at c.self.invariant.1) (ap (λ (e : PikeVMValue). e.pre) c.self.view_is) begins c.find.ensures.answer.offered
    c.find.ensures.answer.offers in
    let told = answer-is c.args.self.now c.args.input.now c.in-Some.search of c.find.ensures.answer.offered passes c.get_earliest.ensures in
    let slots = subst (λ o. IfSome o (HasSlots c.find.new.slots)) told
    (found-slots c.args.self.now.nfa c.args.input.now c.in-Some.search of c.find.ensures.answer.offered (rw same at c.of.ensures.in_range) _ _ refl
    c.find.new.slots c.find.ensures.answer.slots_are) in
    reported-is_match c.args.self.now c.args.input.now c.of.ensures.spanned.end c.in-Some.ensures.some.in_order r is c.find.new.slots _ told c.find.result
    c.find.ensures.answer.value slots

-- whatever the candidates are, what is found lies in the span

pub returns-clause-within : goal.returns-clause-within
returns-clause-within c =
    let same = ap (λ (e : PikeVMValue). e.nfa) c.self.view_is in
    let of = rw same at c.in-Some.ensures.some in
    found-within c.args.self.now.nfa c.args.input.now c.in-Some.search of c.find.ensures.answer.offered _
    (stop-inside c.args.self.now.nfa c.args.input.now c.in-Some.search of c.find.ensures.answer.offered c.get_earliest.result) _ refl c.find.result
    c.find.ensures.answer.value

pub returns-clause-in_range : goal.returns-clause-in_range
returns-clause-in_range c =
    let same = ap (λ (e : PikeVMValue). e.nfa) c.self.view_is in
    let of = rw same at c.in-Some.ensures.some in
    found-pattern c.args.self.now.nfa c.args.input.now c.in-Some.search of c.find.ensures.answer.offered (rw same at c.of.ensures.in_range) _ _ refl
    c.find.result c.find.ensures.answer.value

pub returns-clause-slots_within : goal.returns-clause-slots_within
returns-clause-slots_within c =
    let same = ap (λ (e : PikeVMValue). e.nfa) c.self.view_is in
    let of = rw same at c.in-Some.ensures.some in
    found-places c.args.self.now.nfa c.args.input.now c.in-Some.search of c.find.ensures.answer.offered _
    (stop-inside c.args.self.now.nfa c.args.input.now c.in-Some.search of c.find.ensures.answer.offered c.get_earliest.result) _ refl c.find.new.slots
    (found-slots c.args.self.now.nfa c.args.input.now c.in-Some.search of c.find.ensures.answer.offered (rw same at c.of.ensures.in_range) _ _ refl
    c.find.new.slots c.find.ensures.answer.slots_are)
    _ (λ none. rw (c.find.ensures.answer.value ∙ ap (option_map match_value) none) at c.find.ensures.cleared)
