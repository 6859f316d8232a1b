use Rattle.std.proofs.Common.{refl, sym, ◌∙◌, ap, subst, arith}
use Rattle.std.specs.Prelude.{option_map, IfSome}
use Rattle.rx_search.specs.Matches.{match_value}
use Rattle.rx_search.specs.Told.{HasSlots}
use Rattle.rx_engines.specs.Bounded.{BacktrackerValue, Room}
use Rattle.rx_engines.specs.Search.{is_offered}
use Rattle.rx_engines.proofs.lemmas.answers.EngineLemmas.{search-inside, next-is, found-within, found-pattern, found-slots, found-places}
use Rattle.rx_engines.proofs.lemmas.candidates.CandidateLemmas.{passes-no_run}
use Rattle.rx_engines.proofs.lemmas.backtracking.BoundedLemmas.{patterns-met, short-enough, extent-small, extent-fits, frames-fit}
use Rattle.rx_engines.proofs.lemmas.answers.SpanLemmas.{empty-within}
use Rattle.rx_engines.proofs.backtrack.backtracker.BoundedBacktracker.try_find_slots.Goals as goal

pub returns-then-len-max_haystack_len-clause-patterns : goal.returns-then-len-max_haystack_len-clause-patterns
returns-then-len-max_haystack_len-clause-patterns c = patterns-met c.args.self.now.nfa c.args.input.now c.end.ensures.spanned.end

pub returns-in_default-clause-patterns : goal.returns-in_default-clause-patterns
returns-in_default-clause-patterns c = patterns-met c.args.self.now.nfa c.args.input.now c.end.ensures.spanned.end

pub returns-clause-patterns : goal.returns-clause-patterns
returns-clause-patterns c = patterns-met c.args.self.now.nfa c.args.input.now c.end.ensures.spanned.end

-- there is nothing to search

pub returns-in_default-clause-value : goal.returns-in_default-clause-value
returns-in_default-clause-value c begins =
    let same = ap (λ (e : BacktrackerValue). e.nfa) c.self.view_is in
    sym (ap (option_map match_value) ((rw same at c.in_default.ensures.none) c.args.input.now.end (omega arith)))

pub returns-in_default-clause-slots : goal.returns-in_default-clause-slots
returns-in_default-clause-slots c begins =
    let same = ap (λ (e : BacktrackerValue). e.nfa) c.self.view_is in
    subst (λ o. IfSome o (HasSlots c.empty-in_default.new.slots)) (sym ((rw same at c.in_default.ensures.none) c.args.input.now.end (omega arith))) tt

-- the search

pub find-requires-clause-search : goal.find-requires-clause-search
find-requires-clause-search c =
    let same = ap (λ (e : BacktrackerValue). e.nfa) c.self.view_is in
    search-inside c.args.self.now.nfa c.args.input.now c.in-Some.search (rw same at c.in-Some.ensures.some) (rw same at c.of.ensures.in_range)
    c.of.ensures.spanned.end

pub find-requires-clause-small : goal.find-requires-clause-small
find-requires-clause-small c =
    let same = ap (λ (e : BacktrackerValue). e.nfa) c.self.view_is in
    let short = short-enough c.args.self.now.nfa c.args.input.now c.saturating_sub-len.ensures c.end.ensures.value c.start.ensures.value
    c.max_haystack_len.ensures c.if-len-max_haystack_len.false in
    extent-small c.args.self.now.nfa c.args.input.now c.in-Some.search (rw same at c.in-Some.ensures.some) short (rw same at c.of.ensures.in_range.few_states)

pub find-requires-clause-room : goal.find-requires-clause-room
find-requires-clause-room c =
    let same = ap (λ (e : BacktrackerValue). e.nfa) c.self.view_is in
    let short = short-enough c.args.self.now.nfa c.args.input.now c.saturating_sub-len.ensures c.end.ensures.value c.start.ensures.value
    c.max_haystack_len.ensures c.if-len-max_haystack_len.false in
    extent-fits c.args.self.now.nfa c.args.input.now c.in-Some.search (rw same at c.in-Some.ensures.some) short c.requires.bits

pub find-requires-clause-frames : goal.find-requires-clause-frames
find-requires-clause-frames c =
    let same = ap (λ (e : BacktrackerValue). e.nfa) c.self.view_is in
    let short = short-enough c.args.self.now.nfa c.args.input.now c.saturating_sub-len.ensures c.end.ensures.value c.start.ensures.value
    c.max_haystack_len.ensures c.if-len-max_haystack_len.false in
    frames-fit c.args.self.now.nfa c.args.input.now c.in-Some.search (rw same at c.in-Some.ensures.some) short c.requires.stack

pub returns-clause-value : goal.returns-clause-value
returns-clause-value c begins =
    let same = ap (λ (e : BacktrackerValue). e.nfa) c.self.view_is in
    let of = rw same at c.in-Some.ensures.some in
    let passes = passes-no_run c.args.self.now.nfa c.args.input.now c.in-Some.search of c.end.ensures.spanned.end c.self.inside.candidates
    c.in-Some.ensures.known (rw same at c.self.invariant.1) (ap (λ (e : BacktrackerValue). e.pre) c.self.view_is) begins (is_offered c.in-Some.search)
    (λ i lies begun. lies) in
    c.find.ensures.value ∙ ap (option_map match_value) (next-is c.args.self.now.nfa c.args.input.now c.in-Some.search of (is_offered c.in-Some.search) passes)

pub returns-clause-slots : goal.returns-clause-slots
returns-clause-slots c begins =
    let same = ap (λ (e : BacktrackerValue). e.nfa) c.self.view_is in
    let of = rw same at c.in-Some.ensures.some in
    let passes = passes-no_run c.args.self.now.nfa c.args.input.now c.in-Some.search of c.end.ensures.spanned.end c.self.inside.candidates
    c.in-Some.ensures.known (rw same at c.self.invariant.1) (ap (λ (e : BacktrackerValue). e.pre) c.self.view_is) begins (is_offered c.in-Some.search)
    (λ i lies begun. lies) in
    subst (λ o. IfSome o (HasSlots c.find.new.slots)) (next-is c.args.self.now.nfa c.args.input.now c.in-Some.search of (is_offered c.in-Some.search) passes)
    (found-slots c.args.self.now.nfa c.args.input.now c.in-Some.search of (is_offered c.in-Some.search) (rw same at c.of.ensures.in_range) _ _ refl
    c.find.new.slots c.find.ensures.slots)

pub returns-clause-within : goal.returns-clause-within
returns-clause-within c =
    let same = ap (λ (e : BacktrackerValue). e.nfa) c.self.view_is in
    let of = rw same at c.in-Some.ensures.some in
    found-within c.args.self.now.nfa c.args.input.now c.in-Some.search of (is_offered c.in-Some.search) _
    (let end = of.end in omega arith) _ refl c.find.result c.find.ensures.value

-- its pattern is one of the NFA's

pub returns-clause-in_range : goal.returns-clause-in_range
returns-clause-in_range c =
    let same = ap (λ (e : BacktrackerValue). e.nfa) c.self.view_is in
    let of = rw same at c.in-Some.ensures.some in
    found-pattern c.args.self.now.nfa c.args.input.now c.in-Some.search of (is_offered c.in-Some.search) (rw same at c.of.ensures.in_range) _ _ refl
    c.find.result c.find.ensures.value

-- the slots lie in the span

pub returns-then-len-max_haystack_len-clause-slots_within : goal.returns-then-len-max_haystack_len-clause-slots_within
returns-then-len-max_haystack_len-clause-slots_within c = empty-within c.args.input.now _ c.empty.new.slots c.empty.ensures

pub returns-in_default-clause-slots_within : goal.returns-in_default-clause-slots_within
returns-in_default-clause-slots_within c = empty-within c.args.input.now _ c.empty-in_default.new.slots c.empty-in_default.ensures

pub returns-clause-slots_within : goal.returns-clause-slots_within
returns-clause-slots_within c =
    let same = ap (λ (e : BacktrackerValue). e.nfa) c.self.view_is in
    let of = rw same at c.in-Some.ensures.some in
    found-places c.args.self.now.nfa c.args.input.now c.in-Some.search of (is_offered c.in-Some.search) _
    (let end = of.end in omega arith) _ refl c.find.new.slots
    (found-slots c.args.self.now.nfa c.args.input.now c.in-Some.search of (is_offered c.in-Some.search) (rw same at c.of.ensures.in_range) _ _ refl
    c.find.new.slots c.find.ensures.slots)
    _ (λ none. rw (c.find.ensures.value ∙ ap (option_map match_value) none) at c.find.ensures.none)

-- what is left as it was

pub returns-clause-short : goal.returns-clause-short
returns-clause-short c =
    short-enough c.args.self.now.nfa c.args.input.now c.saturating_sub-len.ensures c.end.ensures.value c.start.ensures.value
    c.max_haystack_len.ensures c.if-len-max_haystack_len.false

pub returns-clause-cache : goal.returns-clause-cache
returns-clause-cache c = rw c.find.ensures.room c.requires

pub returns-clause-memory : goal.returns-clause-memory
returns-clause-memory c = ap (λ (r : Room). r.memory) c.find.ensures.room

pub returns-clause-none : goal.returns-clause-none
returns-clause-none c = c.find.ensures.none

pub find-requires-clause-slots : goal.find-requires-clause-slots
find-requires-clause-slots c =
    let same = ap (λ (e : BacktrackerValue). e.nfa) c.self.view_is in
    let of = rw same at c.in-Some.ensures.some in
    rw of.slots c.requires.slots
