use Rattle.std.proofs.Common.{◌≡◌, ◌≤◌, ℕ, length, refl, sym, subst, ap, ◌∙◌, arith}
use Rattle.std.specs.Prelude.{false, Option, Some, None, ◌+◌, ◌*◌, slice_index_or, slice_set}
use Rattle.rx_search.specs.Input.{InputValue}
use Rattle.rx_search.specs.Matches.{HalfMatchValue, MatchValue}
use Rattle.rx_onepass_table.specs.Along.{BothTellSame}
use Rattle.rx_onepass.specs.Search.{run_in, IsFound}
use Rattle.rx_onepass.specs.Walked.{told_from, IsWalked}
use Rattle.rx_onepass.proofs.lemmas.CallLemmas.{found-exact}
use Rattle.rx_onepass.proofs.lemmas.RunLemmas.{run-told, run-not-permitted}
use Rattle.rx_onepass.proofs.lemmas.SlotLemmas.{none-replicated, found-none, told-none, hit-within, found-some}
use Rattle.rx_onepass.proofs.dfa.DFA.find_from.Goals as goal

pub returns-then-not-may_start-clause-found : goal.returns-then-not-may_start-clause-found
returns-then-not-may_start-clause-found c =
    let d = c.args.self.now in
    let v = c.args.input.now in
    found-none d v c.args.slots.now (length c.args.slots.now) (run-not-permitted d v (sym c.may_start.ensures.value ∙ c.if-not-may_start.true))
    c.requires.empty

pub walk-requires-clause-in_order : goal.walk-requires-clause-in_order
walk-requires-clause-in_order c =
    let same = c.set_earliest.ensures ∙ ap (λ (x : InputValue). record x { earliest = false }) c.clone-exact.ensures.value in
    subst (λ (x : InputValue). x.start ≤ x.end) (sym same) c.requires.in_order

pub walk-requires-clause-row : goal.walk-requires-clause-row
walk-requires-clause-row c = c.requires.row.2.inside

pub walk-requires-clause-empty : goal.walk-requires-clause-empty
walk-requires-clause-empty c k = ap (λ s. slice_index_or s k None) c.requires.empty ∙ none-replicated (length c.args.slots.now) k

pub returns-in_default-clause-found : goal.returns-in_default-clause-found
returns-in_default-clause-found c =
    let d = c.args.self.now in
    let v = c.args.input.now in
    let row = c.args.row in
    let q = c.requires.row.0 in
    let exact = c.set_earliest.ensures ∙ ap (λ (x : InputValue). record x { earliest = false }) c.clone-exact.ensures.value in
    let walked : IsWalked d (record v { earliest = false }) row c.args.slots.now c.walk.result c.walk.new.slots =
    subst (λ (x : InputValue). IsWalked d x row c.args.slots.now c.walk.result c.walk.new.slots) exact c.walk.ensures.walked in
    let same : BothTellSame d.nfa (run_in d v) (told_from d v row) =
    run-told d v c.may_start.ensures.in_range c.requires.in_order c.may_start.ensures.bytes row q c.requires.row.2 c.requires.row.1
    (sym c.may_start.ensures.value ∙ c.if-not-may_start.false) in
    found-none d v c.empty.new.slots (length c.walk.new.slots)
    (told-none d.nfa (run_in d v) (told_from d v row) same c.walk.result c.in_default.is walked.any) c.empty.ensures

pub tell_match-requires : goal.tell_match-requires
tell_match-requires c =
    let d = c.args.self.now in
    let v = c.args.input.now in
    let row = c.args.row in
    let q = c.requires.row.0 in
    let half = c.in-Some.half in
    let exact = c.set_earliest.ensures ∙ ap (λ (x : InputValue). record x { earliest = false }) c.clone-exact.ensures.value in
    let met : IsWalked d (record v { earliest = false }) row c.args.slots.now c.walk.result c.walk.new.slots =
    subst (λ (x : InputValue). IsWalked d x row c.args.slots.now c.walk.result c.walk.new.slots) exact c.walk.ensures.walked in
    let walked : IsWalked d (record v { earliest = false }) row c.args.slots.now (Some half) c.walk.new.slots =
    subst (λ (o : Option HalfMatchValue). IsWalked d (record v { earliest = false }) row c.args.slots.now o c.walk.new.slots) c.in-Some.is met in
    let same : BothTellSame d.nfa (run_in d v) (told_from d v row) =
    run-told d v c.may_start.ensures.in_range c.requires.in_order c.may_start.ensures.bytes row q c.requires.row.2 c.requires.row.1
    (sym c.may_start.ensures.value ∙ c.if-not-may_start.false) in
    let within = hit-within d (record v { earliest = false }) row (length c.args.slots.now) c.requires.in_order half c.args.slots.now c.walk.new.slots
    c.requires.empty refl walked same in
    let start = c.start.ensures.value in
    let low = within.0 in
    let high = within.1 in
    let short = c.may_start.ensures.short in
    record { in_order = omega arith; short = omega arith }

pub returns-clause-found : goal.returns-clause-found
returns-clause-found c =
    let d = c.args.self.now in
    let v = c.args.input.now in
    let row = c.args.row in
    let q = c.requires.row.0 in
    let half = c.in-Some.half in
    let exact = c.set_earliest.ensures ∙ ap (λ (x : InputValue). record x { earliest = false }) c.clone-exact.ensures.value in
    let met : IsWalked d (record v { earliest = false }) row c.args.slots.now c.walk.result c.walk.new.slots =
    subst (λ (x : InputValue). IsWalked d x row c.args.slots.now c.walk.result c.walk.new.slots) exact c.walk.ensures.walked in
    let walked : IsWalked d (record v { earliest = false }) row c.args.slots.now (Some half) c.walk.new.slots =
    subst (λ (o : Option HalfMatchValue). IsWalked d (record v { earliest = false }) row c.args.slots.now o c.walk.new.slots) c.in-Some.is met in
    let same : BothTellSame d.nfa (run_in d v) (told_from d v row) =
    run-told d v c.may_start.ensures.in_range c.requires.in_order c.may_start.ensures.bytes row q c.requires.row.2 c.requires.row.1
    (sym c.may_start.ensures.value ∙ c.if-not-may_start.false) in
    let found = found-some d (record v { earliest = false }) row (length c.args.slots.now) c.requires.in_order half c.args.slots.now c.walk.new.slots
    c.requires.empty refl walked same in
    let told : IsFound d v (Some (record { pattern = half.pattern; start = v.start; end = half.offset }))
    (slice_set (slice_set c.walk.new.slots (2 * half.pattern) (Some v.start)) (2 * half.pattern + 1) (Some half.offset)) =
    found-exact d v false _ _ found in
    let start = c.start.ensures.value in
    let match_is : c.tell_match.result ≡ record { pattern = half.pattern; start = v.start; end = half.offset } =
    c.tell_match.ensures.value ∙ ap (λ (i : ℕ). record { pattern = half.pattern; start = i; end = half.offset }) start in
    let slots_are : c.tell_match.new.slots
    ≡ slice_set (slice_set c.walk.new.slots (2 * half.pattern) (Some v.start)) (2 * half.pattern + 1) (Some half.offset) =
    c.tell_match.ensures.slots
    ∙ ap (λ (i : ℕ). slice_set (slice_set c.walk.new.slots (2 * half.pattern) (Some i)) (2 * half.pattern + 1) (Some half.offset)) start in
    subst (λ (m : MatchValue). IsFound d v (Some m) c.tell_match.new.slots) (sym match_is)
    (subst (IsFound d v (Some (record { pattern = half.pattern; start = v.start; end = half.offset }))) (sym slots_are) told)
