use Rattle.std.proofs.Common.{◌≡◌, ℕ, subst}
use Rattle.std.specs.Prelude.{None, IfNone, replicate}
use Rattle.rx_search.specs.Input.{InputValue}
use Rattle.rx_nfa.specs.Nfa.{IsInRange}
use Rattle.rx_onepass.specs.Search.{IsFound}
use Rattle.rx_strategy.specs.OnePass.{begun}
use Rattle.rx_strategy.proofs.OnePassLemmas.{begun-anchored, found-told, found-in-range, found-places}
use Rattle.rx_strategy.proofs.onepass.find_in_one_pass.Goals as goal

pub returns-clause-told : goal.returns-clause-told
returns-clause-told c r of asked =
    let d = c.args.engine.now in
    let v = c.args.input.now in
    let slots = c.try_find_slots.new.slots in
    let found = c.in-Ok.found in
    let is : IsFound d (begun v) found slots = subst (λ (w : InputValue). IsFound d w found slots) c.begun.ensures.value c.in-Ok.ensures.found in
    let range : IsInRange d.nfa = subst IsInRange c.get_nfa.ensures c.states_len-states.ensures.in_range in
    found-told d (begun v) (begun-anchored v.anchor) slots found is range c.begun.ensures.spanned.end r of asked

pub returns-clause-in_range : goal.returns-clause-in_range
returns-clause-in_range c =
    let d = c.args.engine.now in
    let v = c.args.input.now in
    let slots = c.try_find_slots.new.slots in
    let found = c.in-Ok.found in
    let is : IsFound d (begun v) found slots = subst (λ (w : InputValue). IsFound d w found slots) c.begun.ensures.value c.in-Ok.ensures.found in
    let range : IsInRange d.nfa = subst IsInRange c.get_nfa.ensures c.states_len-states.ensures.in_range in
    found-in-range d (begun v) (begun-anchored v.anchor) slots found is range

pub returns-clause-slots_within : goal.returns-clause-slots_within
returns-clause-slots_within c =
    let d = c.args.engine.now in
    let v = c.args.input.now in
    let slots = c.try_find_slots.new.slots in
    let found = c.in-Ok.found in
    let is : IsFound d (begun v) found slots = subst (λ (w : InputValue). IsFound d w found slots) c.begun.ensures.value c.in-Ok.ensures.found in
    let range : IsInRange d.nfa = subst IsInRange c.get_nfa.ensures c.states_len-states.ensures.in_range in
    found-places d (begun v) (begun-anchored v.anchor) slots found is range

pub returns-clause-within : goal.returns-clause-within
returns-clause-within c =
    let d = c.args.engine.now in
    let v = c.args.input.now in
    let slots = c.try_find_slots.new.slots in
    let found = c.in-Ok.found in
    let is : IsFound d (begun v) found slots = subst (λ (w : InputValue). IsFound d w found slots) c.begun.ensures.value c.in-Ok.ensures.found in
    is.within

pub returns-clause-none : goal.returns-clause-none
returns-clause-none c =
    subst (λ (n : ℕ). IfNone c.in-Ok.found (c.try_find_slots.new.slots ≡ replicate n None)) c.try_find_slots.ensures.room c.in-Ok.ensures.found.none
