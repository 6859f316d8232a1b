use Rattle.std.proofs.Common.{◌≡◌, ◌<◌, ◌≤◌, length, sym, ◌∙◌, ap, subst, arith, slice_index}
use Rattle.std.specs.Prelude.{true, ◌&&◌, nat_le}
use Rattle.std.proofs.lemmas.Bool.Decides.{nat_tests}
use Rattle.rx_model.specs.Search.{is_permitted}
use Rattle.rx_search.specs.Input.{is_char_boundary}
use Rattle.rx_nfa.specs.Nfa.{IsInRange}
use Rattle.rx_onepass.specs.Dfa.{Dfa}
use Rattle.rx_onepass.proofs.dfa.DFA.may_start.Goals as goal

pub is_between-between-requires : goal.is_between-between-requires
is_between-between-requires c = λ k. let fits = (c.type_inv.haystack k).fits in omega arith

pub haystack-haystack-requires : goal.haystack-haystack-requires
haystack-haystack-requires c = tt

pub is_utf8-requires : goal.is_utf8-requires
is_utf8-requires c = tt

pub start-requires : goal.start-requires
start-requires c = tt

pub states_len-states-requires : goal.states_len-states-requires
states_len-states-requires c = tt

pub returns-clause-bytes : goal.returns-clause-bytes
returns-clause-bytes c k lt = subst (λ xs. slice_index xs k < 256) c.haystack-haystack.ensures.value (c.is_between-between.ensures.bytes k)

pub returns-then-not-is_utf8-clause-bytes : goal.returns-then-not-is_utf8-clause-bytes
returns-then-not-is_utf8-clause-bytes c k lt = subst (λ xs. slice_index xs k < 256) c.haystack-haystack.ensures.value (c.is_between-between.ensures.bytes k)

pub returns-clause-in_range : goal.returns-clause-in_range
returns-clause-in_range c = subst (λ (d : Dfa). IsInRange d.nfa) c.self.view_is c.states_len-states.ensures.in_range

pub returns-then-not-is_utf8-clause-in_range : goal.returns-then-not-is_utf8-clause-in_range
returns-then-not-is_utf8-clause-in_range c = subst (λ (d : Dfa). IsInRange d.nfa) c.self.view_is c.states_len-states.ensures.in_range

pub returns-then-not-is_utf8-clause-value : goal.returns-then-not-is_utf8-clause-value
returns-then-not-is_utf8-clause-value c =
    ap (λ u. is_permitted u c.args.input.now.haystack c.args.input.now.start)
    (sym c.if-not-is_utf8.true ∙ c.is_utf8.ensures.value ∙ ap (λ (d : Dfa). d.nfa.utf8) c.self.view_is)

pub returns-clause-value : goal.returns-clause-value
returns-clause-value c =
    let text = c.args.input.now.haystack in
    let at = c.args.input.now.start in
    let le : at ≤ length text = omega (arith, c.requires, c.start.ensures.spanned.end) in
    let within : nat_le at (length text) ≡ true = grind (arith, nat_tests) in
    c.is_between-between.ensures.value ∙ ap (λ xs. is_char_boundary xs c.start.result) c.haystack-haystack.ensures.value
    ∙ ap (λ i. is_char_boundary text i) c.start.ensures.value ∙ ap (λ b. b && is_permitted true text at) within
    ∙ ap (λ u. is_permitted u text at) (sym c.if-not-is_utf8.false ∙ c.is_utf8.ensures.value ∙ ap (λ (d : Dfa). d.nfa.utf8) c.self.view_is)
