use Rattle.std.proofs.Common.{◌≡◌, ◌≤◌, sym, subst, ap, ◌∙◌}
use Rattle.std.specs.Prelude.{true, is_some}
use Rattle.rx_nfa.specs.NextMatch.{start_of}
use Rattle.rx_search.specs.Input.{InputValue}
use Rattle.rx_onepass_table.specs.Along.{BothTellSame}
use Rattle.rx_onepass.specs.Search.{run_in}
use Rattle.rx_onepass.specs.Walked.{told_from}
use Rattle.rx_onepass.proofs.lemmas.CallLemmas.{taken-twice}
use Rattle.rx_onepass.proofs.lemmas.RunLemmas.{run-told, run-not-permitted}
use Rattle.rx_onepass.proofs.lemmas.WalkLemmas.{same-some}
use Rattle.rx_onepass.proofs.dfa.DFA.meets.Goals as goal

pub returns-then-not-may_start-clause-value : goal.returns-then-not-may_start-clause-value
returns-then-not-may_start-clause-value c =
    sym (ap is_some (run-not-permitted c.args.self.now c.args.input.now (sym c.may_start.ensures.value ∙ c.if-not-may_start.true)))

pub walk-met-requires-clause-in_order : goal.walk-met-requires-clause-in_order
walk-met-requires-clause-in_order c =
    let same = c.set_earliest.ensures ∙ ap (λ (x : InputValue). record x { earliest = true }) c.clone-any.ensures.value in
    subst (λ (x : InputValue). x.start ≤ x.end) (sym same) c.requires.in_order

pub walk-met-requires-clause-row : goal.walk-met-requires-clause-row
walk-met-requires-clause-row c = c.requires.row.2.inside

pub returns-clause-value : goal.returns-clause-value
returns-clause-value c =
    let d = c.args.self.now in
    let v = c.args.input.now in
    let row = c.args.row in
    let any = c.set_earliest.ensures ∙ ap (λ (x : InputValue). record x { earliest = true }) c.clone-any.ensures.value in
    let same : BothTellSame d.nfa (run_in d v) (told_from d v row) =
    run-told d v c.may_start.ensures.in_range c.requires.in_order c.may_start.ensures.bytes row c.requires.row.0 c.requires.row.2
    (ap (start_of d.nfa) (sym (taken-twice v.anchor)) ∙ c.requires.row.1) (sym c.may_start.ensures.value ∙ c.if-not-may_start.false) in
    let met : is_some c.walk-met.result ≡ is_some (told_from d v row) = c.walk-met.ensures.walked.any ∙ ap (λ (x : InputValue). is_some (told_from d x row)) any in
    c.is_some.ensures ∙ met ∙ sym (same-some d.nfa (run_in d v) (told_from d v row) same)
