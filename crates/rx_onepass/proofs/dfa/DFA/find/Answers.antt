use Rattle.std.proofs.Common.{subst}
use Rattle.rx_search.specs.Input.{InputValue}
use Rattle.rx_onepass.specs.Search.{IsFound, IsRefusal}
use Rattle.rx_onepass.proofs.lemmas.CallLemmas.{value-taken, within-taken, not-refused}
use Rattle.rx_onepass.proofs.dfa.DFA.find.Goals as goal

pub returns-in-Ok-clause-value : goal.returns-in-Ok-clause-value
returns-in-Ok-clause-value c =
    let x = subst (λ (w : InputValue). IsFound c.args.self.now w c.in-Ok.found c.try_find_slots.new.slots) c.anchored.ensures c.in-Ok.ensures.found in
    value-taken c.args.self.now c.args.input.now c.in-Ok.found x.value

pub returns-in-Ok-clause-within : goal.returns-in-Ok-clause-within
returns-in-Ok-clause-within c =
    let x = subst (λ (w : InputValue). IsFound c.args.self.now w c.in-Ok.found c.try_find_slots.new.slots) c.anchored.ensures c.in-Ok.ensures.found in
    within-taken c.args.self.now c.args.input.now c.in-Ok.found x.within

pub returns-in-Err-clause-value : goal.returns-in-Err-clause-value
returns-in-Err-clause-value c =
    absurd (not-refused c.args.self.now c.args.input.now c.requires.each c.in-Err.field-0
    (subst (λ (w : InputValue). IsRefusal c.args.self.now w c.in-Err.field-0) c.anchored.ensures c.in-Err.ensures.err))
