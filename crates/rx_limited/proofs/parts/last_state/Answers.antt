use Rattle.std.proofs.Common.{sym, ◌∙◌, ap}
use Rattle.rx_dfa.specs.Automaton.{next_key}
use Rattle.rx_dfa.specs.Course.{end_of}
use Rattle.rx_dfa.proofs.lemmas.CourseLemmas.{step-last}
use Rattle.rx_limited.proofs.parts.last_state.Goals as goal

pub returns-in-Ok-clause-last : goal.returns-in-Ok-clause-last
returns-in-Ok-clause-last g c = λ key held.
    let d = g.A.Automaton.dfa c.args.dfa.now in (
      next_key d key c.in-Some.byte,
      c.in-Ok.ensures.next key held,
      step-last d key c.in-Some.byte ∙ ap (λ o. (end_of d key o).matches) (sym c.in-Some.is),
    )
