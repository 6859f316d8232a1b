use Rattle.std.proofs.Common.{ℕ, sym, ◌∙◌, ap, subst}
use Rattle.std.specs.Prelude.{Option}
use Rattle.rx_dfa.specs.Automaton.{next_key, IsReadable, StartFails, StepFails}
use Rattle.rx_dfa.specs.Course.{end_of}
use Rattle.rx_dfa.proofs.lemmas.CourseLemmas.{step-last}
use Rattle.rx_dfa.proofs.lemmas.PassLemmas.{placed-fails}
use Rattle.rx_dfa.proofs.search.parts.last_state.Goals as goal

pub returns-in-Ok-clause-last : goal.returns-in-Ok-clause-last
returns-in-Ok-clause-last g c = λ key held.
    let d = g.A.Automaton.dfa c.args.dfa.now in (
      next_key d key c.in-Some.byte,
      c.in-Ok.ensures.next key held,
      step-last d key c.in-Some.byte ∙ ap (λ o. (end_of d key o).matches) (sym c.in-Some.is),
    )

pub next_state-requires-clause-fits : goal.next_state-requires-clause-fits
next_state-requires-clause-fits g c = c.requires.fits

pub next_state-requires-clause-held : goal.next_state-requires-clause-held
next_state-requires-clause-held g c = c.requires.held

pub next_eoi-requires-clause-fits : goal.next_eoi-requires-clause-fits
next_eoi-requires-clause-fits g c = c.requires.fits

pub next_eoi-requires-clause-held : goal.next_eoi-requires-clause-held
next_eoi-requires-clause-held g c = c.requires.held

pub returns-in-Ok-clause-readable : goal.returns-in-Ok-clause-readable
returns-in-Ok-clause-readable g c = λ key held alive.
    subst (IsReadable (g.A.Automaton.dfa c.args.dfa.now).nfa) (sym c.in-Some.is) (c.in-Ok.ensures.readable key held alive)

pub returns-in-Ok-clause-err : goal.returns-in-Ok-clause-err
returns-in-Ok-clause-err g c = tt

pub returns-in-Ok-clause-fits : goal.returns-in-Ok-clause-fits
returns-in-Ok-clause-fits g c = c.in-Ok.ensures.fits

pub returns-in-Err-clause-last : goal.returns-in-Err-clause-last
returns-in-Err-clause-last g c = λ key held. tt

pub returns-in-Err-clause-readable : goal.returns-in-Err-clause-readable
returns-in-Err-clause-readable g c = λ key held alive. tt

pub returns-in-Err-clause-err : goal.returns-in-Err-clause-err
returns-in-Err-clause-err g c =
    let nfa = (g.A.Automaton.dfa c.args.dfa.now).nfa in
    let gives_up = g.A.Automaton.gives_up c.args.dfa.now c.next_state.new.cache in
    let wants = g.A.Automaton.wants c.args.dfa.now in
    subst (StartFails nfa c.args.byte c.args.beside c.args.place gives_up wants) (sym c.place_error.ensures)
    (placed-fails nfa c.args.byte c.args.beside c.args.place gives_up wants c.in-Err.error
    (subst (λ (o : Option ℕ). StepFails nfa o gives_up wants c.in-Err.error) (sym c.in-Some.is) c.in-Err.ensures.err))

pub returns-in-Err-clause-fits : goal.returns-in-Err-clause-fits
returns-in-Err-clause-fits g c = c.in-Err.ensures.fits

pub returns-in-Ok-next_eoi-clause-err : goal.returns-in-Ok-next_eoi-clause-err
returns-in-Ok-next_eoi-clause-err g c = tt

pub returns-in-Ok-next_eoi-clause-fits : goal.returns-in-Ok-next_eoi-clause-fits
returns-in-Ok-next_eoi-clause-fits g c = c.in-Ok-next_eoi.ensures.fits

pub returns-in-Err-next_eoi-clause-last : goal.returns-in-Err-next_eoi-clause-last
returns-in-Err-next_eoi-clause-last g c = λ key held. tt

pub returns-in-Err-next_eoi-clause-readable : goal.returns-in-Err-next_eoi-clause-readable
returns-in-Err-next_eoi-clause-readable g c = λ key held alive. tt

pub returns-in-Err-next_eoi-clause-fits : goal.returns-in-Err-next_eoi-clause-fits
returns-in-Err-next_eoi-clause-fits g c = c.in-Err-next_eoi.ensures.fits
