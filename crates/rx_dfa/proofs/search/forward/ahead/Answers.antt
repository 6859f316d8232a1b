use Rattle.std.proofs.Common.{◌≡◌, ◌+◌, ◌-◌, length, sym, ◌∙◌, ap, subst, arith}
use Rattle.std.specs.Prelude.{Some, slice_index}
use Rattle.std.proofs.lemmas.Option.{slice_get-get_or}
use Rattle.rx_dfa.specs.Search.{SearchFails}
use Rattle.rx_dfa.proofs.lemmas.ForwardLemmas.{step-fails}
use Rattle.rx_dfa.proofs.lemmas.PassLemmas.{passed-one}
use Rattle.rx_dfa.proofs.search.forward.ahead.Goals as goal

pub is_special-requires : goal.is_special-requires
is_special-requires g c = c.requires.held

pub bounds-haystack-from : goal.bounds-haystack-from
bounds-haystack-from g c = omega (arith, c.requires.some, c.requires.within)

pub next_state-requires-clause-fits : goal.next_state-requires-clause-fits
next_state-requires-clause-fits g c = c.requires.fits

pub next_state-requires-clause-held : goal.next_state-requires-clause-held
next_state-requires-clause-held g c = c.requires.held

pub returns-in-Ok-clause-passed : goal.returns-in-Ok-clause-passed
returns-in-Ok-clause-passed g c = λ key held alive.
    let from = c.args.from in
    let none : from - from ≡ 0 = omega arith in
    let place : from ≡ from + 0 = omega arith in
    passed-one (g.A.Automaton.holds c.args.dfa.now c.args.cache.now) (g.A.Automaton.holds c.args.dfa.now c.next_state.new.cache)
    (g.A.Automaton.dfa c.args.dfa.now) (λ i. slice_index c.args.haystack.now (from + i)) key (from - from) (c.args.end - from) c.args.state c.in-Ok.next
    (slice_index c.args.haystack.now from) none (omega (arith, c.requires.some)) (ap (slice_index c.args.haystack.now) place) held alive
    (c.in-Ok.ensures.next key held) (c.in-Ok.ensures.readable key held alive)

pub returns-in-Ok-clause-between : goal.returns-in-Ok-clause-between
returns-in-Ok-clause-between g c = (omega arith, omega (arith, c.requires.some))

pub returns-in-Ok-clause-err : goal.returns-in-Ok-clause-err
returns-in-Ok-clause-err g c = λ v hay low high. tt

pub returns-in-Ok-clause-fits : goal.returns-in-Ok-clause-fits
returns-in-Ok-clause-fits g c = c.in-Ok.ensures.fits

pub returns-in-Err-clause-passed : goal.returns-in-Err-clause-passed
returns-in-Err-clause-passed g c = λ key held alive. tt

pub returns-in-Err-clause-between : goal.returns-in-Err-clause-between
returns-in-Err-clause-between g c = tt

pub returns-in-Err-clause-err : goal.returns-in-Err-clause-err
returns-in-Err-clause-err g c = λ v hay low high.
    let d = g.A.Automaton.dfa c.args.dfa.now in
    let at = c.args.from in
    let byte = slice_index c.args.haystack.now at in
    let byte_is : byte ≡ slice_index v.haystack at = ap (λ t. slice_index t at) (sym hay) in
    let long = ap length hay in
    let gives_up = g.A.Automaton.gives_up c.args.dfa.now c.next_state.new.cache in
    let wants = g.A.Automaton.wants c.args.dfa.now in
    subst (SearchFails d.nfa v gives_up wants) (sym c.place_error.ensures)
    (step-fails d.nfa v at at byte gives_up wants c.in-Err.error (omega (arith, low)) (omega (arith, high, c.requires.some)) low
    (omega (arith, high, c.requires.some))
    (slice_get-get_or v.haystack at 0 (omega (arith, long, c.requires.some, c.requires.within)) ∙ ap Some (sym byte_is)) c.in-Err.ensures.err)

pub returns-in-Err-clause-fits : goal.returns-in-Err-clause-fits
returns-in-Err-clause-fits g c = c.in-Err.ensures.fits

pub pass-requires-clause-fits : goal.pass-requires-clause-fits
pass-requires-clause-fits g c = c.requires.fits

pub pass-requires-clause-held : goal.pass-requires-clause-held
pass-requires-clause-held g c = c.requires.held

pub pass-requires-clause-some : goal.pass-requires-clause-some
pass-requires-clause-some g c = c.requires.some

pub pass-requires-clause-within : goal.pass-requires-clause-within
pass-requires-clause-within g c = c.requires.within

pub returns-clause-passed : goal.returns-clause-passed
returns-clause-passed g c = c.pass.ensures.passed

pub returns-clause-between : goal.returns-clause-between
returns-clause-between g c = c.pass.ensures.between

pub returns-clause-err : goal.returns-clause-err
returns-clause-err g c = c.pass.ensures.err

pub returns-clause-fits : goal.returns-clause-fits
returns-clause-fits g c = c.pass.ensures.fits
