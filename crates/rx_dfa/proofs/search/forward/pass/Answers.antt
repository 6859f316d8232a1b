use Rattle.std.proofs.Common.{◌≡◌, ℕ, ◌+◌, ◌-◌, length, sym, ◌∙◌, ap, subst, arith}
use Rattle.std.specs.Prelude.{Some, slice_index}
use Rattle.std.proofs.lemmas.Option.{slice_get-get_or}
use Rattle.rx_dfa.specs.Search.{SearchFails}
use Rattle.rx_dfa.proofs.lemmas.ForwardLemmas.{step-fails}
use Rattle.rx_dfa.proofs.lemmas.PassLemmas.{way-first, way-end, way-more, way-out}
use Rattle.rx_dfa.proofs.search.forward.pass.Goals as goal

pub plain-init : goal.plain-init
plain-init g c = record {
  low = omega arith;
  high = omega arith;
  some = c.requires.held;
  way = λ key held alive. way-first (g.A.Automaton.holds c.args.dfa.now c.args.cache.now) (g.A.Automaton.dfa c.args.dfa.now)
      (λ i. slice_index c.args.haystack.now (c.args.from + i)) key _ c.args.state (omega arith) held alive;
  fits = c.requires.fits;
}

pub returns-in-Err-clause-err : goal.returns-in-Err-clause-err
returns-in-Err-clause-err g c = λ v hay low high.
    let d = g.A.Automaton.dfa c.args.dfa.now in
    let at = c.plain.at in
    let byte = slice_index c.args.haystack.now at in
    let byte_is : byte ≡ slice_index v.haystack at = ap (λ t. slice_index t at) (sym hay) in
    let first = c.plain.invariant.low in
    let long = ap length hay in
    let within = c.requires.within in
    let lt = c.plain-test.true in
    let gives_up = g.A.Automaton.gives_up c.args.dfa.now c.next_state.new.cache in
    let wants = g.A.Automaton.wants c.args.dfa.now in
    subst (SearchFails d.nfa v gives_up wants) (sym c.place_error.ensures)
    (step-fails d.nfa v at at byte gives_up wants c.in-Err.error (omega arith) (omega arith) (omega arith) (omega arith)
    (slice_get-get_or v.haystack at 0 (omega arith) ∙ ap Some (sym byte_is)) c.in-Err.ensures.err)

pub is_special-requires : goal.is_special-requires
is_special-requires g c =
    let some = c.plain.invariant.some in
    (_, c.in-Ok.ensures.next some.0 some.1)

pub returns-then-is_special-clause-passed : goal.returns-then-is_special-clause-passed
returns-then-is_special-clause-passed g c = λ key held alive.
    let d = g.A.Automaton.dfa c.args.dfa.now in
    let read = λ (i : ℕ). slice_index c.args.haystack.now (c.args.from + i) in
    let at = c.plain.at in
    let low = c.plain.invariant.low in
    let lt = c.plain-test.true in
    let place : at ≡ c.args.from + (at - c.args.from) = omega arith in
    let w = c.plain.invariant.way key held alive in
    way-out (g.A.Automaton.holds c.args.dfa.now c.plain.cache) (g.A.Automaton.holds c.args.dfa.now c.next_state.new.cache) d read key (at - c.args.from)
    (c.args.end - c.args.from) c.plain.here c.in-Ok.next (slice_index c.args.haystack.now at) (omega arith) (ap (slice_index c.args.haystack.now) place) w
    (c.in-Ok.ensures.next _ w.held) (c.in-Ok.ensures.readable _ w.held w.alive)

pub plain-preserved : goal.plain-preserved
plain-preserved g c =
    let d = g.A.Automaton.dfa c.args.dfa.now in
    let read = λ (i : ℕ). slice_index c.args.haystack.now (c.args.from + i) in
    let at = c.plain.at in
    let low = c.plain.invariant.low in
    let lt = c.plain-test.true in
    let some = c.plain.invariant.some in
    let place : at ≡ c.args.from + (at - c.args.from) = omega arith in
    record {
      low = omega arith;
      high = omega arith;
      some = (_, c.in-Ok.ensures.next some.0 some.1);
      way = λ key held alive.
          let w = c.plain.invariant.way key held alive in
          let there = c.in-Ok.ensures.next _ w.held in
          way-more (g.A.Automaton.holds c.args.dfa.now c.plain.cache) (g.A.Automaton.holds c.args.dfa.now c.next_state.new.cache) d read key
          (at - c.args.from) _ c.plain.here c.in-Ok.next (slice_index c.args.haystack.now at) (omega arith) (ap (slice_index c.args.haystack.now) place) w
          there (c.is_special.ensures.live _ there c.if-is_special.false) (c.is_special.ensures.no_match _ there c.if-is_special.false)
          (c.in-Ok.ensures.readable _ w.held w.alive);
      fits = c.in-Ok.ensures.fits;
    }

pub returns-clause-passed : goal.returns-clause-passed
returns-clause-passed g c = λ key held alive.
    let low = c.plain.invariant.low in
    let high = c.plain.invariant.high in
    way-end (g.A.Automaton.holds c.args.dfa.now c.plain.cache) (g.A.Automaton.dfa c.args.dfa.now)
    (λ i. slice_index c.args.haystack.now (c.args.from + i)) key (c.plain.at - c.args.from) (c.args.end - c.args.from) c.plain.here (omega arith)
    (c.plain.invariant.way key held alive)

pub bounds-haystack-at : goal.bounds-haystack-at
bounds-haystack-at g c = omega (arith, c.requires.within, c.plain-test.true)

pub next_state-requires-clause-fits : goal.next_state-requires-clause-fits
next_state-requires-clause-fits g c = c.plain.invariant.fits

pub next_state-requires-clause-held : goal.next_state-requires-clause-held
next_state-requires-clause-held g c = c.plain.invariant.some

pub returns-in-Err-clause-passed : goal.returns-in-Err-clause-passed
returns-in-Err-clause-passed g c = λ key held alive. tt

pub returns-in-Err-clause-between : goal.returns-in-Err-clause-between
returns-in-Err-clause-between g c = tt

pub returns-in-Err-clause-fits : goal.returns-in-Err-clause-fits
returns-in-Err-clause-fits g c = c.in-Err.ensures.fits

pub returns-then-is_special-clause-between : goal.returns-then-is_special-clause-between
returns-then-is_special-clause-between g c = (c.plain.invariant.low, c.plain.invariant.high)

pub returns-then-is_special-clause-err : goal.returns-then-is_special-clause-err
returns-then-is_special-clause-err g c = λ v hay low high. tt

pub returns-then-is_special-clause-fits : goal.returns-then-is_special-clause-fits
returns-then-is_special-clause-fits g c = c.in-Ok.ensures.fits

pub plain-smaller : goal.plain-smaller
plain-smaller g c = omega (arith, c.plain-test.true)

pub returns-clause-between : goal.returns-clause-between
returns-clause-between g c = (c.plain.invariant.low, c.plain.invariant.high)

pub returns-clause-err : goal.returns-clause-err
returns-clause-err g c = λ v hay low high. tt

pub returns-clause-fits : goal.returns-clause-fits
returns-clause-fits g c = c.plain.invariant.fits
