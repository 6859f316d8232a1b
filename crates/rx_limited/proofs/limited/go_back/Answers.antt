use Rattle.std.proofs.Common.{◌≡◌, ◌-◌, ◌<◌, length, sym, ◌∙◌, ap, subst, arith}
use Rattle.std.specs.Prelude.{Some, slice_index}
use Rattle.std.proofs.lemmas.List.Elements.{All-from_get_or}
use Rattle.std.proofs.lemmas.Option.{slice_get-get_or}
use Rattle.rx_model.specs.Look.{byte_after}
use Rattle.rx_model.specs.Search.{is_permitted}
use Rattle.rx_determinize.specs.Sight.{AreBytes}
use Rattle.rx_dfa.specs.Automaton.{next_key, first_key}
use Rattle.rx_dfa.proofs.lemmas.ForwardLemmas.{start-fails, step-fails}
use Rattle.rx_dfa.proofs.lemmas.BackwardLemmas.{key_behind}
use Rattle.rx_limited.specs.Back.{GoesBack}
use Rattle.rx_limited.specs.Parts.{best_within}
use Rattle.rx_limited.specs.Retry.{JustFails}
use Rattle.rx_limited.proofs.lemmas.RetryLemmas.{just-fails}
use Rattle.rx_limited.proofs.lemmas.MetLemmas.{nearer}
use Rattle.rx_limited.proofs.lemmas.BackLemmas.{goes-first, goes-on, goes-over, goes-left, over-none}
use Rattle.rx_limited.proofs.limited.go_back.Goals as goal

pub returns-in-Err-clause-err : goal.returns-in-Err-clause-err
returns-in-Err-clause-err g c =
    let d = g.A.Automaton.dfa c.args.dfa.now in
    let v = c.args.input.now in
    let low = c.requires.low in
    let high = c.requires.high in
    let gives_up = g.A.Automaton.gives_up c.args.dfa.now c.start_reverse.new.cache in
    let wants = g.A.Automaton.wants c.args.dfa.now in
    subst (JustFails d.nfa v gives_up wants) (sym c.retry_of.ensures)
    (just-fails d.nfa v gives_up wants c.in-Err.error
    (start-fails d.nfa v (byte_after v.haystack v.end) v.end v.end gives_up wants c.in-Err.error (omega arith) (omega arith) (omega arith) (omega arith)
    (λ b is. is) c.in-Err.ensures.err))

pub returns-then-is_dead-clause-scanned : goal.returns-then-is_dead-clause-scanned
returns-then-is_dead-clause-scanned g c =
    let d = g.A.Automaton.dfa c.args.dfa.now in
    let v = c.args.input.now in
    let low = c.requires.low in
    let high = c.requires.high in
    let spanned = c.haystack-haystack.ensures.spanned.end in
    let over = over-none d v (omega arith) spanned
    (sym (c.is_dead.ensures (first_key d v.anchor (byte_after v.haystack v.end)) c.in-Ok.ensures.start) ∙ c.if-is_dead.true) c.args.floor high in
    let none = over.2 in
    (over.0, over.1, omega (arith, none), tt)

pub bytes-init : goal.bytes-init
bytes-init g c =
    let d = g.A.Automaton.dfa c.args.dfa.now in
    let v = c.args.input.now in
    let low = c.requires.low in
    let high = c.requires.high in
    let hay = c.haystack-haystack.ensures.value in
    let spanned = c.haystack-haystack.ensures.spanned.end in
    let opening = first_key d v.anchor (byte_after v.haystack v.end) in
    let bytes : AreBytes v.haystack =
    subst AreBytes hay (All-from_get_or (λ b. b < 256) c.haystack-haystack.result.now 0 (λ i lt. let fits = (c.type_inv.haystack i).fits in omega arith)) in
    let end_is = c.end-at.ensures.value in
    record {
      low = omega arith;
      high = omega arith;
      going = goes-first d c.is_utf8-utf8.ensures.sound c.requires.reverse v bytes (omega arith) spanned
          (g.A.Automaton.holds c.args.dfa.now c.start_reverse.new.cache) (g.A.Automaton.holds c.args.dfa.now c.start_reverse.new.cache)
          c.end-at.result c.in-Ok.state end_is c.in-Ok.ensures.start c.in-Ok.ensures.readable
          (sym (c.is_dead.ensures opening c.in-Ok.ensures.start) ∙ c.if-is_dead.false);
      steps = omega arith;
      bytes = bytes;
      fits = c.in-Ok.ensures.fits;
    }

pub returns-in-Err-next_state-clause-err : goal.returns-in-Err-next_state-clause-err
returns-in-Err-next_state-clause-err g c =
    let d = g.A.Automaton.dfa c.args.dfa.now in
    let v = c.args.input.now in
    let at = c.bytes.at in
    let hay = c.haystack-haystack.ensures.value in
    let byte = slice_index c.haystack-haystack.result.now (at - 1) in
    let byte_is : byte ≡ slice_index v.haystack (at - 1) = ap (λ t. slice_index t (at - 1)) hay in
    let first = c.requires.low in
    let spanned = c.haystack-haystack.ensures.spanned.end in
    let high = c.bytes.invariant.high in
    let lt = c.bytes-test.true in
    let gives_up = g.A.Automaton.gives_up c.args.dfa.now c.next_state.new.cache in
    let wants = g.A.Automaton.wants c.args.dfa.now in
    subst (JustFails d.nfa v gives_up wants) (sym c.retry_of_step.ensures)
    (just-fails d.nfa v gives_up wants _
    (step-fails d.nfa v (at - 1) at byte gives_up wants c.in-Err-next_state.error (omega arith) (omega arith) (omega arith) (omega arith)
    (slice_get-get_or v.haystack (at - 1) 0 (omega arith) ∙ ap Some (sym byte_is)) c.in-Err-next_state.ensures.err))

pub is_special-requires : goal.is_special-requires
is_special-requires g c =
    let d = g.A.Automaton.dfa c.args.dfa.now in
    let v = c.args.input.now in
    let byte = slice_index c.haystack-haystack.result.now (c.bytes.at - 1) in
    let key = key_behind d v c.bytes.at in
    (next_key d key byte, c.in-Ok-next_state.ensures.next key c.bytes.invariant.going.held)

pub bytes-preserved-then-not-is_special : goal.bytes-preserved-then-not-is_special
bytes-preserved-then-not-is_special g c =
    let d = g.A.Automaton.dfa c.args.dfa.now in
    let v = c.args.input.now in
    let hay = c.haystack-haystack.ensures.value in
    let spanned = c.haystack-haystack.ensures.spanned.end in
    let bytes = c.bytes.invariant.bytes in
    let at = c.bytes.at in
    let byte = slice_index c.haystack-haystack.result.now (at - 1) in
    let byte_is : byte ≡ slice_index v.haystack (at - 1) = ap (λ t. slice_index t (at - 1)) hay in
    let key = key_behind d v at in
    let going = c.bytes.invariant.going in
    let held = c.in-Ok-next_state.ensures.next key going.held in
    let readable = c.in-Ok-next_state.ensures.readable key going.held going.going.going.alive in
    let nothing = c.is_special.ensures.no_match (next_key d key byte) held c.if-not-is_special.true in
    let first = c.requires.low in
    let floor_high = c.requires.high in
    let high = c.bytes.invariant.high in
    let lt = c.bytes-test.true in
    let taken = c.bytes.invariant.steps in
    let ticks = c.next_state.ensures.ticks in
    record {
      low = omega arith;
      high = omega arith;
      going = goes-on d c.is_utf8-utf8.ensures.sound c.requires.reverse v bytes (omega arith) spanned
          (g.A.Automaton.holds c.args.dfa.now c.bytes.cache) (g.A.Automaton.holds c.args.dfa.now c.next_state.new.cache)
          at c.bytes.state c.in-Ok-next_state.next byte c.bytes.best c.bytes.best (omega arith) high byte_is going held readable
          (c.is_special.ensures.live (next_key d key byte) held c.if-not-is_special.true)
          (sym (ap (λ ms. best_within (is_permitted d.nfa.utf8 v.haystack) ms at c.bytes.best) nothing));
      steps = omega arith;
      bytes = bytes;
      fits = c.in-Ok-next_state.ensures.fits;
    }

pub record-best-requires : goal.record-best-requires
record-best-requires g c =
    let d = g.A.Automaton.dfa c.args.dfa.now in
    let v = c.args.input.now in
    let byte = slice_index c.haystack-haystack.result.now (c.bytes.at - 1) in
    let key = key_behind d v c.bytes.at in
    (next_key d key byte, c.in-Ok-next_state.ensures.next key c.bytes.invariant.going.held)

pub is_dead-requires-in-bytes : goal.is_dead-requires-in-bytes
is_dead-requires-in-bytes g c =
    let d = g.A.Automaton.dfa c.args.dfa.now in
    let v = c.args.input.now in
    let byte = slice_index c.haystack-haystack.result.now (c.bytes.at - 1) in
    let key = key_behind d v c.bytes.at in
    (next_key d key byte, c.in-Ok-next_state.ensures.next key c.bytes.invariant.going.held)

pub returns-then-is_dead-2-clause-scanned : goal.returns-then-is_dead-2-clause-scanned
returns-then-is_dead-2-clause-scanned g c =
    let d = g.A.Automaton.dfa c.args.dfa.now in
    let v = c.args.input.now in
    let hay = c.haystack-haystack.ensures.value in
    let spanned = c.haystack-haystack.ensures.spanned.end in
    let bytes = c.bytes.invariant.bytes in
    let at = c.bytes.at in
    let byte = slice_index c.haystack-haystack.result.now (at - 1) in
    let byte_is : byte ≡ slice_index v.haystack (at - 1) = ap (λ t. slice_index t (at - 1)) hay in
    let key = key_behind d v at in
    let going = c.bytes.invariant.going in
    let held = c.in-Ok-next_state.ensures.next key going.held in
    let readable = c.in-Ok-next_state.ensures.readable key going.held going.going.going.alive in
    let first = c.requires.low in
    let floor_high = c.requires.high in
    let high = c.bytes.invariant.high in
    let lt = c.bytes-test.true in
    let taken = c.bytes.invariant.steps in
    let ticks = c.next_state.ensures.ticks in
    let may : is_permitted d.nfa.utf8 v.haystack at ≡ c.is_permitted_at-may.result =
    sym (c.is_permitted_at-may.ensures ∙ (λ j. is_permitted (c.is_utf8-utf8.ensures.value j) (hay j) at)) in
    let over = goes-over d c.is_utf8-utf8.ensures.sound c.requires.reverse v bytes (omega arith) spanned
    (g.A.Automaton.holds c.args.dfa.now c.bytes.cache) (g.A.Automaton.holds c.args.dfa.now c.next_state.new.cache)
    at c.bytes.state byte c.bytes.best c.record-best.result (omega arith) high byte_is going readable
    (sym (c.is_dead-in-bytes.ensures (next_key d key byte) held) ∙ c.if-is_dead-2.true)
    (c.record-best.ensures (next_key d key byte) held (is_permitted d.nfa.utf8 v.haystack) may) in
    let from = over.1 in
    let place = from.low in
    let all = over.2 in (
      over.0,
      record { place = from.place; low = omega arith; high = from.high; dead = from.dead },
      omega arith,
      nearer at c.args.floor (omega arith) c.record-best.result over.3,
    )

pub bytes-preserved : goal.bytes-preserved
bytes-preserved g c =
    let d = g.A.Automaton.dfa c.args.dfa.now in
    let v = c.args.input.now in
    let hay = c.haystack-haystack.ensures.value in
    let spanned = c.haystack-haystack.ensures.spanned.end in
    let bytes = c.bytes.invariant.bytes in
    let at = c.bytes.at in
    let byte = slice_index c.haystack-haystack.result.now (at - 1) in
    let byte_is : byte ≡ slice_index v.haystack (at - 1) = ap (λ t. slice_index t (at - 1)) hay in
    let key = key_behind d v at in
    let going = c.bytes.invariant.going in
    let held = c.in-Ok-next_state.ensures.next key going.held in
    let readable = c.in-Ok-next_state.ensures.readable key going.held going.going.going.alive in
    let first = c.requires.low in
    let floor_high = c.requires.high in
    let high = c.bytes.invariant.high in
    let lt = c.bytes-test.true in
    let taken = c.bytes.invariant.steps in
    let ticks = c.next_state.ensures.ticks in
    let may : is_permitted d.nfa.utf8 v.haystack at ≡ c.is_permitted_at-may.result =
    sym (c.is_permitted_at-may.ensures ∙ (λ j. is_permitted (c.is_utf8-utf8.ensures.value j) (hay j) at)) in
    record {
      low = omega arith;
      high = omega arith;
      going = goes-on d c.is_utf8-utf8.ensures.sound c.requires.reverse v bytes (omega arith) spanned
          (g.A.Automaton.holds c.args.dfa.now c.bytes.cache) (g.A.Automaton.holds c.args.dfa.now c.next_state.new.cache)
          at c.bytes.state c.in-Ok-next_state.next byte c.bytes.best c.record-best.result (omega arith) high byte_is going held readable
          (sym (c.is_dead-in-bytes.ensures (next_key d key byte) held) ∙ c.if-is_dead-2.false)
          (c.record-best.ensures (next_key d key byte) held (is_permitted d.nfa.utf8 v.haystack) may);
      steps = omega arith;
      bytes = bytes;
      fits = c.in-Ok-next_state.ensures.fits;
    }

pub returns-clause-scanned : goal.returns-clause-scanned
returns-clause-scanned g c =
    let d = g.A.Automaton.dfa c.args.dfa.now in
    let v = c.args.input.now in
    let same : c.bytes.at ≡ c.args.floor = (let low = c.bytes.invariant.low in let no = c.bytes-test.false in omega arith) in
    let taken = c.bytes.invariant.steps in (
      subst (λ i. GoesBack (g.A.Automaton.holds c.args.dfa.now c.bytes.cache) d v i c.bytes.state c.bytes.best) same c.bytes.invariant.going,
      omega arith,
    )

pub returns-in-Err-next_state-clause-most : goal.returns-in-Err-next_state-clause-most
returns-in-Err-next_state-clause-most g c =
    let d = g.A.Automaton.dfa c.args.dfa.now in
    let v = c.args.input.now in
    let low = c.requires.low in
    let high = c.requires.high in
    let spanned = c.haystack-haystack.ensures.spanned.end in
    let taken = c.bytes.invariant.steps in
    let ticks = c.next_state.ensures.ticks in
    let left = goes-left d v (omega arith) spanned (g.A.Automaton.holds c.args.dfa.now c.bytes.cache)
    c.bytes.at c.bytes.state c.bytes.best c.bytes.invariant.going in
    omega (arith, taken, ticks, left)

pub returns-then-is_dead-2-clause-most : goal.returns-then-is_dead-2-clause-most
returns-then-is_dead-2-clause-most g c =
    let d = g.A.Automaton.dfa c.args.dfa.now in
    let v = c.args.input.now in
    let low = c.requires.low in
    let high = c.requires.high in
    let spanned = c.haystack-haystack.ensures.spanned.end in
    let taken = c.bytes.invariant.steps in
    let ticks = c.next_state.ensures.ticks in
    let left = goes-left d v (omega arith) spanned (g.A.Automaton.holds c.args.dfa.now c.bytes.cache)
    c.bytes.at c.bytes.state c.bytes.best c.bytes.invariant.going in
    omega (arith, taken, ticks, left)

pub bounds-haystack-before : goal.bounds-haystack-before
bounds-haystack-before g c =
    let len = ap length c.haystack-haystack.ensures.value in
    let spanned = c.haystack-haystack.ensures.spanned.end in
    let high = c.bytes.invariant.high in
    let more = c.bytes-test.true in
    omega arith

pub is_permitted_at-may-requires : goal.is_permitted_at-may-requires
is_permitted_at-may-requires g c =
    let len = ap length c.haystack-haystack.ensures.value in
    let spanned = c.haystack-haystack.ensures.spanned.end in
    let high = c.bytes.invariant.high in
    let more = c.bytes-test.true in
    omega arith

pub end-at-requires : goal.end-at-requires
end-at-requires g c = tt

pub haystack-haystack-requires : goal.haystack-haystack-requires
haystack-haystack-requires g c = tt

pub retry_of-requires : goal.retry_of-requires
retry_of-requires g c = tt

pub retry_of_step-requires : goal.retry_of_step-requires
retry_of_step-requires g c = tt

pub bytes-smaller : goal.bytes-smaller
bytes-smaller g c =
    let more = c.bytes-test.true in
    omega arith

pub bytes-smaller-then-not-is_special : goal.bytes-smaller-then-not-is_special
bytes-smaller-then-not-is_special g c =
    let more = c.bytes-test.true in
    omega arith

pub overflow_sub-before : goal.overflow_sub-before
overflow_sub-before g c = omega (arith, c.bytes-test.true)

pub is_dead-requires : goal.is_dead-requires
is_dead-requires g c =
    let v = c.args.input.now in
    (first_key (g.A.Automaton.dfa c.args.dfa.now) v.anchor (byte_after v.haystack v.end), c.in-Ok.ensures.start)

pub next_state-requires-clause-fits : goal.next_state-requires-clause-fits
next_state-requires-clause-fits g c = c.bytes.invariant.fits

pub next_state-requires-clause-held : goal.next_state-requires-clause-held
next_state-requires-clause-held g c = (key_behind (g.A.Automaton.dfa c.args.dfa.now) c.args.input.now c.bytes.at, c.bytes.invariant.going.held)

pub start_reverse-requires : goal.start_reverse-requires
start_reverse-requires g c = c.requires.fits

pub returns-clause-err : goal.returns-clause-err
returns-clause-err g c = tt

pub returns-then-is_dead-clause-err : goal.returns-then-is_dead-clause-err
returns-then-is_dead-clause-err g c = tt

pub returns-then-is_dead-2-clause-err : goal.returns-then-is_dead-2-clause-err
returns-then-is_dead-2-clause-err g c = tt

pub returns-in-Err-clause-scanned : goal.returns-in-Err-clause-scanned
returns-in-Err-clause-scanned g c = tt

pub returns-in-Err-next_state-clause-scanned : goal.returns-in-Err-next_state-clause-scanned
returns-in-Err-next_state-clause-scanned g c = tt

pub returns-clause-fits : goal.returns-clause-fits
returns-clause-fits g c = c.bytes.invariant.fits

pub returns-clause-sound : goal.returns-clause-sound
returns-clause-sound g c = c.is_utf8-utf8.ensures.sound

pub returns-in-Err-clause-fits : goal.returns-in-Err-clause-fits
returns-in-Err-clause-fits g c = c.in-Err.ensures.fits

pub returns-in-Err-clause-sound : goal.returns-in-Err-clause-sound
returns-in-Err-clause-sound g c = c.is_utf8-utf8.ensures.sound

pub returns-in-Err-next_state-clause-fits : goal.returns-in-Err-next_state-clause-fits
returns-in-Err-next_state-clause-fits g c = c.in-Err-next_state.ensures.fits

pub returns-in-Err-next_state-clause-sound : goal.returns-in-Err-next_state-clause-sound
returns-in-Err-next_state-clause-sound g c = c.is_utf8-utf8.ensures.sound

pub returns-then-is_dead-clause-fits : goal.returns-then-is_dead-clause-fits
returns-then-is_dead-clause-fits g c = c.in-Ok.ensures.fits

pub returns-then-is_dead-clause-sound : goal.returns-then-is_dead-clause-sound
returns-then-is_dead-clause-sound g c = c.is_utf8-utf8.ensures.sound

pub returns-then-is_dead-2-clause-fits : goal.returns-then-is_dead-2-clause-fits
returns-then-is_dead-2-clause-fits g c = c.in-Ok-next_state.ensures.fits

pub returns-then-is_dead-2-clause-sound : goal.returns-then-is_dead-2-clause-sound
returns-then-is_dead-2-clause-sound g c = c.is_utf8-utf8.ensures.sound

pub returns-in-Err-clause-few : goal.returns-in-Err-clause-few
returns-in-Err-clause-few g c = omega arith

pub returns-in-Err-clause-most : goal.returns-in-Err-clause-most
returns-in-Err-clause-most g c = omega arith

pub returns-then-is_dead-clause-few : goal.returns-then-is_dead-clause-few
returns-then-is_dead-clause-few g c = omega arith

pub returns-then-is_dead-clause-most : goal.returns-then-is_dead-clause-most
returns-then-is_dead-clause-most g c = omega arith

pub returns-clause-few : goal.returns-clause-few
returns-clause-few g c =
    let taken = c.bytes.invariant.steps in
    let low = c.bytes.invariant.low in
    omega arith

pub returns-in-Err-next_state-clause-few : goal.returns-in-Err-next_state-clause-few
returns-in-Err-next_state-clause-few g c =
    let taken = c.bytes.invariant.steps in
    let ticks = c.next_state.ensures.ticks in
    let more = c.bytes-test.true in
    let high = c.bytes.invariant.high in
    omega arith

pub returns-then-is_dead-2-clause-few : goal.returns-then-is_dead-2-clause-few
returns-then-is_dead-2-clause-few g c =
    let taken = c.bytes.invariant.steps in
    let ticks = c.next_state.ensures.ticks in
    let more = c.bytes-test.true in
    let high = c.bytes.invariant.high in
    omega arith

pub returns-clause-most : goal.returns-clause-most
returns-clause-most g c =
    let d = g.A.Automaton.dfa c.args.dfa.now in
    let v = c.args.input.now in
    let low = c.requires.low in
    let high = c.requires.high in
    let spanned = c.haystack-haystack.ensures.spanned.end in
    let taken = c.bytes.invariant.steps in
    let left = goes-left d v (omega arith) spanned (g.A.Automaton.holds c.args.dfa.now c.bytes.cache)
    c.bytes.at c.bytes.state c.bytes.best c.bytes.invariant.going in
    omega (arith, taken, left)
