use Rattle.std.proofs.Common.{◌≡◌, ◌-◌, ◌<◌, length, refl, sym, ◌∙◌, ap, subst, arith}
use Rattle.std.specs.Prelude.{◌&&◌, Some, is_some, slice_get, slice_index}
use Rattle.std.proofs.lemmas.List.Elements.{All-from_get_or}
use Rattle.std.proofs.lemmas.Option.{slice_get-get_or}
use Rattle.rx_model.specs.Look.{byte_before, byte_after}
use Rattle.rx_model.specs.Search.{is_permitted}
use Rattle.rx_determinize.specs.Sight.{AreBytes}
use Rattle.rx_dfa.specs.Automaton.{IsReadable, next_key, first_key}
use Rattle.rx_dfa.specs.Course.{placed, end_of}
use Rattle.rx_dfa.proofs.lemmas.ForwardLemmas.{key_ahead, start-fails, step-fails, before-there}
use Rattle.rx_limited.specs.Parts.{best_within}
use Rattle.rx_limited.specs.Retry.{JustFails}
use Rattle.rx_limited.specs.Stopat.{IsStop}
use Rattle.rx_limited.proofs.lemmas.RetryLemmas.{just-fails, step-starts}
use Rattle.rx_limited.proofs.lemmas.AheadLemmas.{GoesAhead, goes-first, goes-on, goes-over, goes-early, goes-end, goes-left, stop-none}
use Rattle.rx_limited.proofs.stopat.go_ahead.Goals as goal

pub returns-in-Err-clause-err : goal.returns-in-Err-clause-err
returns-in-Err-clause-err g c =
    let d = g.A.Automaton.dfa c.args.dfa.now in
    let v = c.args.input.now in
    let order = c.requires.in_order in
    let gives_up = g.A.Automaton.gives_up c.args.dfa.now c.start_forward.new.cache in
    let wants = g.A.Automaton.wants c.args.dfa.now in
    subst (JustFails d.nfa v gives_up wants) (sym c.retry_of.ensures)
    (just-fails d.nfa v gives_up wants c.in-Err.error
    (start-fails d.nfa v (byte_before v.haystack v.start) (v.start - 1) v.start gives_up wants c.in-Err.error (omega arith) (omega arith)
    (omega arith) (omega arith) (before-there v.haystack v.start) c.in-Err.ensures.err))

pub returns-then-is_dead-clause-stopped : goal.returns-then-is_dead-clause-stopped
returns-then-is_dead-clause-stopped g c =
    let d = g.A.Automaton.dfa c.args.dfa.now in
    let v = c.args.input.now in
    let spanned = c.haystack-haystack.ensures.spanned.end in
    stop-none d v c.requires.in_order spanned
    (sym (c.is_dead.ensures (first_key d v.anchor (byte_before v.haystack v.start)) c.in-Ok.ensures.start) ∙ c.if-is_dead.true)
    c.args.steps.now c.args.steps.now c.start-at.result c.start-at.ensures.value refl

pub bytes-init : goal.bytes-init
bytes-init g c =
    let d = g.A.Automaton.dfa c.args.dfa.now in
    let v = c.args.input.now in
    let order = c.requires.in_order in
    let hay = c.haystack-haystack.ensures.value in
    let spanned = c.haystack-haystack.ensures.spanned.end in
    let opening = first_key d v.anchor (byte_before v.haystack v.start) in
    let bytes : AreBytes v.haystack =
    subst AreBytes hay (All-from_get_or (λ b. b < 256) c.haystack-haystack.result.now 0 (λ i lt. let fits = (c.type_inv.haystack i).fits in omega arith)) in
    let start_is = c.start-at.ensures.value in
    record {
      low = omega arith;
      high = omega arith;
      going = goes-first d c.is_utf8-utf8.ensures.sound c.requires.forward v order spanned bytes
          (g.A.Automaton.holds c.args.dfa.now c.start_forward.new.cache) (g.A.Automaton.holds c.args.dfa.now c.start_forward.new.cache)
          c.in-Ok.state c.start-at.result start_is c.in-Ok.ensures.start c.in-Ok.ensures.readable
          (sym (c.is_dead.ensures opening c.in-Ok.ensures.start) ∙ c.if-is_dead.false);
      steps = omega arith;
      bytes = bytes;
      fits = c.in-Ok.ensures.fits;
    }

pub returns-in-Err-next_state-clause-err : goal.returns-in-Err-next_state-clause-err
returns-in-Err-next_state-clause-err g c =
    let d = g.A.Automaton.dfa c.args.dfa.now in
    let v = c.args.input.now in
    let hay = c.haystack-haystack.ensures.value in
    let spanned = c.haystack-haystack.ensures.spanned.end in
    let at = c.bytes.at in
    let byte = slice_index c.haystack-haystack.result.now at in
    let byte_is : byte ≡ slice_index v.haystack at = ap (λ t. slice_index t at) hay in
    let low = c.bytes.invariant.low in
    let last : v.end ≡ c.end-end.result = sym c.end-end.ensures.value in
    let lt : at < v.end = omega arith in
    let gives_up = g.A.Automaton.gives_up c.args.dfa.now c.next_state.new.cache in
    let wants = g.A.Automaton.wants c.args.dfa.now in
    subst (JustFails d.nfa v gives_up wants) (sym c.retry_of_step.ensures)
    (just-fails d.nfa v gives_up wants _
    (step-fails d.nfa v at at byte gives_up wants c.in-Err-next_state.error (omega arith) (omega arith) (omega arith) (omega arith)
    (slice_get-get_or v.haystack at 0 (omega arith) ∙ ap Some (sym byte_is)) c.in-Err-next_state.ensures.err))

pub is_special-requires : goal.is_special-requires
is_special-requires g c =
    let d = g.A.Automaton.dfa c.args.dfa.now in
    let byte = slice_index c.haystack-haystack.result.now c.bytes.at in
    let key = key_ahead d c.args.input.now c.bytes.at in
    (next_key d key byte, c.in-Ok-next_state.ensures.next key c.bytes.invariant.going.held)

pub bytes-preserved-then-not-is_special : goal.bytes-preserved-then-not-is_special
bytes-preserved-then-not-is_special g c =
    let d = g.A.Automaton.dfa c.args.dfa.now in
    let v = c.args.input.now in
    let hay = c.haystack-haystack.ensures.value in
    let spanned = c.haystack-haystack.ensures.spanned.end in
    let bytes = c.bytes.invariant.bytes in
    let at = c.bytes.at in
    let byte = slice_index c.haystack-haystack.result.now at in
    let byte_is : byte ≡ slice_index v.haystack at = ap (λ t. slice_index t at) hay in
    let key = key_ahead d v at in
    let going = c.bytes.invariant.going in
    let held = c.in-Ok-next_state.ensures.next key going.held in
    let readable = c.in-Ok-next_state.ensures.readable key going.held going.going.alive in
    let last : v.end ≡ c.end-end.result = sym c.end-end.ensures.value in
    let lt : at < v.end = omega arith in
    let nothing = c.is_special.ensures.no_match (next_key d key byte) held c.if-not-is_special.true in
    let low = c.bytes.invariant.low in
    let taken = c.bytes.invariant.steps in
    let ticks = c.next_state.ensures.ticks in
    record {
      low = omega arith;
      high = omega arith;
      going = goes-on d c.is_utf8-utf8.ensures.sound c.requires.forward v c.requires.in_order spanned bytes
          (g.A.Automaton.holds c.args.dfa.now c.bytes.cache) (g.A.Automaton.holds c.args.dfa.now c.next_state.new.cache)
          at c.bytes.state c.in-Ok-next_state.next byte c.bytes.best c.bytes.best low lt byte_is going held readable
          (c.is_special.ensures.live (next_key d key byte) held c.if-not-is_special.true)
          (sym (ap (λ ms. best_within (is_permitted d.nfa.utf8 v.haystack) ms at c.bytes.best) nothing));
      steps = omega arith;
      bytes = bytes;
      fits = c.in-Ok-next_state.ensures.fits;
    }

pub record-best-requires : goal.record-best-requires
record-best-requires g c =
    let d = g.A.Automaton.dfa c.args.dfa.now in
    let byte = slice_index c.haystack-haystack.result.now c.bytes.at in
    let key = key_ahead d c.args.input.now c.bytes.at in
    (next_key d key byte, c.in-Ok-next_state.ensures.next key c.bytes.invariant.going.held)

pub is_dead-requires-in-bytes : goal.is_dead-requires-in-bytes
is_dead-requires-in-bytes g c =
    let d = g.A.Automaton.dfa c.args.dfa.now in
    let byte = slice_index c.haystack-haystack.result.now c.bytes.at in
    let key = key_ahead d c.args.input.now c.bytes.at in
    (next_key d key byte, c.in-Ok-next_state.ensures.next key c.bytes.invariant.going.held)

pub returns-then-is_dead-2-clause-stopped : goal.returns-then-is_dead-2-clause-stopped
returns-then-is_dead-2-clause-stopped g c =
    let d = g.A.Automaton.dfa c.args.dfa.now in
    let v = c.args.input.now in
    let hay = c.haystack-haystack.ensures.value in
    let spanned = c.haystack-haystack.ensures.spanned.end in
    let bytes = c.bytes.invariant.bytes in
    let at = c.bytes.at in
    let byte = slice_index c.haystack-haystack.result.now at in
    let byte_is : byte ≡ slice_index v.haystack at = ap (λ t. slice_index t at) hay in
    let key = key_ahead d v at in
    let going = c.bytes.invariant.going in
    let held = c.in-Ok-next_state.ensures.next key going.held in
    let readable = c.in-Ok-next_state.ensures.readable key going.held going.going.alive in
    let last : v.end ≡ c.end-end.result = sym c.end-end.ensures.value in
    let lt : at < v.end = omega arith in
    let low = c.bytes.invariant.low in
    let taken = c.bytes.invariant.steps in
    let ticks = c.next_state.ensures.ticks in
    let may : is_permitted d.nfa.utf8 v.haystack at ≡ c.is_permitted_at-may.result =
    sym (c.is_permitted_at-may.ensures ∙ (λ j. is_permitted (c.is_utf8-utf8.ensures.value j) (hay j) at)) in
    let met = c.record-best.ensures (next_key d key byte) held (is_permitted d.nfa.utf8 v.haystack) may in
    goes-over d c.is_utf8-utf8.ensures.sound c.requires.forward v c.requires.in_order spanned bytes
    (g.A.Automaton.holds c.args.dfa.now c.bytes.cache) (g.A.Automaton.holds c.args.dfa.now c.next_state.new.cache)
    c.args.steps.now c.next_state.new.steps at c.bytes.state byte c.bytes.best c.record-best.result low lt byte_is going readable
    (sym (c.is_dead-in-bytes.ensures (next_key d key byte) held) ∙ c.if-is_dead-2.true) met (omega arith)

pub returns-then-is_enough-clause-stopped : goal.returns-then-is_enough-clause-stopped
returns-then-is_enough-clause-stopped g c =
    let d = g.A.Automaton.dfa c.args.dfa.now in
    let v = c.args.input.now in
    let hay = c.haystack-haystack.ensures.value in
    let spanned = c.haystack-haystack.ensures.spanned.end in
    let bytes = c.bytes.invariant.bytes in
    let at = c.bytes.at in
    let byte = slice_index c.haystack-haystack.result.now at in
    let byte_is : byte ≡ slice_index v.haystack at = ap (λ t. slice_index t at) hay in
    let key = key_ahead d v at in
    let going = c.bytes.invariant.going in
    let held = c.in-Ok-next_state.ensures.next key going.held in
    let readable = c.in-Ok-next_state.ensures.readable key going.held going.going.alive in
    let last : v.end ≡ c.end-end.result = sym c.end-end.ensures.value in
    let lt : at < v.end = omega arith in
    let low = c.bytes.invariant.low in
    let taken = c.bytes.invariant.steps in
    let ticks = c.next_state.ensures.ticks in
    let may : is_permitted d.nfa.utf8 v.haystack at ≡ c.is_permitted_at-may.result =
    sym (c.is_permitted_at-may.ensures ∙ (λ j. is_permitted (c.is_utf8-utf8.ensures.value j) (hay j) at)) in
    let met = c.record-best.ensures (next_key d key byte) held (is_permitted d.nfa.utf8 v.haystack) may in
    goes-early d c.is_utf8-utf8.ensures.sound c.requires.forward v c.requires.in_order spanned bytes
    (g.A.Automaton.holds c.args.dfa.now c.bytes.cache) (g.A.Automaton.holds c.args.dfa.now c.next_state.new.cache)
    c.args.steps.now c.next_state.new.steps at c.bytes.state byte c.bytes.best c.record-best.result low lt byte_is going readable met
    (ap (λ e. e && is_some c.record-best.result) (sym c.get_earliest.ensures) ∙ sym c.is_enough.ensures ∙ c.if-is_enough.true)

pub bytes-preserved : goal.bytes-preserved
bytes-preserved g c =
    let d = g.A.Automaton.dfa c.args.dfa.now in
    let v = c.args.input.now in
    let hay = c.haystack-haystack.ensures.value in
    let spanned = c.haystack-haystack.ensures.spanned.end in
    let bytes = c.bytes.invariant.bytes in
    let at = c.bytes.at in
    let byte = slice_index c.haystack-haystack.result.now at in
    let byte_is : byte ≡ slice_index v.haystack at = ap (λ t. slice_index t at) hay in
    let key = key_ahead d v at in
    let going = c.bytes.invariant.going in
    let held = c.in-Ok-next_state.ensures.next key going.held in
    let readable = c.in-Ok-next_state.ensures.readable key going.held going.going.alive in
    let last : v.end ≡ c.end-end.result = sym c.end-end.ensures.value in
    let lt : at < v.end = omega arith in
    let low = c.bytes.invariant.low in
    let taken = c.bytes.invariant.steps in
    let ticks = c.next_state.ensures.ticks in
    let may : is_permitted d.nfa.utf8 v.haystack at ≡ c.is_permitted_at-may.result =
    sym (c.is_permitted_at-may.ensures ∙ (λ j. is_permitted (c.is_utf8-utf8.ensures.value j) (hay j) at)) in
    let met = c.record-best.ensures (next_key d key byte) held (is_permitted d.nfa.utf8 v.haystack) may in
    record {
      low = omega arith;
      high = omega arith;
      going = goes-on d c.is_utf8-utf8.ensures.sound c.requires.forward v c.requires.in_order spanned bytes
          (g.A.Automaton.holds c.args.dfa.now c.bytes.cache) (g.A.Automaton.holds c.args.dfa.now c.next_state.new.cache)
          at c.bytes.state c.in-Ok-next_state.next byte c.bytes.best c.record-best.result low lt byte_is going held readable
          (sym (c.is_dead-in-bytes.ensures (next_key d key byte) held) ∙ c.if-is_dead-2.false) met;
      steps = omega arith;
      bytes = bytes;
      fits = c.in-Ok-next_state.ensures.fits;
    }

pub last_state-requires-clause-held : goal.last_state-requires-clause-held
last_state-requires-clause-held g c = (key_ahead (g.A.Automaton.dfa c.args.dfa.now) c.args.input.now c.bytes.at, c.bytes.invariant.going.held)

pub returns-in-Err-last_state-clause-err : goal.returns-in-Err-last_state-clause-err
returns-in-Err-last_state-clause-err g c =
    let d = g.A.Automaton.dfa c.args.dfa.now in
    let v = c.args.input.now in
    let hay = c.haystack-haystack.ensures.value in
    let end = c.end-end.result in
    let order = c.requires.in_order in
    let last : end ≡ v.end = c.end-end.ensures.value in
    let got : c.byte_after-byte.result ≡ slice_get v.haystack end = c.byte_after-byte.ensures ∙ ap (λ t. slice_get t end) hay in
    let gives_up = g.A.Automaton.gives_up c.args.dfa.now c.last_state.new.cache in
    let wants = g.A.Automaton.wants c.args.dfa.now in
    subst (JustFails d.nfa v gives_up wants) (sym c.retry_of_step-in-Err-last_state.ensures)
    (just-fails d.nfa v gives_up wants (placed end end c.in-Err-last_state.error)
    (start-fails d.nfa v c.byte_after-byte.result end end gives_up wants (placed end end c.in-Err-last_state.error) (omega arith) (omega arith) (omega arith)
    (omega arith) (λ b is. sym got ∙ is)
    (step-starts d.nfa c.byte_after-byte.result end end gives_up wants c.in-Err-last_state.error c.in-Err-last_state.ensures.err)))

pub record-found-requires : goal.record-found-requires
record-found-requires g c =
    let last = c.in-Ok-last_state.ensures.last (key_ahead (g.A.Automaton.dfa c.args.dfa.now) c.args.input.now c.bytes.at) c.bytes.invariant.going.held in
    (last.0, last.1)

pub returns-clause-stopped : goal.returns-clause-stopped
returns-clause-stopped g c =
    let d = g.A.Automaton.dfa c.args.dfa.now in
    let v = c.args.input.now in
    let hay = c.haystack-haystack.ensures.value in
    let spanned = c.haystack-haystack.ensures.spanned.end in
    let bytes = c.bytes.invariant.bytes in
    let at_end : c.bytes.at ≡ v.end = (let high = c.bytes.invariant.high in let last = c.end-end.ensures.value in omega arith) in
    let end_is : c.end-end.result ≡ v.end = c.end-end.ensures.value in
    let going : GoesAhead (g.A.Automaton.holds c.args.dfa.now c.bytes.cache) d v v.end c.bytes.state c.bytes.best =
    subst (λ i. GoesAhead (g.A.Automaton.holds c.args.dfa.now c.bytes.cache) d v i c.bytes.state c.bytes.best) at_end c.bytes.invariant.going in
    let key = key_ahead d v v.end in
    let last = c.in-Ok-last_state.ensures.last key going.held in
    let got : c.byte_after-byte.result ≡ byte_after v.haystack v.end = c.byte_after-byte.ensures ∙ (λ j. slice_get (hay j) (end_is j)) in
    let may : is_permitted d.nfa.utf8 v.haystack c.end-end.result ≡ c.is_permitted_at-may_end.result =
    sym (c.is_permitted_at-may_end.ensures ∙ (λ j. is_permitted (c.is_utf8-utf8.ensures.value j) (hay j) c.end-end.result)) in
    let met = c.record-found.ensures last.0 last.1 (is_permitted d.nfa.utf8 v.haystack) may in
    let taken = c.bytes.invariant.steps in
    let ticks = c.last_state.ensures.ticks in
    subst (IsStop d v c.args.steps.now c.last_state.new.steps c.record-found.result) (sym end_is)
    (goes-end d c.is_utf8-utf8.ensures.sound c.requires.forward v c.requires.in_order spanned bytes
    (g.A.Automaton.holds c.args.dfa.now c.bytes.cache) (g.A.Automaton.holds c.args.dfa.now c.bytes.cache)
    c.args.steps.now c.last_state.new.steps c.bytes.state c.bytes.best c.record-found.result last.0 going
    (subst (IsReadable d.nfa) got (c.in-Ok-last_state.ensures.readable key going.held going.going.alive))
    (last.2 ∙ ap (λ o. (end_of d key o).matches) got)
    (met ∙ ap (λ p. best_within (is_permitted d.nfa.utf8 v.haystack) last.0.matches p c.bytes.best) end_is) (omega arith))

pub returns-in-Err-next_state-clause-most : goal.returns-in-Err-next_state-clause-most
returns-in-Err-next_state-clause-most g c =
    let d = g.A.Automaton.dfa c.args.dfa.now in
    let v = c.args.input.now in
    let spanned = c.haystack-haystack.ensures.spanned.end in
    let taken = c.bytes.invariant.steps in
    let ticks = c.next_state.ensures.ticks in
    let left = goes-left d c.is_utf8-utf8.ensures.sound c.requires.forward v c.requires.in_order spanned c.bytes.invariant.bytes
    (g.A.Automaton.holds c.args.dfa.now c.bytes.cache) (g.A.Automaton.holds c.args.dfa.now c.bytes.cache)
    c.bytes.at c.bytes.state c.bytes.best c.bytes.invariant.going in
    omega (arith, taken, ticks, left)

pub returns-then-is_dead-2-clause-most : goal.returns-then-is_dead-2-clause-most
returns-then-is_dead-2-clause-most g c =
    let d = g.A.Automaton.dfa c.args.dfa.now in
    let v = c.args.input.now in
    let spanned = c.haystack-haystack.ensures.spanned.end in
    let taken = c.bytes.invariant.steps in
    let ticks = c.next_state.ensures.ticks in
    let left = goes-left d c.is_utf8-utf8.ensures.sound c.requires.forward v c.requires.in_order spanned c.bytes.invariant.bytes
    (g.A.Automaton.holds c.args.dfa.now c.bytes.cache) (g.A.Automaton.holds c.args.dfa.now c.bytes.cache)
    c.bytes.at c.bytes.state c.bytes.best c.bytes.invariant.going in
    omega (arith, taken, ticks, left)

pub returns-then-is_enough-clause-most : goal.returns-then-is_enough-clause-most
returns-then-is_enough-clause-most g c =
    let d = g.A.Automaton.dfa c.args.dfa.now in
    let v = c.args.input.now in
    let spanned = c.haystack-haystack.ensures.spanned.end in
    let taken = c.bytes.invariant.steps in
    let ticks = c.next_state.ensures.ticks in
    let left = goes-left d c.is_utf8-utf8.ensures.sound c.requires.forward v c.requires.in_order spanned c.bytes.invariant.bytes
    (g.A.Automaton.holds c.args.dfa.now c.bytes.cache) (g.A.Automaton.holds c.args.dfa.now c.bytes.cache)
    c.bytes.at c.bytes.state c.bytes.best c.bytes.invariant.going in
    omega (arith, taken, ticks, left)

pub returns-in-Err-last_state-clause-most : goal.returns-in-Err-last_state-clause-most
returns-in-Err-last_state-clause-most g c =
    let d = g.A.Automaton.dfa c.args.dfa.now in
    let v = c.args.input.now in
    let spanned = c.haystack-haystack.ensures.spanned.end in
    let taken = c.bytes.invariant.steps in
    let ticks = c.last_state.ensures.ticks in
    let left = goes-left d c.is_utf8-utf8.ensures.sound c.requires.forward v c.requires.in_order spanned c.bytes.invariant.bytes
    (g.A.Automaton.holds c.args.dfa.now c.bytes.cache) (g.A.Automaton.holds c.args.dfa.now c.bytes.cache)
    c.bytes.at c.bytes.state c.bytes.best c.bytes.invariant.going in
    omega (arith, taken, ticks, left)

pub returns-clause-most : goal.returns-clause-most
returns-clause-most g c =
    let d = g.A.Automaton.dfa c.args.dfa.now in
    let v = c.args.input.now in
    let spanned = c.haystack-haystack.ensures.spanned.end in
    let taken = c.bytes.invariant.steps in
    let ticks = c.last_state.ensures.ticks in
    let left = goes-left d c.is_utf8-utf8.ensures.sound c.requires.forward v c.requires.in_order spanned c.bytes.invariant.bytes
    (g.A.Automaton.holds c.args.dfa.now c.bytes.cache) (g.A.Automaton.holds c.args.dfa.now c.bytes.cache)
    c.bytes.at c.bytes.state c.bytes.best c.bytes.invariant.going in
    omega (arith, taken, ticks, left)

pub bounds-haystack-at : goal.bounds-haystack-at
bounds-haystack-at g c =
    let len = ap length c.haystack-haystack.ensures.value in
    let last = c.end-end.ensures.value in
    let spanned = c.haystack-haystack.ensures.spanned.end in
    omega arith

pub is_permitted_at-may-requires : goal.is_permitted_at-may-requires
is_permitted_at-may-requires g c =
    let len = ap length c.haystack-haystack.ensures.value in
    let last = c.end-end.ensures.value in
    let spanned = c.haystack-haystack.ensures.spanned.end in
    let high = c.bytes.invariant.high in
    omega arith

pub is_permitted_at-may_end-requires : goal.is_permitted_at-may_end-requires
is_permitted_at-may_end-requires g c =
    let len = ap length c.haystack-haystack.ensures.value in
    let last = c.end-end.ensures.value in
    let spanned = c.haystack-haystack.ensures.spanned.end in
    omega arith

pub byte_after-byte-requires : goal.byte_after-byte-requires
byte_after-byte-requires g c = tt

pub end-end-requires : goal.end-end-requires
end-end-requires g c = tt

pub get_earliest-requires : goal.get_earliest-requires
get_earliest-requires g c = tt

pub haystack-haystack-requires : goal.haystack-haystack-requires
haystack-haystack-requires g c = tt

pub is_enough-requires : goal.is_enough-requires
is_enough-requires g c = tt

pub retry_of-requires : goal.retry_of-requires
retry_of-requires g c = tt

pub retry_of_step-requires : goal.retry_of_step-requires
retry_of_step-requires g c = tt

pub start-at-requires : goal.start-at-requires
start-at-requires g c = tt

pub retry_of_step-requires-in-Err-last_state : goal.retry_of_step-requires-in-Err-last_state
retry_of_step-requires-in-Err-last_state g c = tt

pub bytes-smaller : goal.bytes-smaller
bytes-smaller g c =
    let last = c.end-end.ensures.value in
    let less = c.bytes-test.true in
    omega arith

pub bytes-smaller-then-not-is_special : goal.bytes-smaller-then-not-is_special
bytes-smaller-then-not-is_special g c =
    let last = c.end-end.ensures.value in
    let less = c.bytes-test.true in
    omega arith

pub is_dead-requires : goal.is_dead-requires
is_dead-requires g c =
    let v = c.args.input.now in
    (first_key (g.A.Automaton.dfa c.args.dfa.now) v.anchor (byte_before v.haystack v.start), c.in-Ok.ensures.start)

pub last_state-requires-clause-fits : goal.last_state-requires-clause-fits
last_state-requires-clause-fits g c = c.bytes.invariant.fits

pub next_state-requires-clause-fits : goal.next_state-requires-clause-fits
next_state-requires-clause-fits g c = c.bytes.invariant.fits

pub next_state-requires-clause-held : goal.next_state-requires-clause-held
next_state-requires-clause-held g c = (key_ahead (g.A.Automaton.dfa c.args.dfa.now) c.args.input.now c.bytes.at, c.bytes.invariant.going.held)

pub start_forward-requires : goal.start_forward-requires
start_forward-requires g c = c.requires.fits

pub returns-clause-err : goal.returns-clause-err
returns-clause-err g c = tt

pub returns-then-is_dead-clause-err : goal.returns-then-is_dead-clause-err
returns-then-is_dead-clause-err g c = tt

pub returns-then-is_dead-2-clause-err : goal.returns-then-is_dead-2-clause-err
returns-then-is_dead-2-clause-err g c = tt

pub returns-then-is_enough-clause-err : goal.returns-then-is_enough-clause-err
returns-then-is_enough-clause-err g c = tt

pub returns-in-Err-clause-stopped : goal.returns-in-Err-clause-stopped
returns-in-Err-clause-stopped g c = tt

pub returns-in-Err-last_state-clause-stopped : goal.returns-in-Err-last_state-clause-stopped
returns-in-Err-last_state-clause-stopped g c = tt

pub returns-in-Err-next_state-clause-stopped : goal.returns-in-Err-next_state-clause-stopped
returns-in-Err-next_state-clause-stopped g c = tt

pub returns-clause-sound : goal.returns-clause-sound
returns-clause-sound g c = c.is_utf8-utf8.ensures.sound

pub returns-in-Err-clause-sound : goal.returns-in-Err-clause-sound
returns-in-Err-clause-sound g c = c.is_utf8-utf8.ensures.sound

pub returns-in-Err-last_state-clause-sound : goal.returns-in-Err-last_state-clause-sound
returns-in-Err-last_state-clause-sound g c = c.is_utf8-utf8.ensures.sound

pub returns-in-Err-next_state-clause-sound : goal.returns-in-Err-next_state-clause-sound
returns-in-Err-next_state-clause-sound g c = c.is_utf8-utf8.ensures.sound

pub returns-then-is_dead-clause-sound : goal.returns-then-is_dead-clause-sound
returns-then-is_dead-clause-sound g c = c.is_utf8-utf8.ensures.sound

pub returns-then-is_dead-2-clause-sound : goal.returns-then-is_dead-2-clause-sound
returns-then-is_dead-2-clause-sound g c = c.is_utf8-utf8.ensures.sound

pub returns-then-is_enough-clause-sound : goal.returns-then-is_enough-clause-sound
returns-then-is_enough-clause-sound g c = c.is_utf8-utf8.ensures.sound

pub returns-clause-fits : goal.returns-clause-fits
returns-clause-fits g c = c.in-Ok-last_state.ensures.fits

pub returns-in-Err-clause-fits : goal.returns-in-Err-clause-fits
returns-in-Err-clause-fits g c = c.in-Err.ensures.fits

pub returns-in-Err-last_state-clause-fits : goal.returns-in-Err-last_state-clause-fits
returns-in-Err-last_state-clause-fits g c = c.in-Err-last_state.ensures.fits

pub returns-in-Err-next_state-clause-fits : goal.returns-in-Err-next_state-clause-fits
returns-in-Err-next_state-clause-fits g c = c.in-Err-next_state.ensures.fits

pub returns-then-is_dead-clause-fits : goal.returns-then-is_dead-clause-fits
returns-then-is_dead-clause-fits g c = c.in-Ok.ensures.fits

pub returns-then-is_dead-2-clause-fits : goal.returns-then-is_dead-2-clause-fits
returns-then-is_dead-2-clause-fits g c = c.in-Ok-next_state.ensures.fits

pub returns-then-is_enough-clause-fits : goal.returns-then-is_enough-clause-fits
returns-then-is_enough-clause-fits g c = c.in-Ok-next_state.ensures.fits

pub returns-in-Err-clause-most : goal.returns-in-Err-clause-most
returns-in-Err-clause-most g c = omega arith

pub returns-then-is_dead-clause-most : goal.returns-then-is_dead-clause-most
returns-then-is_dead-clause-most g c = omega arith

pub overflow_add-at : goal.overflow_add-at
overflow_add-at g c =
    let less = c.bytes-test.true in
    let fits = c.end-end.type_inv in
    omega arith

pub overflow_add-at-in-bytes : goal.overflow_add-at-in-bytes
overflow_add-at-in-bytes g c =
    let less = c.bytes-test.true in
    let fits = c.end-end.type_inv in
    omega arith
