use Rattle.std.proofs.Common.{◌≡◌, ◌-◌, ◌<◌, length, refl, sym, ◌∙◌, ap, subst, arith}
use Rattle.std.specs.Prelude.{◌&&◌, is_some, slice_get, slice_index}
use Rattle.std.proofs.lemmas.List.Elements.{All-from_get_or}
use Rattle.rx_model.specs.Look.{byte_before, byte_after}
use Rattle.rx_model.specs.Search.{is_permitted}
use Rattle.rx_determinize.specs.Permitted.{met_within}
use Rattle.rx_determinize.specs.Sight.{AreBytes}
use Rattle.rx_dfa.specs.Automaton.{IsReadable, next_key, first_key}
use Rattle.rx_dfa.specs.Course.{end_of}
use Rattle.rx_dfa.proofs.lemmas.CourseLemmas.{nothing_held}
use Rattle.rx_dfa.proofs.lemmas.ForwardLemmas.{key_ahead, GoingAhead, ahead-start, ahead-dead, ahead-early, ahead-end, ahead-none, passed-end, passed-before, arrived-next, start-fails, before-there}
use Rattle.rx_dfa.proofs.search.forward.run_forward.Goals as goal

pub returns-then-is_dead-clause-met : goal.returns-then-is_dead-clause-met
returns-then-is_dead-clause-met g c =
    let d = g.A.Automaton.dfa c.args.dfa.now in
    let v = c.args.input.now in
    let hay = c.haystack-haystack.ensures.value in
    let spanned = c.haystack-haystack.ensures.spanned.end in
    ahead-none d v c.requires.in_order spanned c.new-met.result c.new-met.ensures
    (sym (c.is_dead.ensures (first_key d v.anchor (byte_before v.haystack v.start)) c.in-Ok.ensures.start) ∙ c.if-is_dead.true)

pub returns-in-Err-clause-err : goal.returns-in-Err-clause-err
returns-in-Err-clause-err g c =
    let v = c.args.input.now in
    let order = c.requires.in_order in
    start-fails (g.A.Automaton.dfa c.args.dfa.now).nfa v (byte_before v.haystack v.start) (v.start - 1) v.start
    (g.A.Automaton.gives_up c.args.dfa.now c.start_forward.new.cache) (g.A.Automaton.wants c.args.dfa.now) c.in-Err.error (omega arith) (omega arith)
    (omega arith) (omega arith) (before-there v.haystack v.start) c.in-Err.ensures.err

pub bytes-init : goal.bytes-init
bytes-init g c =
    let d = g.A.Automaton.dfa c.args.dfa.now in
    let v = c.args.input.now in
    let hay = c.haystack-haystack.ensures.value in
    let spanned = c.haystack-haystack.ensures.spanned.end in
    let bytes : AreBytes v.haystack =
    subst AreBytes hay (All-from_get_or (λ b. b < 256) c.haystack-haystack.result.now 0 (λ i lt. let fits = (c.type_inv.haystack i).fits in omega arith)) in
    record {
      low = omega arith;
      high = omega arith;
      going = ahead-start d c.is_utf8-utf8.ensures.sound c.requires.forward v c.requires.in_order spanned bytes g.A.Automaton.holds c.args.dfa.now
          c.start_forward.new.cache c.in-Ok.state c.start-at.result c.new-met.result c.start-at.ensures.value c.new-met.ensures
          c.in-Ok.ensures.start c.in-Ok.ensures.readable
          (sym (c.is_dead.ensures (first_key d v.anchor (byte_before v.haystack v.start)) c.in-Ok.ensures.start) ∙ c.if-is_dead.false);
      bytes = bytes;
      fits = c.in-Ok.ensures.fits;
    }

pub ahead-requires-clause-held : goal.ahead-requires-clause-held
ahead-requires-clause-held g c =
    let d = g.A.Automaton.dfa c.args.dfa.now in
    (key_ahead d c.args.input.now c.bytes.at, c.bytes.invariant.going.held)

pub ahead-requires-clause-within : goal.ahead-requires-clause-within
ahead-requires-clause-within g c =
    let spanned = c.haystack-haystack.ensures.spanned.end in
    let long = ap length c.haystack-haystack.ensures.value in
    let last = c.end-end.ensures.value in
    omega arith

pub returns-in-Err-ahead-clause-err : goal.returns-in-Err-ahead-clause-err
returns-in-Err-ahead-clause-err g c =
    let last = c.end-end.ensures.value in
    c.in-Err-ahead.ensures.err c.args.input.now (sym c.haystack-haystack.ensures.value) c.bytes.invariant.low (omega arith)

pub bytes-preserved-then-at-end : goal.bytes-preserved-then-at-end
bytes-preserved-then-at-end g c =
    let d = g.A.Automaton.dfa c.args.dfa.now in
    let v = c.args.input.now in
    let hay = c.haystack-haystack.ensures.value in
    let spanned = c.haystack-haystack.ensures.spanned.end in
    let bytes = c.bytes.invariant.bytes in
    let at = c.bytes.at in
    let going = c.bytes.invariant.going in
    let low = c.bytes.invariant.low in
    let next = c.in-Ok-ahead.passed.0 in
    let place = c.in-Ok-ahead.passed.1 in
    let between = c.in-Ok-ahead.ensures.between in
    let passed = c.in-Ok-ahead.ensures.passed (key_ahead d v at) going.held going.alive in
    let last : c.end-end.result ≡ v.end = c.end-end.ensures.value in
    record {
      low = omega arith;
      high = omega arith;
      going = passed-end d c.is_utf8-utf8.ensures.sound c.requires.forward v c.requires.in_order spanned bytes g.A.Automaton.holds c.args.dfa.now
          c.bytes.cache c.ahead.new.cache c.bytes.state next at place c.end-end.result c.bytes.met c.haystack-haystack.result.now hay last low between.0
          between.1 passed going (omega arith);
      bytes = bytes;
      fits = c.in-Ok-ahead.ensures.fits;
    }

pub record-met-requires : goal.record-met-requires
record-met-requires g c =
    let d = g.A.Automaton.dfa c.args.dfa.now in
    let v = c.args.input.now in
    let hay = c.haystack-haystack.ensures.value in
    let spanned = c.haystack-haystack.ensures.spanned.end in
    let bytes = c.bytes.invariant.bytes in
    let at = c.bytes.at in
    let going = c.bytes.invariant.going in
    let low = c.bytes.invariant.low in
    let next = c.in-Ok-ahead.passed.0 in
    let place = c.in-Ok-ahead.passed.1 in
    let between = c.in-Ok-ahead.ensures.between in
    let passed = c.in-Ok-ahead.ensures.passed (key_ahead d v at) going.held going.alive in
    let last : c.end-end.result ≡ v.end = c.end-end.ensures.value in
    let inside : place < c.end-end.result = omega arith in
    let there = passed-before d c.is_utf8-utf8.ensures.sound c.requires.forward v c.requires.in_order spanned bytes g.A.Automaton.holds c.args.dfa.now
    c.bytes.cache c.ahead.new.cache c.bytes.state next at place c.end-end.result c.bytes.met c.haystack-haystack.result.now hay last low between.0 between.1
    passed going inside in
    let byte = slice_index v.haystack place in
    let key = key_ahead d v place in
    (next_key d key byte, there.held)

pub is_dead-requires-in-bytes : goal.is_dead-requires-in-bytes
is_dead-requires-in-bytes g c =
    let d = g.A.Automaton.dfa c.args.dfa.now in
    let v = c.args.input.now in
    let hay = c.haystack-haystack.ensures.value in
    let spanned = c.haystack-haystack.ensures.spanned.end in
    let bytes = c.bytes.invariant.bytes in
    let at = c.bytes.at in
    let going = c.bytes.invariant.going in
    let low = c.bytes.invariant.low in
    let next = c.in-Ok-ahead.passed.0 in
    let place = c.in-Ok-ahead.passed.1 in
    let between = c.in-Ok-ahead.ensures.between in
    let passed = c.in-Ok-ahead.ensures.passed (key_ahead d v at) going.held going.alive in
    let last : c.end-end.result ≡ v.end = c.end-end.ensures.value in
    let inside : place < c.end-end.result = omega arith in
    let there = passed-before d c.is_utf8-utf8.ensures.sound c.requires.forward v c.requires.in_order spanned bytes g.A.Automaton.holds c.args.dfa.now
    c.bytes.cache c.ahead.new.cache c.bytes.state next at place c.end-end.result c.bytes.met c.haystack-haystack.result.now hay last low between.0 between.1
    passed going inside in
    let byte = slice_index v.haystack place in
    let key = key_ahead d v place in
    (next_key d key byte, there.held)

pub returns-then-is_dead-2-clause-met : goal.returns-then-is_dead-2-clause-met
returns-then-is_dead-2-clause-met g c =
    let d = g.A.Automaton.dfa c.args.dfa.now in
    let v = c.args.input.now in
    let hay = c.haystack-haystack.ensures.value in
    let spanned = c.haystack-haystack.ensures.spanned.end in
    let bytes = c.bytes.invariant.bytes in
    let at = c.bytes.at in
    let going = c.bytes.invariant.going in
    let low = c.bytes.invariant.low in
    let next = c.in-Ok-ahead.passed.0 in
    let place = c.in-Ok-ahead.passed.1 in
    let between = c.in-Ok-ahead.ensures.between in
    let passed = c.in-Ok-ahead.ensures.passed (key_ahead d v at) going.held going.alive in
    let last : c.end-end.result ≡ v.end = c.end-end.ensures.value in
    let inside : place < c.end-end.result = omega arith in
    let there = passed-before d c.is_utf8-utf8.ensures.sound c.requires.forward v c.requires.in_order spanned bytes g.A.Automaton.holds c.args.dfa.now
    c.bytes.cache c.ahead.new.cache c.bytes.state next at place c.end-end.result c.bytes.met c.haystack-haystack.result.now hay last low between.0 between.1
    passed going inside in
    let byte = slice_index v.haystack place in
    let key = key_ahead d v place in
    let may : is_permitted d.nfa.utf8 v.haystack place ≡ c.is_permitted_at-may.result =
    sym (c.is_permitted_at-may.ensures ∙ (λ j. is_permitted (c.is_utf8-utf8.ensures.value j) (hay j) place)) in
    let met = c.record-met.ensures (next_key d key byte) there.held (is_permitted d.nfa.utf8 v.haystack) may in
    ahead-dead d c.is_utf8-utf8.ensures.sound c.requires.forward v c.requires.in_order spanned bytes nothing_held c.args.dfa.now
    c.bytes.cache c.bytes.state place c.bytes.met c.record-met.result byte (omega arith) (omega arith) refl there.past there.readable
    (sym (c.is_dead-in-bytes.ensures (next_key d key byte) there.held) ∙ c.if-is_dead-2.true) met

pub returns-then-is_enough-clause-met : goal.returns-then-is_enough-clause-met
returns-then-is_enough-clause-met g c =
    let d = g.A.Automaton.dfa c.args.dfa.now in
    let v = c.args.input.now in
    let hay = c.haystack-haystack.ensures.value in
    let spanned = c.haystack-haystack.ensures.spanned.end in
    let bytes = c.bytes.invariant.bytes in
    let at = c.bytes.at in
    let going = c.bytes.invariant.going in
    let low = c.bytes.invariant.low in
    let next = c.in-Ok-ahead.passed.0 in
    let place = c.in-Ok-ahead.passed.1 in
    let between = c.in-Ok-ahead.ensures.between in
    let passed = c.in-Ok-ahead.ensures.passed (key_ahead d v at) going.held going.alive in
    let last : c.end-end.result ≡ v.end = c.end-end.ensures.value in
    let inside : place < c.end-end.result = omega arith in
    let there = passed-before d c.is_utf8-utf8.ensures.sound c.requires.forward v c.requires.in_order spanned bytes g.A.Automaton.holds c.args.dfa.now
    c.bytes.cache c.ahead.new.cache c.bytes.state next at place c.end-end.result c.bytes.met c.haystack-haystack.result.now hay last low between.0 between.1
    passed going inside in
    let byte = slice_index v.haystack place in
    let key = key_ahead d v place in
    let may : is_permitted d.nfa.utf8 v.haystack place ≡ c.is_permitted_at-may.result =
    sym (c.is_permitted_at-may.ensures ∙ (λ j. is_permitted (c.is_utf8-utf8.ensures.value j) (hay j) place)) in
    let met = c.record-met.ensures (next_key d key byte) there.held (is_permitted d.nfa.utf8 v.haystack) may in
    ahead-early d c.is_utf8-utf8.ensures.sound c.requires.forward v c.requires.in_order spanned bytes nothing_held c.args.dfa.now
    c.bytes.cache c.bytes.state place c.bytes.met c.record-met.result byte (omega arith) (omega arith) refl there.past there.readable met
    (ap (λ e. e && is_some c.record-met.result.best) (sym c.get_earliest.ensures) ∙ sym c.is_enough.ensures ∙ c.if-is_enough.true)

pub bytes-preserved : goal.bytes-preserved
bytes-preserved g c =
    let d = g.A.Automaton.dfa c.args.dfa.now in
    let v = c.args.input.now in
    let hay = c.haystack-haystack.ensures.value in
    let spanned = c.haystack-haystack.ensures.spanned.end in
    let bytes = c.bytes.invariant.bytes in
    let at = c.bytes.at in
    let going = c.bytes.invariant.going in
    let low = c.bytes.invariant.low in
    let next = c.in-Ok-ahead.passed.0 in
    let place = c.in-Ok-ahead.passed.1 in
    let between = c.in-Ok-ahead.ensures.between in
    let passed = c.in-Ok-ahead.ensures.passed (key_ahead d v at) going.held going.alive in
    let last : c.end-end.result ≡ v.end = c.end-end.ensures.value in
    let inside : place < c.end-end.result = omega arith in
    let there = passed-before d c.is_utf8-utf8.ensures.sound c.requires.forward v c.requires.in_order spanned bytes g.A.Automaton.holds c.args.dfa.now
    c.bytes.cache c.ahead.new.cache c.bytes.state next at place c.end-end.result c.bytes.met c.haystack-haystack.result.now hay last low between.0 between.1
    passed going inside in
    let byte = slice_index v.haystack place in
    let key = key_ahead d v place in
    let may : is_permitted d.nfa.utf8 v.haystack place ≡ c.is_permitted_at-may.result =
    sym (c.is_permitted_at-may.ensures ∙ (λ j. is_permitted (c.is_utf8-utf8.ensures.value j) (hay j) place)) in
    let met = c.record-met.ensures (next_key d key byte) there.held (is_permitted d.nfa.utf8 v.haystack) may in
    record {
      low = omega arith;
      high = omega arith;
      going = arrived-next d c.is_utf8-utf8.ensures.sound c.requires.forward v c.requires.in_order spanned bytes g.A.Automaton.holds c.args.dfa.now
          c.bytes.cache c.ahead.new.cache c.bytes.state next place c.bytes.met c.record-met.result (omega arith) (omega arith) there
          (sym (c.is_dead-in-bytes.ensures (next_key d key byte) there.held) ∙ c.if-is_dead-2.false) met;
      bytes = bytes;
      fits = c.in-Ok-ahead.ensures.fits;
    }

pub returns-in-Err-last_state-clause-err : goal.returns-in-Err-last_state-clause-err
returns-in-Err-last_state-clause-err g c =
    let d = g.A.Automaton.dfa c.args.dfa.now in
    let v = c.args.input.now in
    let hay = c.haystack-haystack.ensures.value in
    let spanned = c.haystack-haystack.ensures.spanned.end in
    let end = c.end-end.result in
    let order = c.requires.in_order in
    let last : end ≡ v.end = c.end-end.ensures.value in
    let got : c.byte_after-byte.result ≡ slice_get v.haystack end = c.byte_after-byte.ensures ∙ ap (λ t. slice_get t end) hay in
    start-fails d.nfa v c.byte_after-byte.result end end (g.A.Automaton.gives_up c.args.dfa.now c.last_state.new.cache) (g.A.Automaton.wants c.args.dfa.now)
    c.in-Err-last_state.error (omega arith) (omega arith) (omega arith) (omega arith) (λ b is. sym got ∙ is) c.in-Err-last_state.ensures.err

pub record-all-requires : goal.record-all-requires
record-all-requires g c =
    let d = g.A.Automaton.dfa c.args.dfa.now in
    let v = c.args.input.now in
    let hay = c.haystack-haystack.ensures.value in
    let spanned = c.haystack-haystack.ensures.spanned.end in
    let going = c.bytes.invariant.going in
    let last = c.in-Ok-last_state.ensures.last (key_ahead d v c.bytes.at) going.held in
    (last.0, last.1)

pub returns-clause-met : goal.returns-clause-met
returns-clause-met g c =
    let d = g.A.Automaton.dfa c.args.dfa.now in
    let v = c.args.input.now in
    let hay = c.haystack-haystack.ensures.value in
    let spanned = c.haystack-haystack.ensures.spanned.end in
    let bytes = c.bytes.invariant.bytes in
    let at_end : c.bytes.at ≡ v.end = (let high = c.bytes.invariant.high in let last = c.end-end.ensures.value in omega arith) in
    let end_is : c.end-end.result ≡ v.end = c.end-end.ensures.value in
    let going : GoingAhead g.A.Automaton.holds c.args.dfa.now c.bytes.cache c.bytes.state d v v.end c.bytes.met =
    subst (λ i. GoingAhead g.A.Automaton.holds c.args.dfa.now c.bytes.cache c.bytes.state d v i c.bytes.met) at_end c.bytes.invariant.going in
    let key = key_ahead d v v.end in
    let last = c.in-Ok-last_state.ensures.last key going.held in
    let got : c.byte_after-byte.result ≡ byte_after v.haystack v.end = c.byte_after-byte.ensures ∙ (λ j. slice_get (hay j) (end_is j)) in
    let may : is_permitted d.nfa.utf8 v.haystack c.end-end.result ≡ c.is_permitted_at-may_end.result =
    sym (c.is_permitted_at-may_end.ensures ∙ (λ j. is_permitted (c.is_utf8-utf8.ensures.value j) (hay j) c.end-end.result)) in
    let met = c.record-all.ensures last.0 last.1 (is_permitted d.nfa.utf8 v.haystack) may in
    ahead-end d c.is_utf8-utf8.ensures.sound c.requires.forward v c.requires.in_order spanned bytes g.A.Automaton.holds c.args.dfa.now
    c.bytes.cache c.bytes.state c.bytes.met c.record-all.result last.0 going
    (subst (IsReadable d.nfa) got (c.in-Ok-last_state.ensures.readable key going.held going.alive))
    (last.2 ∙ ap (λ o. (end_of d key o).matches) got)
    (met ∙ ap (λ p. met_within (is_permitted d.nfa.utf8 v.haystack) last.0.matches p c.bytes.met) end_is)

pub start_forward-requires : goal.start_forward-requires
start_forward-requires g c = c.requires.fits

pub is_dead-requires : goal.is_dead-requires
is_dead-requires g c =
    let v = c.args.input.now in
    (first_key (g.A.Automaton.dfa c.args.dfa.now) v.anchor (byte_before v.haystack v.start), c.in-Ok.ensures.start)

pub ahead-requires-clause-fits : goal.ahead-requires-clause-fits
ahead-requires-clause-fits g c = c.bytes.invariant.fits

pub ahead-requires-clause-some : goal.ahead-requires-clause-some
ahead-requires-clause-some g c = c.bytes-test.true

pub last_state-requires-clause-fits : goal.last_state-requires-clause-fits
last_state-requires-clause-fits g c = c.bytes.invariant.fits

pub last_state-requires-clause-held : goal.last_state-requires-clause-held
last_state-requires-clause-held g c = (key_ahead (g.A.Automaton.dfa c.args.dfa.now) c.args.input.now c.bytes.at, c.bytes.invariant.going.held)

pub returns-in-Err-clause-fits : goal.returns-in-Err-clause-fits
returns-in-Err-clause-fits g c = c.in-Err.ensures.fits

pub returns-in-Err-ahead-clause-fits : goal.returns-in-Err-ahead-clause-fits
returns-in-Err-ahead-clause-fits g c = c.in-Err-ahead.ensures.fits

pub returns-in-Err-last_state-clause-fits : goal.returns-in-Err-last_state-clause-fits
returns-in-Err-last_state-clause-fits g c = c.in-Err-last_state.ensures.fits

pub returns-clause-fits : goal.returns-clause-fits
returns-clause-fits g c = c.in-Ok-last_state.ensures.fits

pub returns-then-is_dead-clause-fits : goal.returns-then-is_dead-clause-fits
returns-then-is_dead-clause-fits g c = c.in-Ok.ensures.fits

pub returns-then-is_dead-2-clause-fits : goal.returns-then-is_dead-2-clause-fits
returns-then-is_dead-2-clause-fits g c = c.in-Ok-ahead.ensures.fits

pub returns-then-is_enough-clause-fits : goal.returns-then-is_enough-clause-fits
returns-then-is_enough-clause-fits g c = c.in-Ok-ahead.ensures.fits

pub returns-clause-err : goal.returns-clause-err
returns-clause-err g c = tt

pub returns-then-is_dead-clause-err : goal.returns-then-is_dead-clause-err
returns-then-is_dead-clause-err g c = tt

pub returns-then-is_dead-2-clause-err : goal.returns-then-is_dead-2-clause-err
returns-then-is_dead-2-clause-err g c = tt

pub returns-then-is_enough-clause-err : goal.returns-then-is_enough-clause-err
returns-then-is_enough-clause-err g c = tt

pub returns-clause-sound : goal.returns-clause-sound
returns-clause-sound g c = c.is_utf8-utf8.ensures.sound

pub returns-in-Err-clause-sound : goal.returns-in-Err-clause-sound
returns-in-Err-clause-sound g c = c.is_utf8-utf8.ensures.sound

pub returns-in-Err-ahead-clause-sound : goal.returns-in-Err-ahead-clause-sound
returns-in-Err-ahead-clause-sound g c = c.is_utf8-utf8.ensures.sound

pub returns-in-Err-last_state-clause-sound : goal.returns-in-Err-last_state-clause-sound
returns-in-Err-last_state-clause-sound g c = c.is_utf8-utf8.ensures.sound

pub returns-then-is_dead-clause-sound : goal.returns-then-is_dead-clause-sound
returns-then-is_dead-clause-sound g c = c.is_utf8-utf8.ensures.sound

pub returns-then-is_dead-2-clause-sound : goal.returns-then-is_dead-2-clause-sound
returns-then-is_dead-2-clause-sound g c = c.is_utf8-utf8.ensures.sound

pub returns-then-is_enough-clause-sound : goal.returns-then-is_enough-clause-sound
returns-then-is_enough-clause-sound g c = c.is_utf8-utf8.ensures.sound

pub returns-in-Err-clause-met : goal.returns-in-Err-clause-met
returns-in-Err-clause-met g c = tt

pub returns-in-Err-ahead-clause-met : goal.returns-in-Err-ahead-clause-met
returns-in-Err-ahead-clause-met g c = tt

pub returns-in-Err-last_state-clause-met : goal.returns-in-Err-last_state-clause-met
returns-in-Err-last_state-clause-met g c = tt

pub is_permitted_at-may-requires : goal.is_permitted_at-may-requires
is_permitted_at-may-requires g c =
    let whole : length c.haystack-haystack.result.now ≡ length c.args.input.now.haystack = ap length c.haystack-haystack.ensures.value in
    omega (arith, whole, c.haystack-haystack.ensures.spanned.end, c.end-end.ensures.value, c.in-Ok-ahead.ensures.between.1)

pub is_permitted_at-may_end-requires : goal.is_permitted_at-may_end-requires
is_permitted_at-may_end-requires g c =
    let whole : length c.haystack-haystack.result.now ≡ length c.args.input.now.haystack = ap length c.haystack-haystack.ensures.value in
    omega (arith, whole, c.haystack-haystack.ensures.spanned.end, c.end-end.ensures.value)

pub bytes-smaller : goal.bytes-smaller
bytes-smaller g c = omega (arith, c.bytes-test.true, c.end-end.ensures.value, c.in-Ok-ahead.ensures.between.0)

pub overflow_add-at : goal.overflow_add-at
overflow_add-at g c =
    let whole : length c.haystack-haystack.result.now ≡ length c.args.input.now.haystack = ap length c.haystack-haystack.ensures.value in
    omega (arith, whole, c.haystack-haystack.ensures.spanned.end, c.end-end.ensures.value, c.in-Ok-ahead.ensures.between.1, c.haystack-haystack.type_inv)
