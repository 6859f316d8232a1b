use Rattle.std.proofs.Common.{◌≡◌, ◌-◌, ◌<◌, length, refl, sym, ◌∙◌, ap, subst, arith}
use Rattle.std.specs.Prelude.{◌&&◌, is_some, slice_get, slice_index}
use Rattle.std.proofs.lemmas.List.Elements.{All-from_get_or}
use Rattle.rx_model.specs.Look.{byte_before, byte_after}
use Rattle.rx_model.specs.Search.{is_permitted}
use Rattle.rx_determinize.specs.Permitted.{fresh, met_within}
use Rattle.rx_determinize.specs.Sight.{AreBytes}
use Rattle.rx_dfa.specs.Automaton.{IsReadable, next_key, first_key}
use Rattle.rx_dfa.specs.Course.{end_of}
use Rattle.rx_dfa.proofs.lemmas.CourseLemmas.{nothing_held}
use Rattle.rx_dfa.proofs.lemmas.ForwardLemmas.{first-before, start-fails, before-there}
use Rattle.rx_dfa.proofs.lemmas.BackwardLemmas.{key_behind, GoingBehind, back-start, back-dead, back-early, back-end, back-passed-end, back-passed-before, arrived-back, behind-none, met-of}
use Rattle.rx_dfa.proofs.search.reverse.run_reverse.Goals as goal

pub returns-then-is_dead-clause-met : goal.returns-then-is_dead-clause-met
returns-then-is_dead-clause-met g c =
    let d = g.A.Automaton.dfa c.args.dfa.now in
    let v = c.args.input.now in
    let hay = c.haystack-haystack.ensures.value in
    let spanned = c.haystack-haystack.ensures.spanned.end in
    let opening = first_key d v.anchor (byte_after v.haystack v.end) in
    behind-none d v c.requires.in_order spanned c.new-met.result c.new-met.ensures
    (sym (c.is_dead.ensures opening c.in-Ok.ensures.start) ∙ c.if-is_dead.true)

pub returns-in-Err-clause-err : goal.returns-in-Err-clause-err
returns-in-Err-clause-err g c =
    let v = c.args.input.now in
    let order = c.requires.in_order in
    start-fails (g.A.Automaton.dfa c.args.dfa.now).nfa v (byte_after v.haystack v.end) v.end v.end
    (g.A.Automaton.gives_up c.args.dfa.now c.start_reverse.new.cache) (g.A.Automaton.wants c.args.dfa.now) c.in-Err.error (omega arith) (omega arith)
    (omega arith) (omega arith) (λ b is. is) c.in-Err.ensures.err

pub bytes-init : goal.bytes-init
bytes-init g c =
    let d = g.A.Automaton.dfa c.args.dfa.now in
    let v = c.args.input.now in
    let hay = c.haystack-haystack.ensures.value in
    let spanned = c.haystack-haystack.ensures.spanned.end in
    let opening = first_key d v.anchor (byte_after v.haystack v.end) in
    let bytes : AreBytes v.haystack =
    subst AreBytes hay (All-from_get_or (λ b. b < 256) c.haystack-haystack.result.now 0 (λ i lt. let fits = (c.type_inv.haystack i).fits in omega arith)) in
    let first : GoingBehind g.A.Automaton.holds c.args.dfa.now c.start_reverse.new.cache c.in-Ok.state d v v.end fresh =
    back-start d c.is_utf8-utf8.ensures.sound c.requires.reverse v.haystack bytes v.start v.end c.requires.in_order spanned opening
    (first-before d v.anchor (byte_after v.haystack v.end)) g.A.Automaton.holds c.args.dfa.now
    c.start_reverse.new.cache c.in-Ok.state c.in-Ok.ensures.start c.in-Ok.ensures.readable
    (sym (c.is_dead.ensures opening c.in-Ok.ensures.start) ∙ c.if-is_dead.false) in
    record {
      low = omega arith;
      high = omega arith;
      going =
          subst (λ i. GoingBehind g.A.Automaton.holds c.args.dfa.now c.start_reverse.new.cache c.in-Ok.state d v i c.new-met.result)
          (sym c.end-at.ensures.value)
          (subst (λ x. GoingBehind g.A.Automaton.holds c.args.dfa.now c.start_reverse.new.cache c.in-Ok.state d v v.end x) (sym c.new-met.ensures) first);
      bytes = bytes;
      fits = c.in-Ok.ensures.fits;
    }

pub back-requires-clause-held : goal.back-requires-clause-held
back-requires-clause-held g c =
    let d = g.A.Automaton.dfa c.args.dfa.now in
    (key_behind d c.args.input.now c.bytes.at, c.bytes.invariant.going.going.held)

pub back-requires-clause-within : goal.back-requires-clause-within
back-requires-clause-within g c =
    let spanned = c.haystack-haystack.ensures.spanned.end in
    let long = ap length c.haystack-haystack.ensures.value in
    let high = c.bytes.invariant.high in
    omega arith

pub returns-in-Err-back-clause-err : goal.returns-in-Err-back-clause-err
returns-in-Err-back-clause-err g c =
    let first = c.start-start.ensures.value in
    c.in-Err-back.ensures.err c.args.input.now (sym c.haystack-haystack.ensures.value) (omega arith) c.bytes.invariant.high

pub bytes-preserved-then-at-start : goal.bytes-preserved-then-at-start
bytes-preserved-then-at-start g c =
    let d = g.A.Automaton.dfa c.args.dfa.now in
    let v = c.args.input.now in
    let hay = c.haystack-haystack.ensures.value in
    let spanned = c.haystack-haystack.ensures.spanned.end in
    let opening = first_key d v.anchor (byte_after v.haystack v.end) in
    let bytes = c.bytes.invariant.bytes in
    let at = c.bytes.at in
    let going = c.bytes.invariant.going in
    let high = c.bytes.invariant.high in
    let next = c.in-Ok-back.passed.0 in
    let place = c.in-Ok-back.passed.1 in
    let between = c.in-Ok-back.ensures.between in
    let passed = c.in-Ok-back.ensures.passed (key_behind d v at) going.going.held going.going.alive in
    let first : c.start-start.result ≡ v.start = c.start-start.ensures.value in
    record {
      low = omega arith;
      high = omega arith;
      going = back-passed-end d c.is_utf8-utf8.ensures.sound c.requires.reverse v bytes c.requires.in_order spanned g.A.Automaton.holds c.args.dfa.now
          c.bytes.cache c.back.new.cache c.bytes.state next at place c.start-start.result c.bytes.met c.haystack-haystack.result.now hay first between.0
          between.1 high passed going (omega arith);
      bytes = bytes;
      fits = c.in-Ok-back.ensures.fits;
    }

pub record-met-requires : goal.record-met-requires
record-met-requires g c =
    let d = g.A.Automaton.dfa c.args.dfa.now in
    let v = c.args.input.now in
    let hay = c.haystack-haystack.ensures.value in
    let spanned = c.haystack-haystack.ensures.spanned.end in
    let opening = first_key d v.anchor (byte_after v.haystack v.end) in
    let bytes = c.bytes.invariant.bytes in
    let at = c.bytes.at in
    let going = c.bytes.invariant.going in
    let high = c.bytes.invariant.high in
    let next = c.in-Ok-back.passed.0 in
    let place = c.in-Ok-back.passed.1 in
    let between = c.in-Ok-back.ensures.between in
    let passed = c.in-Ok-back.ensures.passed (key_behind d v at) going.going.held going.going.alive in
    let first : c.start-start.result ≡ v.start = c.start-start.ensures.value in
    let inside : c.start-start.result < place = omega arith in
    let there = back-passed-before d c.is_utf8-utf8.ensures.sound c.requires.reverse v bytes c.requires.in_order spanned g.A.Automaton.holds c.args.dfa.now
    c.bytes.cache c.back.new.cache c.bytes.state next at place c.start-start.result c.bytes.met c.haystack-haystack.result.now hay first between.0 between.1
    high passed going inside in
    let byte = slice_index v.haystack (place - 1) in
    let key = key_behind d v place in
    (next_key d key byte, there.held)

pub is_dead-requires-in-bytes : goal.is_dead-requires-in-bytes
is_dead-requires-in-bytes g c =
    let d = g.A.Automaton.dfa c.args.dfa.now in
    let v = c.args.input.now in
    let hay = c.haystack-haystack.ensures.value in
    let spanned = c.haystack-haystack.ensures.spanned.end in
    let opening = first_key d v.anchor (byte_after v.haystack v.end) in
    let bytes = c.bytes.invariant.bytes in
    let at = c.bytes.at in
    let going = c.bytes.invariant.going in
    let high = c.bytes.invariant.high in
    let next = c.in-Ok-back.passed.0 in
    let place = c.in-Ok-back.passed.1 in
    let between = c.in-Ok-back.ensures.between in
    let passed = c.in-Ok-back.ensures.passed (key_behind d v at) going.going.held going.going.alive in
    let first : c.start-start.result ≡ v.start = c.start-start.ensures.value in
    let inside : c.start-start.result < place = omega arith in
    let there = back-passed-before d c.is_utf8-utf8.ensures.sound c.requires.reverse v bytes c.requires.in_order spanned g.A.Automaton.holds c.args.dfa.now
    c.bytes.cache c.back.new.cache c.bytes.state next at place c.start-start.result c.bytes.met c.haystack-haystack.result.now hay first between.0 between.1
    high passed going inside in
    let byte = slice_index v.haystack (place - 1) in
    let key = key_behind d v place in
    (next_key d key byte, there.held)

pub returns-then-is_dead-2-clause-met : goal.returns-then-is_dead-2-clause-met
returns-then-is_dead-2-clause-met g c =
    let d = g.A.Automaton.dfa c.args.dfa.now in
    let v = c.args.input.now in
    let hay = c.haystack-haystack.ensures.value in
    let spanned = c.haystack-haystack.ensures.spanned.end in
    let opening = first_key d v.anchor (byte_after v.haystack v.end) in
    let bytes = c.bytes.invariant.bytes in
    let at = c.bytes.at in
    let going = c.bytes.invariant.going in
    let high = c.bytes.invariant.high in
    let next = c.in-Ok-back.passed.0 in
    let place = c.in-Ok-back.passed.1 in
    let between = c.in-Ok-back.ensures.between in
    let passed = c.in-Ok-back.ensures.passed (key_behind d v at) going.going.held going.going.alive in
    let first : c.start-start.result ≡ v.start = c.start-start.ensures.value in
    let inside : c.start-start.result < place = omega arith in
    let there = back-passed-before d c.is_utf8-utf8.ensures.sound c.requires.reverse v bytes c.requires.in_order spanned g.A.Automaton.holds c.args.dfa.now
    c.bytes.cache c.back.new.cache c.bytes.state next at place c.start-start.result c.bytes.met c.haystack-haystack.result.now hay first between.0 between.1
    high passed going inside in
    let byte = slice_index v.haystack (place - 1) in
    let key = key_behind d v place in
    let may : is_permitted d.nfa.utf8 v.haystack place ≡ c.is_permitted_at-may.result =
    sym (c.is_permitted_at-may.ensures ∙ (λ j. is_permitted (c.is_utf8-utf8.ensures.value j) (hay j) place)) in
    let met = c.record-met.ensures (next_key d key byte) there.held (is_permitted d.nfa.utf8 v.haystack) may in
    met-of d v c.record-met.result
    (back-dead d c.is_utf8-utf8.ensures.sound c.requires.reverse v.haystack bytes v.start v.end c.requires.in_order spanned opening
    (first-before d v.anchor (byte_after v.haystack v.end)) nothing_held c.args.dfa.now
    v.earliest c.bytes.cache c.bytes.state place (place - 1) c.bytes.met c.record-met.result byte (omega arith) (omega arith) refl refl there.past
    there.readable (sym (c.is_dead-in-bytes.ensures (next_key d key byte) there.held) ∙ c.if-is_dead-2.true) met)

pub returns-then-is_enough-clause-met : goal.returns-then-is_enough-clause-met
returns-then-is_enough-clause-met g c =
    let d = g.A.Automaton.dfa c.args.dfa.now in
    let v = c.args.input.now in
    let hay = c.haystack-haystack.ensures.value in
    let spanned = c.haystack-haystack.ensures.spanned.end in
    let opening = first_key d v.anchor (byte_after v.haystack v.end) in
    let bytes = c.bytes.invariant.bytes in
    let at = c.bytes.at in
    let going = c.bytes.invariant.going in
    let high = c.bytes.invariant.high in
    let next = c.in-Ok-back.passed.0 in
    let place = c.in-Ok-back.passed.1 in
    let between = c.in-Ok-back.ensures.between in
    let passed = c.in-Ok-back.ensures.passed (key_behind d v at) going.going.held going.going.alive in
    let first : c.start-start.result ≡ v.start = c.start-start.ensures.value in
    let inside : c.start-start.result < place = omega arith in
    let there = back-passed-before d c.is_utf8-utf8.ensures.sound c.requires.reverse v bytes c.requires.in_order spanned g.A.Automaton.holds c.args.dfa.now
    c.bytes.cache c.back.new.cache c.bytes.state next at place c.start-start.result c.bytes.met c.haystack-haystack.result.now hay first between.0 between.1
    high passed going inside in
    let byte = slice_index v.haystack (place - 1) in
    let key = key_behind d v place in
    let may : is_permitted d.nfa.utf8 v.haystack place ≡ c.is_permitted_at-may.result =
    sym (c.is_permitted_at-may.ensures ∙ (λ j. is_permitted (c.is_utf8-utf8.ensures.value j) (hay j) place)) in
    let met = c.record-met.ensures (next_key d key byte) there.held (is_permitted d.nfa.utf8 v.haystack) may in
    met-of d v c.record-met.result
    (back-early d c.is_utf8-utf8.ensures.sound c.requires.reverse v.haystack bytes v.start v.end c.requires.in_order spanned opening
    (first-before d v.anchor (byte_after v.haystack v.end)) nothing_held c.args.dfa.now
    v.earliest c.bytes.cache c.bytes.state place (place - 1) c.bytes.met c.record-met.result byte (omega arith) (omega arith) refl refl there.past
    there.readable met
    (ap (λ e. e && is_some c.record-met.result.best) (sym c.get_earliest.ensures) ∙ sym c.is_enough.ensures ∙ c.if-is_enough.true))

pub bytes-preserved : goal.bytes-preserved
bytes-preserved g c =
    let d = g.A.Automaton.dfa c.args.dfa.now in
    let v = c.args.input.now in
    let hay = c.haystack-haystack.ensures.value in
    let spanned = c.haystack-haystack.ensures.spanned.end in
    let opening = first_key d v.anchor (byte_after v.haystack v.end) in
    let bytes = c.bytes.invariant.bytes in
    let at = c.bytes.at in
    let going = c.bytes.invariant.going in
    let high = c.bytes.invariant.high in
    let next = c.in-Ok-back.passed.0 in
    let place = c.in-Ok-back.passed.1 in
    let between = c.in-Ok-back.ensures.between in
    let passed = c.in-Ok-back.ensures.passed (key_behind d v at) going.going.held going.going.alive in
    let first : c.start-start.result ≡ v.start = c.start-start.ensures.value in
    let inside : c.start-start.result < place = omega arith in
    let there = back-passed-before d c.is_utf8-utf8.ensures.sound c.requires.reverse v bytes c.requires.in_order spanned g.A.Automaton.holds c.args.dfa.now
    c.bytes.cache c.back.new.cache c.bytes.state next at place c.start-start.result c.bytes.met c.haystack-haystack.result.now hay first between.0 between.1
    high passed going inside in
    let byte = slice_index v.haystack (place - 1) in
    let key = key_behind d v place in
    let may : is_permitted d.nfa.utf8 v.haystack place ≡ c.is_permitted_at-may.result =
    sym (c.is_permitted_at-may.ensures ∙ (λ j. is_permitted (c.is_utf8-utf8.ensures.value j) (hay j) place)) in
    let met = c.record-met.ensures (next_key d key byte) there.held (is_permitted d.nfa.utf8 v.haystack) may in
    record {
      low = omega arith;
      high = omega arith;
      going = arrived-back d c.is_utf8-utf8.ensures.sound c.requires.reverse v bytes c.requires.in_order spanned g.A.Automaton.holds c.args.dfa.now
          c.bytes.cache c.back.new.cache c.bytes.state next place c.bytes.met c.record-met.result (omega arith) (omega arith) there
          (sym (c.is_dead-in-bytes.ensures (next_key d key byte) there.held) ∙ c.if-is_dead-2.false) met;
      bytes = bytes;
      fits = c.in-Ok-back.ensures.fits;
    }

pub returns-in-Err-last_state-clause-err : goal.returns-in-Err-last_state-clause-err
returns-in-Err-last_state-clause-err g c =
    let d = g.A.Automaton.dfa c.args.dfa.now in
    let v = c.args.input.now in
    let hay = c.haystack-haystack.ensures.value in
    let spanned = c.haystack-haystack.ensures.spanned.end in
    let opening = first_key d v.anchor (byte_after v.haystack v.end) in
    let start = c.start-start.result in
    let order = c.requires.in_order in
    let first : start ≡ v.start = c.start-start.ensures.value in
    let beside : c.place_before-beside.result ≡ start - 1 = c.place_before-beside.ensures in
    let got : c.byte_before-byte.result ≡ byte_before v.haystack start = c.byte_before-byte.ensures ∙ ap (λ t. byte_before t start) hay in
    start-fails d.nfa v c.byte_before-byte.result c.place_before-beside.result start (g.A.Automaton.gives_up c.args.dfa.now c.last_state.new.cache)
    (g.A.Automaton.wants c.args.dfa.now) c.in-Err-last_state.error (omega arith) (omega arith) (omega arith) (omega arith)
    (λ b is. ap (slice_get v.haystack) beside ∙ before-there v.haystack start b (sym got ∙ is)) c.in-Err-last_state.ensures.err

pub record-all-requires : goal.record-all-requires
record-all-requires g c =
    let d = g.A.Automaton.dfa c.args.dfa.now in
    let v = c.args.input.now in
    let hay = c.haystack-haystack.ensures.value in
    let spanned = c.haystack-haystack.ensures.spanned.end in
    let opening = first_key d v.anchor (byte_after v.haystack v.end) in
    let last = c.in-Ok-last_state.ensures.last (key_behind d v c.bytes.at) c.bytes.invariant.going.going.held in
    (last.0, last.1)

pub returns-clause-met : goal.returns-clause-met
returns-clause-met g c =
    let d = g.A.Automaton.dfa c.args.dfa.now in
    let v = c.args.input.now in
    let hay = c.haystack-haystack.ensures.value in
    let spanned = c.haystack-haystack.ensures.spanned.end in
    let opening = first_key d v.anchor (byte_after v.haystack v.end) in
    let bytes = c.bytes.invariant.bytes in
    let at_start : c.bytes.at ≡ v.start = (let low = c.bytes.invariant.low in let first = c.start-start.ensures.value in omega arith) in
    let start_is : c.start-start.result ≡ v.start = c.start-start.ensures.value in
    let going : GoingBehind g.A.Automaton.holds c.args.dfa.now c.bytes.cache c.bytes.state d v v.start c.bytes.met =
    subst (λ i. GoingBehind g.A.Automaton.holds c.args.dfa.now c.bytes.cache c.bytes.state d v i c.bytes.met) at_start c.bytes.invariant.going in
    let key = key_behind d v v.start in
    let last = c.in-Ok-last_state.ensures.last key going.going.held in
    let got : c.byte_before-byte.result ≡ byte_before v.haystack v.start = c.byte_before-byte.ensures ∙ (λ j. byte_before (hay j) (start_is j)) in
    let may : is_permitted d.nfa.utf8 v.haystack c.start-start.result ≡ c.is_permitted_at-may_start.result =
    sym (c.is_permitted_at-may_start.ensures ∙ (λ j. is_permitted (c.is_utf8-utf8.ensures.value j) (hay j) c.start-start.result)) in
    let met = c.record-all.ensures last.0 last.1 (is_permitted d.nfa.utf8 v.haystack) may in
    met-of d v c.record-all.result
    (back-end d c.is_utf8-utf8.ensures.sound c.requires.reverse v.haystack bytes v.start v.end c.requires.in_order spanned opening
    (first-before d v.anchor (byte_after v.haystack v.end)) g.A.Automaton.holds c.args.dfa.now
    v.earliest c.bytes.cache c.bytes.state c.bytes.met c.record-all.result last.0 going
    (subst (IsReadable d.nfa) got (c.in-Ok-last_state.ensures.readable key going.going.held going.going.alive))
    (last.2 ∙ ap (λ o. (end_of d key o).matches) got)
    (met ∙ ap (λ p. met_within (is_permitted d.nfa.utf8 v.haystack) last.0.matches p c.bytes.met) start_is))

pub start_reverse-requires : goal.start_reverse-requires
start_reverse-requires g c = c.requires.fits

pub is_dead-requires : goal.is_dead-requires
is_dead-requires g c =
    let v = c.args.input.now in
    (first_key (g.A.Automaton.dfa c.args.dfa.now) v.anchor (byte_after v.haystack v.end), c.in-Ok.ensures.start)

pub back-requires-clause-fits : goal.back-requires-clause-fits
back-requires-clause-fits g c = c.bytes.invariant.fits

pub back-requires-clause-some : goal.back-requires-clause-some
back-requires-clause-some g c = c.bytes-test.true

pub last_state-requires-clause-fits : goal.last_state-requires-clause-fits
last_state-requires-clause-fits g c = c.bytes.invariant.fits

pub last_state-requires-clause-held : goal.last_state-requires-clause-held
last_state-requires-clause-held g c = (key_behind (g.A.Automaton.dfa c.args.dfa.now) c.args.input.now c.bytes.at, c.bytes.invariant.going.going.held)

pub returns-in-Err-clause-fits : goal.returns-in-Err-clause-fits
returns-in-Err-clause-fits g c = c.in-Err.ensures.fits

pub returns-in-Err-back-clause-fits : goal.returns-in-Err-back-clause-fits
returns-in-Err-back-clause-fits g c = c.in-Err-back.ensures.fits

pub returns-in-Err-last_state-clause-fits : goal.returns-in-Err-last_state-clause-fits
returns-in-Err-last_state-clause-fits g c = c.in-Err-last_state.ensures.fits

pub returns-clause-fits : goal.returns-clause-fits
returns-clause-fits g c = c.in-Ok-last_state.ensures.fits

pub returns-then-is_dead-clause-fits : goal.returns-then-is_dead-clause-fits
returns-then-is_dead-clause-fits g c = c.in-Ok.ensures.fits

pub returns-then-is_dead-2-clause-fits : goal.returns-then-is_dead-2-clause-fits
returns-then-is_dead-2-clause-fits g c = c.in-Ok-back.ensures.fits

pub returns-then-is_enough-clause-fits : goal.returns-then-is_enough-clause-fits
returns-then-is_enough-clause-fits g c = c.in-Ok-back.ensures.fits

pub returns-clause-err : goal.returns-clause-err
returns-clause-err g c = tt

pub returns-then-is_dead-clause-err : goal.returns-then-is_dead-clause-err
returns-then-is_dead-clause-err g c = tt

pub returns-then-is_dead-2-clause-err : goal.returns-then-is_dead-2-clause-err
returns-then-is_dead-2-clause-err g c = tt

pub returns-then-is_enough-clause-err : goal.returns-then-is_enough-clause-err
returns-then-is_enough-clause-err g c = tt

pub returns-clause-sound : goal.returns-clause-sound
returns-clause-sound g c = c.is_utf8-utf8.ensures.sound

pub returns-in-Err-clause-sound : goal.returns-in-Err-clause-sound
returns-in-Err-clause-sound g c = c.is_utf8-utf8.ensures.sound

pub returns-in-Err-back-clause-sound : goal.returns-in-Err-back-clause-sound
returns-in-Err-back-clause-sound g c = c.is_utf8-utf8.ensures.sound

pub returns-in-Err-last_state-clause-sound : goal.returns-in-Err-last_state-clause-sound
returns-in-Err-last_state-clause-sound g c = c.is_utf8-utf8.ensures.sound

pub returns-then-is_dead-clause-sound : goal.returns-then-is_dead-clause-sound
returns-then-is_dead-clause-sound g c = c.is_utf8-utf8.ensures.sound

pub returns-then-is_dead-2-clause-sound : goal.returns-then-is_dead-2-clause-sound
returns-then-is_dead-2-clause-sound g c = c.is_utf8-utf8.ensures.sound

pub returns-then-is_enough-clause-sound : goal.returns-then-is_enough-clause-sound
returns-then-is_enough-clause-sound g c = c.is_utf8-utf8.ensures.sound

pub returns-in-Err-clause-met : goal.returns-in-Err-clause-met
returns-in-Err-clause-met g c = tt

pub returns-in-Err-back-clause-met : goal.returns-in-Err-back-clause-met
returns-in-Err-back-clause-met g c = tt

pub returns-in-Err-last_state-clause-met : goal.returns-in-Err-last_state-clause-met
returns-in-Err-last_state-clause-met g c = tt

pub is_permitted_at-may-requires : goal.is_permitted_at-may-requires
is_permitted_at-may-requires g c =
    let whole : length c.haystack-haystack.result.now ≡ length c.args.input.now.haystack = ap length c.haystack-haystack.ensures.value in
    omega (arith, whole, c.haystack-haystack.ensures.spanned.end, c.bytes.invariant.high, c.in-Ok-back.ensures.between.1)

pub is_permitted_at-may_start-requires : goal.is_permitted_at-may_start-requires
is_permitted_at-may_start-requires g c =
    let whole : length c.haystack-haystack.result.now ≡ length c.args.input.now.haystack = ap length c.haystack-haystack.ensures.value in
    omega (arith, whole, c.haystack-haystack.ensures.spanned.end, c.start-start.ensures.value, c.requires.in_order)

pub bytes-smaller : goal.bytes-smaller
bytes-smaller g c = omega (arith, c.bytes-test.true, c.start-start.ensures.value, c.in-Ok-back.ensures.between.1)
