use Rattle.std.proofs.Common.{◌≡◌, ◌+◌, ◌-◌, ◌<◌, length, sym, ◌∙◌, ap, subst, arith}
use Rattle.std.specs.Prelude.{◌&&◌, Some, is_some, slice_get, slice_index}
use Rattle.std.proofs.lemmas.List.Elements.{All-from_get_or}
use Rattle.std.proofs.lemmas.Option.{slice_get-get_or}
use Rattle.rx_model.specs.Look.{byte_before, byte_after}
use Rattle.rx_model.specs.Search.{is_permitted}
use Rattle.rx_determinize.specs.Permitted.{met_within}
use Rattle.rx_determinize.specs.Sight.{AreBytes}
use Rattle.rx_dfa.specs.Automaton.{IsReadable, IsStartKey, next_key, first_key}
use Rattle.rx_dfa.specs.Course.{end_of}
use Rattle.rx_dfa.specs.Search.{SearchFails}
use Rattle.rx_nfa.specs.Automaton.{forwards}
use Rattle.rx_dfa.proofs.lemmas.BackLemmas.{comes-first, comes-next, comes-back}
use Rattle.rx_dfa.proofs.lemmas.CourseLemmas.{next-key as course-next}
use Rattle.rx_dfa.proofs.lemmas.ForwardLemmas.{read-here, key_ahead, GoingAhead, ahead-start, ahead-next, ahead-dead, ahead-early, ahead-end, ahead-none, start-fails, step-fails, before-there}
use Rattle.rx_dfa.proofs.search.course.run_course.Goals as goal

pub returns-then-is_dead-clause-stop : goal.returns-then-is_dead-clause-stop
returns-then-is_dead-clause-stop g c =
    let d = g.A.Automaton.dfa c.args.dfa.now in
    let v = c.args.input.now in
    let hay = c.haystack-haystack.ensures.value in
    let spanned = c.haystack-haystack.ensures.spanned.end in
    ahead-none d v c.requires.in_order spanned c.new-met.result c.new-met.ensures
    (sym (c.is_dead.ensures (first_key d v.anchor (byte_before v.haystack v.start)) c.in-Ok.ensures.start) ∙ c.if-is_dead.true)

pub returns-in-Err-clause-err : goal.returns-in-Err-clause-err
returns-in-Err-clause-err g c =
    let v = c.args.input.now in
    let order = c.requires.in_order in
    start-fails (g.A.Automaton.dfa c.args.dfa.now).nfa v (byte_before v.haystack v.start) (v.start - 1) v.start
    (g.A.Automaton.gives_up c.args.dfa.now c.start_forward.new.cache) (g.A.Automaton.wants c.args.dfa.now) c.in-Err.error (omega arith) (omega arith)
    (omega arith) (omega arith) (before-there v.haystack v.start) c.in-Err.ensures.err

pub bytes-init : goal.bytes-init
bytes-init g c =
    let d = g.A.Automaton.dfa c.args.dfa.now in
    let v = c.args.input.now in
    let hay = c.haystack-haystack.ensures.value in
    let spanned = c.haystack-haystack.ensures.spanned.end in
    let bytes : AreBytes v.haystack =
    subst AreBytes hay (All-from_get_or (λ b. b < 256) c.haystack-haystack.result.now 0 (λ i lt. let fits = (c.type_inv.haystack i).fits in omega arith)) in
    record {
      low = omega arith;
      high = omega arith;
      going = ahead-start d c.is_utf8-utf8.ensures.sound c.requires.forward v c.requires.in_order spanned bytes g.A.Automaton.holds c.args.dfa.now
          c.start_forward.new.cache c.in-Ok.state c.start-at.result c.new-met.result c.start-at.ensures.value c.new-met.ensures
          c.in-Ok.ensures.start c.in-Ok.ensures.readable
          (sym (c.is_dead.ensures (first_key d v.anchor (byte_before v.haystack v.start)) c.in-Ok.ensures.start) ∙ c.if-is_dead.false);
      comes = λ nothing. comes-first d c.requires.leftmost v c.requires.free c.requires.in_order c.start-at.result c.start-at.ensures.value;
      bytes = bytes;
      fits = c.in-Ok.ensures.fits;
    }

pub returns-in-Err-next_state-clause-err : goal.returns-in-Err-next_state-clause-err
returns-in-Err-next_state-clause-err g c =
    let d = g.A.Automaton.dfa c.args.dfa.now in
    let v = c.args.input.now in
    let hay = c.haystack-haystack.ensures.value in
    let spanned = c.haystack-haystack.ensures.spanned.end in
    let at = c.bytes.at in
    let byte = slice_index c.haystack-haystack.result.now at in
    let byte_is : byte ≡ slice_index v.haystack at = ap (λ t. slice_index t at) hay in
    let low = c.bytes.invariant.low in
    let last : v.end ≡ c.end-end.result = sym c.end-end.ensures.value in
    let lt : at < v.end = omega arith in
    let gives_up = g.A.Automaton.gives_up c.args.dfa.now c.next_state.new.cache in
    let wants = g.A.Automaton.wants c.args.dfa.now in
    subst (SearchFails d.nfa v gives_up wants) (sym c.place_error.ensures)
    (step-fails d.nfa v at at byte gives_up wants c.in-Err-next_state.error (omega arith) (omega arith) (omega arith) (omega arith)
    (slice_get-get_or v.haystack at 0 (omega arith) ∙ ap Some (sym byte_is)) c.in-Err-next_state.ensures.err)

pub is_special-requires : goal.is_special-requires
is_special-requires g c =
    let d = g.A.Automaton.dfa c.args.dfa.now in
    let v = c.args.input.now in
    let hay = c.haystack-haystack.ensures.value in
    let spanned = c.haystack-haystack.ensures.spanned.end in
    let at = c.bytes.at in
    let byte = slice_index c.haystack-haystack.result.now at in
    let byte_is : byte ≡ slice_index v.haystack at = ap (λ t. slice_index t at) hay in
    let key = key_ahead d v at in
    let going = c.bytes.invariant.going in
    let held = c.in-Ok-next_state.ensures.next key going.held in
    (next_key d key byte, held)

pub bytes-preserved-then-not-is_special : goal.bytes-preserved-then-not-is_special
bytes-preserved-then-not-is_special g c =
    let d = g.A.Automaton.dfa c.args.dfa.now in
    let v = c.args.input.now in
    let hay = c.haystack-haystack.ensures.value in
    let spanned = c.haystack-haystack.ensures.spanned.end in
    let bytes = c.bytes.invariant.bytes in
    let at = c.bytes.at in
    let byte = slice_index c.haystack-haystack.result.now at in
    let byte_is : byte ≡ slice_index v.haystack at = ap (λ t. slice_index t at) hay in
    let key = key_ahead d v at in
    let going = c.bytes.invariant.going in
    let held = c.in-Ok-next_state.ensures.next key going.held in
    let readable = c.in-Ok-next_state.ensures.readable key going.held going.alive in
    let last : v.end ≡ c.end-end.result = sym c.end-end.ensures.value in
    let lt : at < v.end = omega arith in
    let nothing = c.is_special.ensures.no_match (next_key d key byte) held c.if-not-is_special.true in
    let low = c.bytes.invariant.low in
    record {
      low = omega arith;
      high = omega arith;
      going = ahead-next d c.is_utf8-utf8.ensures.sound c.requires.forward v c.requires.in_order spanned bytes g.A.Automaton.holds c.args.dfa.now
          c.bytes.cache c.next_state.new.cache c.bytes.state c.in-Ok-next_state.next at c.bytes.met c.bytes.met byte low lt byte_is going held readable
          (c.is_special.ensures.live (next_key d key byte) held c.if-not-is_special.true)
          (sym (ap (λ ms. met_within (is_permitted d.nfa.utf8 v.haystack) ms at c.bytes.met) nothing));
      comes = comes-next d c.requires.leftmost v c.requires.free c.requires.forward bytes at c.bytes.met c.bytes.met byte low lt byte_is going.readable
          (read-here d c.is_utf8-utf8.ensures.sound c.requires.forward v c.requires.in_order spanned bytes at byte lt byte_is readable)
          c.bytes.invariant.comes (sym (ap (λ ms. met_within (is_permitted d.nfa.utf8 v.haystack) ms at c.bytes.met) nothing));
      bytes = bytes;
      fits = c.in-Ok-next_state.ensures.fits;
    }

pub is_back-requires-clause-held : goal.is_back-requires-clause-held
is_back-requires-clause-held g c =
    let d = g.A.Automaton.dfa c.args.dfa.now in
    let v = c.args.input.now in
    let byte = slice_index c.haystack-haystack.result.now c.bytes.at in
    let key = key_ahead d v c.bytes.at in
    (next_key d key byte, c.in-Ok-next_state.ensures.next key c.bytes.invariant.going.held)

pub returns-then-is_back-clause-stop : goal.returns-then-is_back-clause-stop
returns-then-is_back-clause-stop g c =
    let d = g.A.Automaton.dfa c.args.dfa.now in
    let v = c.args.input.now in
    let hay = c.haystack-haystack.ensures.value in
    let spanned = c.haystack-haystack.ensures.spanned.end in
    let bytes = c.bytes.invariant.bytes in
    let at = c.bytes.at in
    let byte = slice_index c.haystack-haystack.result.now at in
    let byte_is : byte ≡ slice_index v.haystack at = ap (λ t. slice_index t at) hay in
    let key = key_ahead d v at in
    let going = c.bytes.invariant.going in
    let held = c.in-Ok-next_state.ensures.next key going.held in
    let readable = c.in-Ok-next_state.ensures.readable key going.held going.alive in
    let last : v.end ≡ c.end-end.result = sym c.end-end.ensures.value in
    let lt : at < v.end = omega arith in
    let nothing = c.is_special.ensures.no_match (next_key d key byte) held c.if-not-is_special.true in
    let low = c.bytes.invariant.low in
    let sound = c.is_utf8-utf8.ensures.sound in
    let comes = comes-next d c.requires.leftmost v c.requires.free c.requires.forward bytes at c.bytes.met c.bytes.met byte low lt byte_is going.readable
    (read-here d sound c.requires.forward v c.requires.in_order spanned bytes at byte lt byte_is readable)
    c.bytes.invariant.comes (sym (ap (λ ms. met_within (is_permitted d.nfa.utf8 v.haystack) ms at c.bytes.met) nothing))
    (c.is_back.ensures.nothing c.if-is_back.true) in
    let next : next_key d key byte ≡ key_ahead d v (at + 1) =
    ap (next_key d key) byte_is
    ∙ sym (course-next d (forwards d.nfa.terminator v.haystack) (is_permitted d.nfa.utf8 v.haystack) (byte_before v.haystack) (length v.haystack) v.end v.start
    spanned (first_key d v.anchor (byte_before v.haystack v.start)) at low) in
    comes-back d c.requires.leftmost v c.requires.free sound spanned (at + 1) (omega arith) (omega arith) comes
    (subst (IsStartKey d) next (c.is_back.ensures.start (next_key d key byte) held c.if-is_back.true))

pub record-met-requires : goal.record-met-requires
record-met-requires g c =
    let d = g.A.Automaton.dfa c.args.dfa.now in
    let v = c.args.input.now in
    let hay = c.haystack-haystack.ensures.value in
    let spanned = c.haystack-haystack.ensures.spanned.end in
    let at = c.bytes.at in
    let byte = slice_index c.haystack-haystack.result.now at in
    let byte_is : byte ≡ slice_index v.haystack at = ap (λ t. slice_index t at) hay in
    let key = key_ahead d v at in
    let going = c.bytes.invariant.going in
    let held = c.in-Ok-next_state.ensures.next key going.held in
    (next_key d key byte, held)

pub is_dead-requires-in-bytes : goal.is_dead-requires-in-bytes
is_dead-requires-in-bytes g c =
    let d = g.A.Automaton.dfa c.args.dfa.now in
    let v = c.args.input.now in
    let hay = c.haystack-haystack.ensures.value in
    let spanned = c.haystack-haystack.ensures.spanned.end in
    let at = c.bytes.at in
    let byte = slice_index c.haystack-haystack.result.now at in
    let byte_is : byte ≡ slice_index v.haystack at = ap (λ t. slice_index t at) hay in
    let key = key_ahead d v at in
    let going = c.bytes.invariant.going in
    let held = c.in-Ok-next_state.ensures.next key going.held in
    (next_key d key byte, held)

pub returns-then-is_dead-2-clause-stop : goal.returns-then-is_dead-2-clause-stop
returns-then-is_dead-2-clause-stop g c =
    let d = g.A.Automaton.dfa c.args.dfa.now in
    let v = c.args.input.now in
    let hay = c.haystack-haystack.ensures.value in
    let spanned = c.haystack-haystack.ensures.spanned.end in
    let bytes = c.bytes.invariant.bytes in
    let at = c.bytes.at in
    let byte = slice_index c.haystack-haystack.result.now at in
    let byte_is : byte ≡ slice_index v.haystack at = ap (λ t. slice_index t at) hay in
    let key = key_ahead d v at in
    let going = c.bytes.invariant.going in
    let held = c.in-Ok-next_state.ensures.next key going.held in
    let readable = c.in-Ok-next_state.ensures.readable key going.held going.alive in
    let last : v.end ≡ c.end-end.result = sym c.end-end.ensures.value in
    let lt : at < v.end = omega arith in
    let may : is_permitted d.nfa.utf8 v.haystack at ≡ c.is_permitted_at-may.result =
    sym (c.is_permitted_at-may.ensures ∙ (λ j. is_permitted (c.is_utf8-utf8.ensures.value j) (hay j) at)) in
    let met = c.record-met.ensures (next_key d key byte) held (is_permitted d.nfa.utf8 v.haystack) may in
    ahead-dead d c.is_utf8-utf8.ensures.sound c.requires.forward v c.requires.in_order spanned bytes g.A.Automaton.holds c.args.dfa.now
    c.bytes.cache c.bytes.state at c.bytes.met c.record-met.result byte c.bytes.invariant.low lt byte_is going readable
    (sym (c.is_dead-in-bytes.ensures (next_key d key byte) held) ∙ c.if-is_dead-2.true) met

pub returns-then-is_enough-clause-stop : goal.returns-then-is_enough-clause-stop
returns-then-is_enough-clause-stop g c =
    let d = g.A.Automaton.dfa c.args.dfa.now in
    let v = c.args.input.now in
    let hay = c.haystack-haystack.ensures.value in
    let spanned = c.haystack-haystack.ensures.spanned.end in
    let bytes = c.bytes.invariant.bytes in
    let at = c.bytes.at in
    let byte = slice_index c.haystack-haystack.result.now at in
    let byte_is : byte ≡ slice_index v.haystack at = ap (λ t. slice_index t at) hay in
    let key = key_ahead d v at in
    let going = c.bytes.invariant.going in
    let held = c.in-Ok-next_state.ensures.next key going.held in
    let readable = c.in-Ok-next_state.ensures.readable key going.held going.alive in
    let last : v.end ≡ c.end-end.result = sym c.end-end.ensures.value in
    let lt : at < v.end = omega arith in
    let may : is_permitted d.nfa.utf8 v.haystack at ≡ c.is_permitted_at-may.result =
    sym (c.is_permitted_at-may.ensures ∙ (λ j. is_permitted (c.is_utf8-utf8.ensures.value j) (hay j) at)) in
    let met = c.record-met.ensures (next_key d key byte) held (is_permitted d.nfa.utf8 v.haystack) may in
    ahead-early d c.is_utf8-utf8.ensures.sound c.requires.forward v c.requires.in_order spanned bytes g.A.Automaton.holds c.args.dfa.now
    c.bytes.cache c.bytes.state at c.bytes.met c.record-met.result byte c.bytes.invariant.low lt byte_is going readable met
    (ap (λ e. e && is_some c.record-met.result.best) (sym c.get_earliest.ensures) ∙ sym c.is_enough.ensures ∙ c.if-is_enough.true)

pub bytes-preserved : goal.bytes-preserved
bytes-preserved g c =
    let d = g.A.Automaton.dfa c.args.dfa.now in
    let v = c.args.input.now in
    let hay = c.haystack-haystack.ensures.value in
    let spanned = c.haystack-haystack.ensures.spanned.end in
    let bytes = c.bytes.invariant.bytes in
    let at = c.bytes.at in
    let byte = slice_index c.haystack-haystack.result.now at in
    let byte_is : byte ≡ slice_index v.haystack at = ap (λ t. slice_index t at) hay in
    let key = key_ahead d v at in
    let going = c.bytes.invariant.going in
    let held = c.in-Ok-next_state.ensures.next key going.held in
    let readable = c.in-Ok-next_state.ensures.readable key going.held going.alive in
    let last : v.end ≡ c.end-end.result = sym c.end-end.ensures.value in
    let lt : at < v.end = omega arith in
    let may : is_permitted d.nfa.utf8 v.haystack at ≡ c.is_permitted_at-may.result =
    sym (c.is_permitted_at-may.ensures ∙ (λ j. is_permitted (c.is_utf8-utf8.ensures.value j) (hay j) at)) in
    let met = c.record-met.ensures (next_key d key byte) held (is_permitted d.nfa.utf8 v.haystack) may in
    let low = c.bytes.invariant.low in
    record {
      low = omega arith;
      high = omega arith;
      going = ahead-next d c.is_utf8-utf8.ensures.sound c.requires.forward v c.requires.in_order spanned bytes g.A.Automaton.holds c.args.dfa.now
          c.bytes.cache c.next_state.new.cache c.bytes.state c.in-Ok-next_state.next at c.bytes.met c.record-met.result byte low lt byte_is going held readable
          (sym (c.is_dead-in-bytes.ensures (next_key d key byte) held) ∙ c.if-is_dead-2.false) met;
      comes = comes-next d c.requires.leftmost v c.requires.free c.requires.forward bytes at c.bytes.met c.record-met.result byte low lt byte_is going.readable
          (read-here d c.is_utf8-utf8.ensures.sound c.requires.forward v c.requires.in_order spanned bytes at byte lt byte_is readable)
          c.bytes.invariant.comes met;
      bytes = bytes;
      fits = c.in-Ok-next_state.ensures.fits;
    }

pub returns-in-Err-last_state-clause-err : goal.returns-in-Err-last_state-clause-err
returns-in-Err-last_state-clause-err g c =
    let d = g.A.Automaton.dfa c.args.dfa.now in
    let v = c.args.input.now in
    let hay = c.haystack-haystack.ensures.value in
    let spanned = c.haystack-haystack.ensures.spanned.end in
    let end = c.end-end.result in
    let order = c.requires.in_order in
    let last : end ≡ v.end = c.end-end.ensures.value in
    let got : c.byte_after-byte.result ≡ slice_get v.haystack end = c.byte_after-byte.ensures ∙ ap (λ t. slice_get t end) hay in
    start-fails d.nfa v c.byte_after-byte.result end end (g.A.Automaton.gives_up c.args.dfa.now c.last_state.new.cache) (g.A.Automaton.wants c.args.dfa.now)
    c.in-Err-last_state.error (omega arith) (omega arith) (omega arith) (omega arith) (λ b is. sym got ∙ is) c.in-Err-last_state.ensures.err

pub record-all-requires : goal.record-all-requires
record-all-requires g c =
    let d = g.A.Automaton.dfa c.args.dfa.now in
    let v = c.args.input.now in
    let hay = c.haystack-haystack.ensures.value in
    let spanned = c.haystack-haystack.ensures.spanned.end in
    let going = c.bytes.invariant.going in
    let last = c.in-Ok-last_state.ensures.last (key_ahead d v c.bytes.at) going.held in
    (last.0, last.1)

pub returns-clause-stop : goal.returns-clause-stop
returns-clause-stop g c =
    let d = g.A.Automaton.dfa c.args.dfa.now in
    let v = c.args.input.now in
    let hay = c.haystack-haystack.ensures.value in
    let spanned = c.haystack-haystack.ensures.spanned.end in
    let bytes = c.bytes.invariant.bytes in
    let at_end : c.bytes.at ≡ v.end = (let high = c.bytes.invariant.high in let last = c.end-end.ensures.value in omega arith) in
    let end_is : c.end-end.result ≡ v.end = c.end-end.ensures.value in
    let going : GoingAhead g.A.Automaton.holds c.args.dfa.now c.bytes.cache c.bytes.state d v v.end c.bytes.met =
    subst (λ i. GoingAhead g.A.Automaton.holds c.args.dfa.now c.bytes.cache c.bytes.state d v i c.bytes.met) at_end c.bytes.invariant.going in
    let key = key_ahead d v v.end in
    let last = c.in-Ok-last_state.ensures.last key going.held in
    let got : c.byte_after-byte.result ≡ byte_after v.haystack v.end = c.byte_after-byte.ensures ∙ (λ j. slice_get (hay j) (end_is j)) in
    let may : is_permitted d.nfa.utf8 v.haystack c.end-end.result ≡ c.is_permitted_at-may_end.result =
    sym (c.is_permitted_at-may_end.ensures ∙ (λ j. is_permitted (c.is_utf8-utf8.ensures.value j) (hay j) c.end-end.result)) in
    let met = c.record-all.ensures last.0 last.1 (is_permitted d.nfa.utf8 v.haystack) may in
    ahead-end d c.is_utf8-utf8.ensures.sound c.requires.forward v c.requires.in_order spanned bytes g.A.Automaton.holds c.args.dfa.now
    c.bytes.cache c.bytes.state c.bytes.met c.record-all.result last.0 going
    (subst (IsReadable d.nfa) got (c.in-Ok-last_state.ensures.readable key going.held going.alive))
    (last.2 ∙ ap (λ o. (end_of d key o).matches) got)
    (met ∙ ap (λ p. met_within (is_permitted d.nfa.utf8 v.haystack) last.0.matches p c.bytes.met) end_is)

pub start_forward-requires : goal.start_forward-requires
start_forward-requires g c = c.requires.fits

pub is_dead-requires : goal.is_dead-requires
is_dead-requires g c =
    let v = c.args.input.now in
    (first_key (g.A.Automaton.dfa c.args.dfa.now) v.anchor (byte_before v.haystack v.start), c.in-Ok.ensures.start)

pub next_state-requires-clause-fits : goal.next_state-requires-clause-fits
next_state-requires-clause-fits g c = c.bytes.invariant.fits

pub next_state-requires-clause-held : goal.next_state-requires-clause-held
next_state-requires-clause-held g c = (key_ahead (g.A.Automaton.dfa c.args.dfa.now) c.args.input.now c.bytes.at, c.bytes.invariant.going.held)

pub is_back-requires-clause-fits : goal.is_back-requires-clause-fits
is_back-requires-clause-fits g c = c.in-Ok-next_state.ensures.fits

pub last_state-requires-clause-fits : goal.last_state-requires-clause-fits
last_state-requires-clause-fits g c = c.bytes.invariant.fits

pub last_state-requires-clause-held : goal.last_state-requires-clause-held
last_state-requires-clause-held g c = (key_ahead (g.A.Automaton.dfa c.args.dfa.now) c.args.input.now c.bytes.at, c.bytes.invariant.going.held)

pub returns-in-Err-clause-fits : goal.returns-in-Err-clause-fits
returns-in-Err-clause-fits g c = c.in-Err.ensures.fits

pub returns-in-Err-clause-sound : goal.returns-in-Err-clause-sound
returns-in-Err-clause-sound g c = c.is_utf8-utf8.ensures.sound

pub returns-in-Err-clause-stop : goal.returns-in-Err-clause-stop
returns-in-Err-clause-stop g c = tt

pub returns-then-is_dead-clause-fits : goal.returns-then-is_dead-clause-fits
returns-then-is_dead-clause-fits g c = c.in-Ok.ensures.fits

pub returns-then-is_dead-clause-err : goal.returns-then-is_dead-clause-err
returns-then-is_dead-clause-err g c = tt

pub returns-then-is_dead-clause-sound : goal.returns-then-is_dead-clause-sound
returns-then-is_dead-clause-sound g c = c.is_utf8-utf8.ensures.sound

pub returns-in-Err-next_state-clause-fits : goal.returns-in-Err-next_state-clause-fits
returns-in-Err-next_state-clause-fits g c = c.in-Err-next_state.ensures.fits

pub returns-in-Err-next_state-clause-sound : goal.returns-in-Err-next_state-clause-sound
returns-in-Err-next_state-clause-sound g c = c.is_utf8-utf8.ensures.sound

pub returns-in-Err-next_state-clause-stop : goal.returns-in-Err-next_state-clause-stop
returns-in-Err-next_state-clause-stop g c = tt

pub returns-then-is_back-clause-fits : goal.returns-then-is_back-clause-fits
returns-then-is_back-clause-fits g c = c.in-Ok-next_state.ensures.fits

pub returns-then-is_back-clause-err : goal.returns-then-is_back-clause-err
returns-then-is_back-clause-err g c = tt

pub returns-then-is_back-clause-sound : goal.returns-then-is_back-clause-sound
returns-then-is_back-clause-sound g c = c.is_utf8-utf8.ensures.sound

pub returns-then-is_dead-2-clause-fits : goal.returns-then-is_dead-2-clause-fits
returns-then-is_dead-2-clause-fits g c = c.in-Ok-next_state.ensures.fits

pub returns-then-is_dead-2-clause-err : goal.returns-then-is_dead-2-clause-err
returns-then-is_dead-2-clause-err g c = tt

pub returns-then-is_dead-2-clause-sound : goal.returns-then-is_dead-2-clause-sound
returns-then-is_dead-2-clause-sound g c = c.is_utf8-utf8.ensures.sound

pub returns-then-is_enough-clause-fits : goal.returns-then-is_enough-clause-fits
returns-then-is_enough-clause-fits g c = c.in-Ok-next_state.ensures.fits

pub returns-then-is_enough-clause-err : goal.returns-then-is_enough-clause-err
returns-then-is_enough-clause-err g c = tt

pub returns-then-is_enough-clause-sound : goal.returns-then-is_enough-clause-sound
returns-then-is_enough-clause-sound g c = c.is_utf8-utf8.ensures.sound

pub returns-in-Err-last_state-clause-fits : goal.returns-in-Err-last_state-clause-fits
returns-in-Err-last_state-clause-fits g c = c.in-Err-last_state.ensures.fits

pub returns-in-Err-last_state-clause-sound : goal.returns-in-Err-last_state-clause-sound
returns-in-Err-last_state-clause-sound g c = c.is_utf8-utf8.ensures.sound

pub returns-in-Err-last_state-clause-stop : goal.returns-in-Err-last_state-clause-stop
returns-in-Err-last_state-clause-stop g c = tt

pub returns-clause-fits : goal.returns-clause-fits
returns-clause-fits g c = c.in-Ok-last_state.ensures.fits

pub returns-clause-err : goal.returns-clause-err
returns-clause-err g c = tt

pub returns-clause-sound : goal.returns-clause-sound
returns-clause-sound g c = c.is_utf8-utf8.ensures.sound

pub bytes-smaller : goal.bytes-smaller
bytes-smaller g c = omega (arith, c.bytes-test.true, c.end-end.ensures.value)

pub bytes-smaller-then-not-is_special : goal.bytes-smaller-then-not-is_special
bytes-smaller-then-not-is_special g c = omega (arith, c.bytes-test.true, c.end-end.ensures.value)

pub bounds-haystack-at : goal.bounds-haystack-at
bounds-haystack-at g c =
    let whole : length c.haystack-haystack.result.now ≡ length c.args.input.now.haystack = ap length c.haystack-haystack.ensures.value in
    omega (arith, whole, c.haystack-haystack.ensures.spanned.end, c.end-end.ensures.value, c.bytes-test.true)

pub is_permitted_at-may-requires : goal.is_permitted_at-may-requires
is_permitted_at-may-requires g c =
    let whole : length c.haystack-haystack.result.now ≡ length c.args.input.now.haystack = ap length c.haystack-haystack.ensures.value in
    omega (arith, whole, c.haystack-haystack.ensures.spanned.end, c.end-end.ensures.value, c.bytes-test.true)

pub is_permitted_at-may_end-requires : goal.is_permitted_at-may_end-requires
is_permitted_at-may_end-requires g c =
    let whole : length c.haystack-haystack.result.now ≡ length c.args.input.now.haystack = ap length c.haystack-haystack.ensures.value in
    omega (arith, whole, c.haystack-haystack.ensures.spanned.end, c.end-end.ensures.value)

pub overflow_add-at : goal.overflow_add-at
overflow_add-at g c = omega (arith, c.bytes-test.true, c.end-end.type_inv)

pub overflow_add-at-in-bytes : goal.overflow_add-at-in-bytes
overflow_add-at-in-bytes g c = omega (arith, c.bytes-test.true, c.end-end.type_inv)
