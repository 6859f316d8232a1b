use Rattle.std.proofs.Common.{◌≡◌, ℕ, List, ◌+◌, ◌-◌, ◌<◌, ◌≤◌, [], length, refl, sym, ◌∙◌, ap, subst, arith}
use Rattle.std.specs.Prelude.{true, Some, slice_get, slice_index}
use Rattle.std.proofs.lemmas.List.Elements.{All-from_get_or}
use Rattle.std.proofs.lemmas.Option.{slice_get-get_or}
use Rattle.rx_model.specs.Look.{byte_before, byte_after}
use Rattle.rx_model.specs.Search.{is_permitted}
use Rattle.rx_nfa.specs.Ordered.{AreBelow}
use Rattle.rx_determinize.specs.Key.{is_dead}
use Rattle.rx_determinize.specs.Permitted.{fresh, met_within}
use Rattle.rx_determinize.specs.Sight.{AreBytes}
use Rattle.rx_dfa.specs.Automaton.{IsReadable, next_key, first_key}
use Rattle.rx_dfa.specs.Course.{end_of}
use Rattle.rx_dfa.specs.Search.{SearchFails}
use Rattle.rx_dfa.proofs.lemmas.ForwardLemmas.{key_ahead, ahead-start, ahead-next, ahead-dead, ahead-none, start-fails, step-fails, before-there}
use Rattle.rx_dfa.proofs.lemmas.OverlapLemmas.{FillsTo, fills-none, fills-full, fills-opening, fills-dead, fills-more, saw-whole, saw-byte, saw-end, next-tells, next-dead, below-room}
use Rattle.rx_dfa.proofs.lemmas.PatternLemmas.{next-below, end-below, next-few, end-few}
use Rattle.rx_dfa.proofs.lemmas.SetLemmas.{adds-nothing}
use Rattle.rx_dfa.proofs.search.overlapping.add_along.Goals as goal

pub returns-in-Err-clause-err : goal.returns-in-Err-clause-err
returns-in-Err-clause-err g c =
    let v = c.args.input.now in
    let order = c.requires.in_order in
    start-fails (g.A.Automaton.dfa c.args.dfa.now).nfa v (byte_before v.haystack v.start) (v.start - 1) v.start
    (g.A.Automaton.gives_up c.args.dfa.now c.start_forward.new.cache) (g.A.Automaton.wants c.args.dfa.now) c.in-Err.error (omega arith) (omega arith)
    (omega arith) (omega arith) (before-there v.haystack v.start) c.in-Err.ensures.err

pub returns-in-Err-clause-adds : goal.returns-in-Err-clause-adds
returns-in-Err-clause-adds g c = (fills-none (g.A.Automaton.dfa c.args.dfa.now).nfa c.args.input.now 0 (omega arith) c.args.set.now).adds

pub returns-then-is_dead-clause-adds : goal.returns-then-is_dead-clause-adds
returns-then-is_dead-clause-adds g c = (fills-none (g.A.Automaton.dfa c.args.dfa.now).nfa c.args.input.now 0 (omega arith) c.args.set.now).adds

pub returns-then-is_dead-clause-each : goal.returns-then-is_dead-clause-each
returns-then-is_dead-clause-each g c =
    let d = g.A.Automaton.dfa c.args.dfa.now in
    let v = c.args.input.now in
    let hay = c.haystack-haystack.ensures.value in
    let spanned = c.haystack-haystack.ensures.spanned.end in
    let dead = sym (c.is_dead.ensures (first_key d v.anchor (byte_before v.haystack v.start)) c.in-Ok.ensures.start) ∙ c.if-is_dead.true in
    (fills-opening d c.is_utf8-utf8.ensures.sound c.requires.every v spanned c.requires.whole dead fresh
    (ahead-none d v c.requires.in_order spanned fresh refl dead) c.args.set.now).ends

pub bytes-init : goal.bytes-init
bytes-init g c =
    let d = g.A.Automaton.dfa c.args.dfa.now in
    let v = c.args.input.now in
    let hay = c.haystack-haystack.ensures.value in
    let spanned = c.haystack-haystack.ensures.spanned.end in
    let bytes : AreBytes v.haystack =
    subst AreBytes hay (All-from_get_or (λ b. b < 256) c.haystack-haystack.result.now 0 (λ i lt. let fits = (c.type_inv.haystack i).fits in omega arith)) in
    let first : c.start-at.result ≡ v.start = c.start-at.ensures.value in
    record {
      low = omega arith;
      high = omega arith;
      going = (
        fresh,
        ahead-start d c.is_utf8-utf8.ensures.sound c.requires.forward v c.requires.in_order spanned bytes g.A.Automaton.holds c.args.dfa.now
            c.start_forward.new.cache c.in-Ok.state c.start-at.result fresh first refl c.in-Ok.ensures.start c.in-Ok.ensures.readable
            (sym (c.is_dead.ensures (first_key d v.anchor (byte_before v.haystack v.start)) c.in-Ok.ensures.start) ∙ c.if-is_dead.false),
      );
      fills = fills-none d.nfa v c.start-at.result (omega arith) c.args.set.now;
      bytes = bytes;
      fits = c.in-Ok.ensures.fits;
    }

pub returns-in-Err-next_state-clause-err : goal.returns-in-Err-next_state-clause-err
returns-in-Err-next_state-clause-err g c =
    let d = g.A.Automaton.dfa c.args.dfa.now in
    let v = c.args.input.now in
    let hay = c.haystack-haystack.ensures.value in
    let spanned = c.haystack-haystack.ensures.spanned.end in
    let at = c.bytes.at in
    let byte = slice_index c.haystack-haystack.result.now at in
    let byte_is : byte ≡ slice_index v.haystack at = ap (λ t. slice_index t at) hay in
    let low = c.bytes.invariant.low in
    let last : v.end ≡ c.end-end.result = sym c.end-end.ensures.value in
    let lt : at < v.end = omega arith in
    let gives_up = g.A.Automaton.gives_up c.args.dfa.now c.next_state.new.cache in
    let wants = g.A.Automaton.wants c.args.dfa.now in
    subst (SearchFails d.nfa v gives_up wants) (sym c.place_error.ensures)
    (step-fails d.nfa v at at byte gives_up wants c.in-Err-next_state.error (omega arith) (omega arith) (omega arith) (omega arith)
    (slice_get-get_or v.haystack at 0 (omega arith) ∙ ap Some (sym byte_is)) c.in-Err-next_state.ensures.err)

pub is_special-requires : goal.is_special-requires
is_special-requires g c =
    let d = g.A.Automaton.dfa c.args.dfa.now in
    let byte = slice_index c.haystack-haystack.result.now c.bytes.at in
    let key = key_ahead d c.args.input.now c.bytes.at in
    (next_key d key byte, c.in-Ok-next_state.ensures.next key c.bytes.invariant.going.1.held)

pub bytes-preserved-then-not-is_special : goal.bytes-preserved-then-not-is_special
bytes-preserved-then-not-is_special g c =
    let d = g.A.Automaton.dfa c.args.dfa.now in
    let v = c.args.input.now in
    let hay = c.haystack-haystack.ensures.value in
    let spanned = c.haystack-haystack.ensures.spanned.end in
    let bytes = c.bytes.invariant.bytes in
    let at = c.bytes.at in
    let byte = slice_index c.haystack-haystack.result.now at in
    let byte_is : byte ≡ slice_index v.haystack at = ap (λ t. slice_index t at) hay in
    let key = key_ahead d v at in
    let met = c.bytes.invariant.going.0 in
    let going = c.bytes.invariant.going.1 in
    let held = c.in-Ok-next_state.ensures.next key going.held in
    let readable = c.in-Ok-next_state.ensures.readable key going.held going.alive in
    let last : v.end ≡ c.end-end.result = sym c.end-end.ensures.value in
    let lt : at < v.end = omega arith in
    let nothing = c.is_special.ensures.no_match (next_key d key byte) held c.if-not-is_special.true in
    let low = c.bytes.invariant.low in
    let sound = c.is_utf8-utf8.ensures.sound in
    let saw = saw-byte d sound c.requires.every v spanned c.requires.forward c.requires.in_order bytes at byte low lt byte_is going.readable readable in
    record {
      low = omega arith;
      high = omega arith;
      going = (
        met,
        ahead-next d sound c.requires.forward v c.requires.in_order spanned bytes g.A.Automaton.holds c.args.dfa.now c.bytes.cache c.next_state.new.cache
            c.bytes.state c.in-Ok-next_state.next at met met byte low lt byte_is going held readable
            (c.is_special.ensures.live (next_key d key byte) held c.if-not-is_special.true)
            (sym (ap (λ ms. met_within (is_permitted d.nfa.utf8 v.haystack) ms at met) nothing)),
      );
      fills = fills-more d sound c.requires.every v spanned at low (omega arith) saw []
          (sym nothing ∙ next-tells d sound c.requires.every v spanned at byte low lt byte_is) (is_permitted d.nfa.utf8 v.haystack at) refl
          c.args.set.now c.bytes.set c.bytes.set (adds-nothing (is_permitted d.nfa.utf8 v.haystack at) c.bytes.set) c.bytes.invariant.fills;
      bytes = bytes;
      fits = c.in-Ok-next_state.ensures.fits;
    }

pub add_told-requires : goal.add_told-requires
add_told-requires g c =
    let d = g.A.Automaton.dfa c.args.dfa.now in
    let byte = slice_index c.haystack-haystack.result.now c.bytes.at in
    let key = key_ahead d c.args.input.now c.bytes.at in
    let room = c.requires.room in
    let same = c.bytes.invariant.fills.adds.kept.room in (
      next_key d key byte,
      c.in-Ok-next_state.ensures.next key c.bytes.invariant.going.1.held,
      below-room (length d.nfa.starts) (length c.bytes.set) (next_key d key byte).matches (omega arith) (next-below d c.is_utf8-utf8.ensures.sound key byte),
    )

pub is_dead-requires-in-bytes : goal.is_dead-requires-in-bytes
is_dead-requires-in-bytes g c =
    let d = g.A.Automaton.dfa c.args.dfa.now in
    let byte = slice_index c.haystack-haystack.result.now c.bytes.at in
    let key = key_ahead d c.args.input.now c.bytes.at in
    (next_key d key byte, c.in-Ok-next_state.ensures.next key c.bytes.invariant.going.1.held)

pub returns-then-is_dead-2-clause-adds : goal.returns-then-is_dead-2-clause-adds
returns-then-is_dead-2-clause-adds g c =
    let d = g.A.Automaton.dfa c.args.dfa.now in
    let v = c.args.input.now in
    let hay = c.haystack-haystack.ensures.value in
    let spanned = c.haystack-haystack.ensures.spanned.end in
    let bytes = c.bytes.invariant.bytes in
    let at = c.bytes.at in
    let byte = slice_index c.haystack-haystack.result.now at in
    let byte_is : byte ≡ slice_index v.haystack at = ap (λ t. slice_index t at) hay in
    let key = key_ahead d v at in
    let met = c.bytes.invariant.going.0 in
    let going = c.bytes.invariant.going.1 in
    let held = c.in-Ok-next_state.ensures.next key going.held in
    let readable = c.in-Ok-next_state.ensures.readable key going.held going.alive in
    let last : v.end ≡ c.end-end.result = sym c.end-end.ensures.value in
    let lt : at < v.end = omega arith in
    let low = c.bytes.invariant.low in
    let sound = c.is_utf8-utf8.ensures.sound in
    let room = c.requires.room in
    let same = c.bytes.invariant.fills.adds.kept.room in
    let few = next-few d sound key byte in
    let saw = saw-byte d sound c.requires.every v spanned c.requires.forward c.requires.in_order bytes at byte low lt byte_is going.readable readable in
    let may : is_permitted d.nfa.utf8 v.haystack at ≡ c.is_permitted_at-may.result =
    sym (c.is_permitted_at-may.ensures ∙ (λ j. is_permitted (c.is_utf8-utf8.ensures.value j) (hay j) at)) in
    let fills = fills-more d sound c.requires.every v spanned at low (omega arith) saw (next_key d key byte).matches
    (next-tells d sound c.requires.every v spanned at byte low lt byte_is) c.is_permitted_at-may.result may c.args.set.now c.bytes.set c.add_told.new.set
    (c.add_told.ensures (next_key d key byte) held (omega arith)) c.bytes.invariant.fills in
    fills.adds

pub returns-then-is_dead-2-clause-each : goal.returns-then-is_dead-2-clause-each
returns-then-is_dead-2-clause-each g c =
    let d = g.A.Automaton.dfa c.args.dfa.now in
    let v = c.args.input.now in
    let hay = c.haystack-haystack.ensures.value in
    let spanned = c.haystack-haystack.ensures.spanned.end in
    let bytes = c.bytes.invariant.bytes in
    let at = c.bytes.at in
    let byte = slice_index c.haystack-haystack.result.now at in
    let byte_is : byte ≡ slice_index v.haystack at = ap (λ t. slice_index t at) hay in
    let key = key_ahead d v at in
    let met = c.bytes.invariant.going.0 in
    let going = c.bytes.invariant.going.1 in
    let held = c.in-Ok-next_state.ensures.next key going.held in
    let readable = c.in-Ok-next_state.ensures.readable key going.held going.alive in
    let last : v.end ≡ c.end-end.result = sym c.end-end.ensures.value in
    let lt : at < v.end = omega arith in
    let low = c.bytes.invariant.low in
    let sound = c.is_utf8-utf8.ensures.sound in
    let room = c.requires.room in
    let same = c.bytes.invariant.fills.adds.kept.room in
    let few = next-few d sound key byte in
    let saw = saw-byte d sound c.requires.every v spanned c.requires.forward c.requires.in_order bytes at byte low lt byte_is going.readable readable in
    let may : is_permitted d.nfa.utf8 v.haystack at ≡ c.is_permitted_at-may.result =
    sym (c.is_permitted_at-may.ensures ∙ (λ j. is_permitted (c.is_utf8-utf8.ensures.value j) (hay j) at)) in
    let fills = fills-more d sound c.requires.every v spanned at low (omega arith) saw (next_key d key byte).matches
    (next-tells d sound c.requires.every v spanned at byte low lt byte_is) c.is_permitted_at-may.result may c.args.set.now c.bytes.set c.add_told.new.set
    (c.add_told.ensures (next_key d key byte) held (omega arith)) c.bytes.invariant.fills in
    let dead : is_dead (next_key d key byte) ≡ true = sym (c.is_dead-in-bytes.ensures (next_key d key byte) held) ∙ c.if-is_dead-2.true in
    let now = met_within (is_permitted d.nfa.utf8 v.haystack) (next_key d key byte).matches at met in
    let saw_all = saw-whole d sound c.requires.every v spanned c.requires.whole now
    (ahead-dead d sound c.requires.forward v c.requires.in_order spanned bytes g.A.Automaton.holds c.args.dfa.now c.bytes.cache c.bytes.state at met now byte low
    lt byte_is going readable dead refl) in
    (fills-dead d sound c.requires.every v spanned (at + 1) (omega arith) (next-dead d sound c.requires.every v spanned at byte low lt byte_is dead) saw_all
    c.args.set.now c.add_told.new.set fills).ends

pub returns-then-is_full-clause-adds : goal.returns-then-is_full-clause-adds
returns-then-is_full-clause-adds g c =
    let d = g.A.Automaton.dfa c.args.dfa.now in
    let v = c.args.input.now in
    let hay = c.haystack-haystack.ensures.value in
    let spanned = c.haystack-haystack.ensures.spanned.end in
    let bytes = c.bytes.invariant.bytes in
    let at = c.bytes.at in
    let byte = slice_index c.haystack-haystack.result.now at in
    let byte_is : byte ≡ slice_index v.haystack at = ap (λ t. slice_index t at) hay in
    let key = key_ahead d v at in
    let met = c.bytes.invariant.going.0 in
    let going = c.bytes.invariant.going.1 in
    let held = c.in-Ok-next_state.ensures.next key going.held in
    let readable = c.in-Ok-next_state.ensures.readable key going.held going.alive in
    let last : v.end ≡ c.end-end.result = sym c.end-end.ensures.value in
    let lt : at < v.end = omega arith in
    let low = c.bytes.invariant.low in
    let sound = c.is_utf8-utf8.ensures.sound in
    let room = c.requires.room in
    let same = c.bytes.invariant.fills.adds.kept.room in
    let few = next-few d sound key byte in
    let saw = saw-byte d sound c.requires.every v spanned c.requires.forward c.requires.in_order bytes at byte low lt byte_is going.readable readable in
    let may : is_permitted d.nfa.utf8 v.haystack at ≡ c.is_permitted_at-may.result =
    sym (c.is_permitted_at-may.ensures ∙ (λ j. is_permitted (c.is_utf8-utf8.ensures.value j) (hay j) at)) in
    let fills = fills-more d sound c.requires.every v spanned at low (omega arith) saw (next_key d key byte).matches
    (next-tells d sound c.requires.every v spanned at byte low lt byte_is) c.is_permitted_at-may.result may c.args.set.now c.bytes.set c.add_told.new.set
    (c.add_told.ensures (next_key d key byte) held (omega arith)) c.bytes.invariant.fills in
    fills.adds

pub returns-then-is_full-clause-each : goal.returns-then-is_full-clause-each
returns-then-is_full-clause-each g c =
    let d = g.A.Automaton.dfa c.args.dfa.now in
    let v = c.args.input.now in
    let hay = c.haystack-haystack.ensures.value in
    let spanned = c.haystack-haystack.ensures.spanned.end in
    let bytes = c.bytes.invariant.bytes in
    let at = c.bytes.at in
    let byte = slice_index c.haystack-haystack.result.now at in
    let byte_is : byte ≡ slice_index v.haystack at = ap (λ t. slice_index t at) hay in
    let key = key_ahead d v at in
    let met = c.bytes.invariant.going.0 in
    let going = c.bytes.invariant.going.1 in
    let held = c.in-Ok-next_state.ensures.next key going.held in
    let readable = c.in-Ok-next_state.ensures.readable key going.held going.alive in
    let last : v.end ≡ c.end-end.result = sym c.end-end.ensures.value in
    let lt : at < v.end = omega arith in
    let low = c.bytes.invariant.low in
    let sound = c.is_utf8-utf8.ensures.sound in
    let room = c.requires.room in
    let same = c.bytes.invariant.fills.adds.kept.room in
    let few = next-few d sound key byte in
    let saw = saw-byte d sound c.requires.every v spanned c.requires.forward c.requires.in_order bytes at byte low lt byte_is going.readable readable in
    let may : is_permitted d.nfa.utf8 v.haystack at ≡ c.is_permitted_at-may.result =
    sym (c.is_permitted_at-may.ensures ∙ (λ j. is_permitted (c.is_utf8-utf8.ensures.value j) (hay j) at)) in
    let fills = fills-more d sound c.requires.every v spanned at low (omega arith) saw (next_key d key byte).matches
    (next-tells d sound c.requires.every v spanned at byte low lt byte_is) c.is_permitted_at-may.result may c.args.set.now c.bytes.set c.add_told.new.set
    (c.add_told.ensures (next_key d key byte) held (omega arith)) c.bytes.invariant.fills in
    let new_room = fills.adds.kept.room in
    (fills-full d.nfa v (at + 1) (v.end + 1) c.args.set.now c.add_told.new.set (omega arith) (c.is_full.ensures.0 c.if-is_full.true) fills).ends

pub bytes-preserved : goal.bytes-preserved
bytes-preserved g c =
    let d = g.A.Automaton.dfa c.args.dfa.now in
    let v = c.args.input.now in
    let hay = c.haystack-haystack.ensures.value in
    let spanned = c.haystack-haystack.ensures.spanned.end in
    let bytes = c.bytes.invariant.bytes in
    let at = c.bytes.at in
    let byte = slice_index c.haystack-haystack.result.now at in
    let byte_is : byte ≡ slice_index v.haystack at = ap (λ t. slice_index t at) hay in
    let key = key_ahead d v at in
    let met = c.bytes.invariant.going.0 in
    let going = c.bytes.invariant.going.1 in
    let held = c.in-Ok-next_state.ensures.next key going.held in
    let readable = c.in-Ok-next_state.ensures.readable key going.held going.alive in
    let last : v.end ≡ c.end-end.result = sym c.end-end.ensures.value in
    let lt : at < v.end = omega arith in
    let low = c.bytes.invariant.low in
    let sound = c.is_utf8-utf8.ensures.sound in
    let room = c.requires.room in
    let same = c.bytes.invariant.fills.adds.kept.room in
    let few = next-few d sound key byte in
    let saw = saw-byte d sound c.requires.every v spanned c.requires.forward c.requires.in_order bytes at byte low lt byte_is going.readable readable in
    let may : is_permitted d.nfa.utf8 v.haystack at ≡ c.is_permitted_at-may.result =
    sym (c.is_permitted_at-may.ensures ∙ (λ j. is_permitted (c.is_utf8-utf8.ensures.value j) (hay j) at)) in
    let fills = fills-more d sound c.requires.every v spanned at low (omega arith) saw (next_key d key byte).matches
    (next-tells d sound c.requires.every v spanned at byte low lt byte_is) c.is_permitted_at-may.result may c.args.set.now c.bytes.set c.add_told.new.set
    (c.add_told.ensures (next_key d key byte) held (omega arith)) c.bytes.invariant.fills in
    let now = met_within (is_permitted d.nfa.utf8 v.haystack) (next_key d key byte).matches at met in
    record {
      low = omega arith;
      high = omega arith;
      going = (
        now,
        ahead-next d sound c.requires.forward v c.requires.in_order spanned bytes g.A.Automaton.holds c.args.dfa.now c.bytes.cache c.next_state.new.cache
            c.bytes.state c.in-Ok-next_state.next at met now byte low lt byte_is going held readable
            (sym (c.is_dead-in-bytes.ensures (next_key d key byte) held) ∙ c.if-is_dead-2.false) refl,
      );
      fills = fills;
      bytes = bytes;
      fits = c.in-Ok-next_state.ensures.fits;
    }

pub returns-in-Err-next_state-clause-adds : goal.returns-in-Err-next_state-clause-adds
returns-in-Err-next_state-clause-adds g c = c.bytes.invariant.fills.adds

pub returns-in-Err-last_state-clause-adds : goal.returns-in-Err-last_state-clause-adds
returns-in-Err-last_state-clause-adds g c = c.bytes.invariant.fills.adds

pub returns-in-Err-last_state-clause-err : goal.returns-in-Err-last_state-clause-err
returns-in-Err-last_state-clause-err g c =
    let d = g.A.Automaton.dfa c.args.dfa.now in
    let v = c.args.input.now in
    let hay = c.haystack-haystack.ensures.value in
    let end = c.end-end.result in
    let order = c.requires.in_order in
    let last : end ≡ v.end = c.end-end.ensures.value in
    let got : c.byte_after-byte.result ≡ slice_get v.haystack end = c.byte_after-byte.ensures ∙ ap (λ t. slice_get t end) hay in
    start-fails d.nfa v c.byte_after-byte.result end end (g.A.Automaton.gives_up c.args.dfa.now c.last_state.new.cache) (g.A.Automaton.wants c.args.dfa.now)
    c.in-Err-last_state.error (omega arith) (omega arith) (omega arith) (omega arith) (λ b is. sym got ∙ is) c.in-Err-last_state.ensures.err

pub add_told-requires-2 : goal.add_told-requires-2
add_told-requires-2 g c =
    let d = g.A.Automaton.dfa c.args.dfa.now in
    let v = c.args.input.now in
    let key = key_ahead d v c.bytes.at in
    let last = c.in-Ok-last_state.ensures.last key c.bytes.invariant.going.1.held in
    let room = c.requires.room in
    let same = c.bytes.invariant.fills.adds.kept.room in (
      last.0,
      last.1,
      below-room (length d.nfa.starts) (length c.bytes.set) last.0.matches (omega arith)
          (subst (AreBelow (length d.nfa.starts)) (sym last.2) (end-below d c.is_utf8-utf8.ensures.sound key c.byte_after-byte.result)),
    )

pub returns-clause-adds : goal.returns-clause-adds
returns-clause-adds g c =
    let d = g.A.Automaton.dfa c.args.dfa.now in
    let v = c.args.input.now in
    let hay = c.haystack-haystack.ensures.value in
    let spanned = c.haystack-haystack.ensures.spanned.end in
    let bytes = c.bytes.invariant.bytes in
    let sound = c.is_utf8-utf8.ensures.sound in
    let end_is : c.end-end.result ≡ v.end = c.end-end.ensures.value in
    let at_end : c.bytes.at ≡ v.end = (let high = c.bytes.invariant.high in omega arith) in
    let key = key_ahead d v c.bytes.at in
    let going = c.bytes.invariant.going.1 in
    let last = c.in-Ok-last_state.ensures.last key going.held in
    let got : c.byte_after-byte.result ≡ byte_after v.haystack v.end = c.byte_after-byte.ensures ∙ (λ j. slice_get (hay j) (end_is j)) in
    let readable = subst (IsReadable d.nfa) got (c.in-Ok-last_state.ensures.readable key going.held going.alive) in
    let saw = saw-end d sound c.requires.every v spanned c.requires.forward c.requires.in_order bytes
    (subst (λ (e : ℕ). (j : ℕ) → v.start ≤ j → j ≤ e → IsReadable d.nfa (byte_before v.haystack j)) at_end going.readable) readable in
    let told : last.0.matches ≡ (end_of d (key_ahead d v v.end) (byte_after v.haystack v.end)).matches =
    last.2 ∙ (λ j. (end_of d (key_ahead d v (at_end j)) (got j)).matches) in
    let may : is_permitted d.nfa.utf8 v.haystack v.end ≡ c.is_permitted_at-may_end.result =
    sym (c.is_permitted_at-may_end.ensures ∙ (λ j. is_permitted (c.is_utf8-utf8.ensures.value j) (hay j) (end_is j))) in
    let room = c.requires.room in
    let same = c.bytes.invariant.fills.adds.kept.room in
    let few : length last.0.matches ≤ length d.nfa.starts =
    subst (λ (ms : List ℕ). length ms ≤ length d.nfa.starts) (sym told) (end-few d sound (key_ahead d v v.end) (byte_after v.haystack v.end)) in
    let fills = fills-more d sound c.requires.every v spanned v.end c.requires.in_order (omega arith) saw last.0.matches told c.is_permitted_at-may_end.result may
    c.args.set.now c.bytes.set c.add_told-2.new.set (c.add_told-2.ensures last.0 last.1 (omega arith))
    (subst (λ e. FillsTo d.nfa v e c.args.set.now c.bytes.set) at_end c.bytes.invariant.fills) in
    fills.adds

pub returns-clause-each : goal.returns-clause-each
returns-clause-each g c =
    let d = g.A.Automaton.dfa c.args.dfa.now in
    let v = c.args.input.now in
    let hay = c.haystack-haystack.ensures.value in
    let spanned = c.haystack-haystack.ensures.spanned.end in
    let bytes = c.bytes.invariant.bytes in
    let sound = c.is_utf8-utf8.ensures.sound in
    let end_is : c.end-end.result ≡ v.end = c.end-end.ensures.value in
    let at_end : c.bytes.at ≡ v.end = (let high = c.bytes.invariant.high in omega arith) in
    let key = key_ahead d v c.bytes.at in
    let going = c.bytes.invariant.going.1 in
    let last = c.in-Ok-last_state.ensures.last key going.held in
    let got : c.byte_after-byte.result ≡ byte_after v.haystack v.end = c.byte_after-byte.ensures ∙ (λ j. slice_get (hay j) (end_is j)) in
    let readable = subst (IsReadable d.nfa) got (c.in-Ok-last_state.ensures.readable key going.held going.alive) in
    let saw = saw-end d sound c.requires.every v spanned c.requires.forward c.requires.in_order bytes
    (subst (λ (e : ℕ). (j : ℕ) → v.start ≤ j → j ≤ e → IsReadable d.nfa (byte_before v.haystack j)) at_end going.readable) readable in
    let told : last.0.matches ≡ (end_of d (key_ahead d v v.end) (byte_after v.haystack v.end)).matches =
    last.2 ∙ (λ j. (end_of d (key_ahead d v (at_end j)) (got j)).matches) in
    let may : is_permitted d.nfa.utf8 v.haystack v.end ≡ c.is_permitted_at-may_end.result =
    sym (c.is_permitted_at-may_end.ensures ∙ (λ j. is_permitted (c.is_utf8-utf8.ensures.value j) (hay j) (end_is j))) in
    let room = c.requires.room in
    let same = c.bytes.invariant.fills.adds.kept.room in
    let few : length last.0.matches ≤ length d.nfa.starts =
    subst (λ (ms : List ℕ). length ms ≤ length d.nfa.starts) (sym told) (end-few d sound (key_ahead d v v.end) (byte_after v.haystack v.end)) in
    let fills = fills-more d sound c.requires.every v spanned v.end c.requires.in_order (omega arith) saw last.0.matches told c.is_permitted_at-may_end.result may
    c.args.set.now c.bytes.set c.add_told-2.new.set (c.add_told-2.ensures last.0 last.1 (omega arith))
    (subst (λ e. FillsTo d.nfa v e c.args.set.now c.bytes.set) at_end c.bytes.invariant.fills) in
    fills.ends

pub start_forward-requires : goal.start_forward-requires
start_forward-requires g c = c.requires.fits

pub is_dead-requires : goal.is_dead-requires
is_dead-requires g c =
    let v = c.args.input.now in
    (first_key (g.A.Automaton.dfa c.args.dfa.now) v.anchor (byte_before v.haystack v.start), c.in-Ok.ensures.start)

pub next_state-requires-clause-fits : goal.next_state-requires-clause-fits
next_state-requires-clause-fits g c = c.bytes.invariant.fits

pub next_state-requires-clause-held : goal.next_state-requires-clause-held
next_state-requires-clause-held g c = (key_ahead (g.A.Automaton.dfa c.args.dfa.now) c.args.input.now c.bytes.at, c.bytes.invariant.going.1.held)

pub last_state-requires-clause-fits : goal.last_state-requires-clause-fits
last_state-requires-clause-fits g c = c.bytes.invariant.fits

pub last_state-requires-clause-held : goal.last_state-requires-clause-held
last_state-requires-clause-held g c = (key_ahead (g.A.Automaton.dfa c.args.dfa.now) c.args.input.now c.bytes.at, c.bytes.invariant.going.1.held)

pub returns-in-Err-clause-fits : goal.returns-in-Err-clause-fits
returns-in-Err-clause-fits g c = c.in-Err.ensures.fits

pub returns-in-Err-next_state-clause-fits : goal.returns-in-Err-next_state-clause-fits
returns-in-Err-next_state-clause-fits g c = c.in-Err-next_state.ensures.fits

pub returns-in-Err-last_state-clause-fits : goal.returns-in-Err-last_state-clause-fits
returns-in-Err-last_state-clause-fits g c = c.in-Err-last_state.ensures.fits

pub returns-clause-fits : goal.returns-clause-fits
returns-clause-fits g c = c.in-Ok-last_state.ensures.fits

pub returns-clause-err : goal.returns-clause-err
returns-clause-err g c = tt

pub returns-then-is_dead-clause-fits : goal.returns-then-is_dead-clause-fits
returns-then-is_dead-clause-fits g c = c.in-Ok.ensures.fits

pub returns-then-is_dead-2-clause-fits : goal.returns-then-is_dead-2-clause-fits
returns-then-is_dead-2-clause-fits g c = c.in-Ok-next_state.ensures.fits

pub returns-then-is_full-clause-fits : goal.returns-then-is_full-clause-fits
returns-then-is_full-clause-fits g c = c.in-Ok-next_state.ensures.fits

pub returns-then-is_dead-clause-err : goal.returns-then-is_dead-clause-err
returns-then-is_dead-clause-err g c = tt

pub returns-then-is_dead-2-clause-err : goal.returns-then-is_dead-2-clause-err
returns-then-is_dead-2-clause-err g c = tt

pub returns-then-is_full-clause-err : goal.returns-then-is_full-clause-err
returns-then-is_full-clause-err g c = tt

pub bytes-smaller : goal.bytes-smaller
bytes-smaller g c = omega (arith, c.bytes-test.true, c.end-end.ensures.value)

pub bytes-smaller-then-not-is_special : goal.bytes-smaller-then-not-is_special
bytes-smaller-then-not-is_special g c = omega (arith, c.bytes-test.true, c.end-end.ensures.value)

pub bounds-haystack-at : goal.bounds-haystack-at
bounds-haystack-at g c =
    let whole : length c.haystack-haystack.result.now ≡ length c.args.input.now.haystack = ap length c.haystack-haystack.ensures.value in
    omega (arith, whole, c.haystack-haystack.ensures.spanned.end, c.end-end.ensures.value, c.bytes-test.true)

pub is_permitted_at-may-requires : goal.is_permitted_at-may-requires
is_permitted_at-may-requires g c =
    let whole : length c.haystack-haystack.result.now ≡ length c.args.input.now.haystack = ap length c.haystack-haystack.ensures.value in
    omega (arith, whole, c.haystack-haystack.ensures.spanned.end, c.end-end.ensures.value, c.bytes-test.true)

pub is_permitted_at-may_end-requires : goal.is_permitted_at-may_end-requires
is_permitted_at-may_end-requires g c =
    let whole : length c.haystack-haystack.result.now ≡ length c.args.input.now.haystack = ap length c.haystack-haystack.ensures.value in
    omega (arith, whole, c.haystack-haystack.ensures.spanned.end, c.end-end.ensures.value)

pub returns-in-Err-clause-each : goal.returns-in-Err-clause-each
returns-in-Err-clause-each g c = tt

pub returns-in-Err-next_state-clause-each : goal.returns-in-Err-next_state-clause-each
returns-in-Err-next_state-clause-each g c = tt

pub returns-in-Err-last_state-clause-each : goal.returns-in-Err-last_state-clause-each
returns-in-Err-last_state-clause-each g c = tt

pub overflow_add-at : goal.overflow_add-at
overflow_add-at g c = omega (arith, c.bytes-test.true, c.end-end.type_inv)

pub overflow_add-at-in-bytes : goal.overflow_add-at-in-bytes
overflow_add-at-in-bytes g c = omega (arith, c.bytes-test.true, c.end-end.type_inv)
