use Rattle.std.proofs.Common.{arith, ◌≡◌, ◌≤◌, ◌+◌, length, drop, true, false, refl, sym}
use Rattle.std.proofs.lemmas.Grind.{common_steps}
use Rattle.std.proofs.lemmas.List.{drop_all, length_push}
use Rattle.std.proofs.lemmas.Option.{slice_get_read}
use Rattle.std.proofs.lemmas.Iterator.{YieldsList-from_chars}
use Rattle.std.proofs.lemmas.Iterator.Consumers.{YieldsList-turn, YieldsList-end}
use Rattle.std.specs.Prelude.{chars}
use Rattle.rx_reader.specs.Ahead.{is_blank, is_commented, blank_len}
use Rattle.rx_reader.proofs.lemmas.places.CharsLemmas.{turn-at, none-at}
use Rattle.rx_reader.proofs.lemmas.places.FrontLemmas.{blank_goes, blank_stops, blank_ends}
use Rattle.rx_reader.proofs.cursor.ahead.blank_gap.Goals as goal

pub returns-then-not-is_blank-clause-len : goal.returns-then-not-is_blank-clause-len
returns-then-not-is_blank-clause-len c =
    let l = c.loop-c in
    let t = chars c.args.text.now in
    let ch = c.in-Some.c in
    let at = turn-at t l.len (length l.yielded) ch l.invariant.place
    (YieldsList-turn (YieldsList-from_chars c.args.text.now c.utf8.text cc) l.yielded _ l.yielded_by _ _ ch c.in-Some.is c.next.ensures.steps) in
    let stops : is_blank l.in_comment ch ≡ false = grind (arith, common_steps) in
    let none : blank_len l.in_comment (drop l.len t) ≡ 0 = blank_stops l.in_comment t l.len ch at.0 at.1 stops in
    omega (arith, l.invariant.so_far, none)

pub returns-then-not-is_blank-clause-next : goal.returns-then-not-is_blank-clause-next
returns-then-not-is_blank-clause-next c =
    let l = c.loop-c in
    let t = chars c.args.text.now in
    let ch = c.in-Some.c in
    let at = turn-at t l.len (length l.yielded) ch l.invariant.place
    (YieldsList-turn (YieldsList-from_chars c.args.text.now c.utf8.text cc) l.yielded _ l.yielded_by _ _ ch c.in-Some.is c.next.ensures.steps) in
    sym (slice_get_read t (length t) l.len ch refl at.0 at.1)

pub loop-c-preserved : goal.loop-c-preserved
loop-c-preserved c =
    let l = c.loop-c in
    let t = chars c.args.text.now in
    let ch = c.in-Some.c in
    let at = turn-at t l.len (length l.yielded) ch l.invariant.place
    (YieldsList-turn (YieldsList-from_chars c.args.text.now c.utf8.text cc) l.yielded _ l.yielded_by _ _ ch c.in-Some.is c.next.ensures.steps) in
    let goes : is_blank l.in_comment ch ≡ true = grind (arith, common_steps) in
    let one : blank_len l.in_comment (drop l.len t) ≡ 1 + blank_len (is_commented l.in_comment ch) (drop (l.len + 1) t) =
    blank_goes l.in_comment t l.len ch at.0 at.1 goes in
    record {
      place = omega (arith, l.invariant.place, length_push l.yielded ch);
      so_far = rw c.is_commented-in_comment.ensures (omega (arith, l.invariant.so_far, one));
    }

pub returns-clause-len : goal.returns-clause-len
returns-clause-len c =
    let l = c.loop-c in
    let t = chars c.args.text.now in
    let end = YieldsList-end (YieldsList-from_chars c.args.text.now c.utf8.text cc) l.yielded _ l.yielded_by _ _ c.in-None.is c.next.ensures.steps in
    let all : length t ≤ l.len = omega (arith, end.1, l.invariant.place) in
    let none : blank_len l.in_comment (drop l.len t) ≡ 0 = blank_ends l.in_comment (drop l.len t) (drop_all l.len t all) in
    omega (arith, l.invariant.so_far, none)

pub returns-clause-next : goal.returns-clause-next
returns-clause-next c =
    let l = c.loop-c in
    let t = chars c.args.text.now in
    let end = YieldsList-end (YieldsList-from_chars c.args.text.now c.utf8.text cc) l.yielded _ l.yielded_by _ _ c.in-None.is c.next.ensures.steps in
    let all : length t ≤ l.len = omega (arith, end.1, l.invariant.place) in
    sym (none-at t l.len all)
