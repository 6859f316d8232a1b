use Rattle.std.proofs.Common.{arith, ◌≡◌, ◌≤◌, length, take, drop, [], true, false, ◌∙◌, ap, sym}
use Rattle.std.proofs.lemmas.Grind.{common_steps}
use Rattle.std.proofs.lemmas.List.{drop_all, length_push}
use Rattle.std.proofs.lemmas.Iterator.{YieldsList-from_chars}
use Rattle.std.proofs.lemmas.Iterator.Consumers.{YieldsList-turn, YieldsList-end}
use Rattle.std.specs.Prelude.{chars}
use Rattle.std.specs.List.{take_while}
use Rattle.std.specs.Char.{is_ascii_digit}
use Rattle.rx_reader.specs.Counts.{within, numeral}
use Rattle.rx_reader.proofs.lemmas.places.CharsLemmas.{turn-at}
use Rattle.rx_reader.proofs.lemmas.places.FrontLemmas.{front_goes, front_stops, front_len, while_goes, while_stops, numeral_more}
use Rattle.rx_reader.proofs.operator.digits_of.Goals as goal

pub returns-then-not-is_ascii_digit-clause-len : goal.returns-then-not-is_ascii_digit-clause-len
returns-then-not-is_ascii_digit-clause-len c =
    let l = c.loop-c in
    let t = chars c.args.text.now in
    let ch = c.in-Some.c in
    let at = turn-at t l.len (length l.yielded) ch l.invariant.place
    (YieldsList-turn (YieldsList-from_chars c.args.text.now c.utf8.text cc) l.yielded _ l.yielded_by _ _ ch c.in-Some.is c.next.ensures.steps) in
    let stops : is_ascii_digit ch ≡ false = grind (arith, common_steps) in
    let taken : take l.len t ≡ take_while is_ascii_digit t =
    front_stops t _ _ l.len l.invariant.so_far (while_stops is_ascii_digit t l.len ch at.0 at.1 stops) in
    front_len t _ l.len taken (omega (arith, at.0))

pub returns-then-not-is_ascii_digit-clause-value : goal.returns-then-not-is_ascii_digit-clause-value
returns-then-not-is_ascii_digit-clause-value c =
    let l = c.loop-c in
    let t = chars c.args.text.now in
    let ch = c.in-Some.c in
    let at = turn-at t l.len (length l.yielded) ch l.invariant.place
    (YieldsList-turn (YieldsList-from_chars c.args.text.now c.utf8.text cc) l.yielded _ l.yielded_by _ _ ch c.in-Some.is c.next.ensures.steps) in
    let stops : is_ascii_digit ch ≡ false = grind (arith, common_steps) in
    let taken : take l.len t ≡ take_while is_ascii_digit t =
    front_stops t _ _ l.len l.invariant.so_far (while_stops is_ascii_digit t l.len ch at.0 at.1 stops) in
    l.invariant.written ∙ ap (λ ds. within (numeral ds)) taken

pub loop-c-preserved : goal.loop-c-preserved
loop-c-preserved c =
    let l = c.loop-c in
    let t = chars c.args.text.now in
    let ch = c.in-Some.c in
    let at = turn-at t l.len (length l.yielded) ch l.invariant.place
    (YieldsList-turn (YieldsList-from_chars c.args.text.now c.utf8.text cc) l.yielded _ l.yielded_by _ _ ch c.in-Some.is c.next.ensures.steps) in
    let goes : is_ascii_digit ch ≡ true = grind (arith, common_steps) in
    record {
      place = omega (arith, l.invariant.place, length_push l.yielded ch);
      so_far = front_goes t _ _ _ l.len ch at.0 at.1 l.invariant.so_far (while_goes is_ascii_digit t l.len ch at.0 at.1 goes);
      written = c.with_digit-value.ensures (numeral (take l.len t)) l.invariant.written ∙ ap within (sym (numeral_more t l.len ch at.0 at.1));
    }

pub returns-clause-len : goal.returns-clause-len
returns-clause-len c =
    let l = c.loop-c in
    let t = chars c.args.text.now in
    let end = YieldsList-end (YieldsList-from_chars c.args.text.now c.utf8.text cc) l.yielded _ l.yielded_by _ _ c.in-None.is c.next.ensures.steps in
    let all : length t ≤ l.len = omega (arith, end.1, l.invariant.place) in
    let none : take_while is_ascii_digit (drop l.len t) ≡ [] = ap (take_while is_ascii_digit) (drop_all l.len t all) in
    let taken : take l.len t ≡ take_while is_ascii_digit t = front_stops t _ _ l.len l.invariant.so_far none in
    front_len t _ l.len taken (omega (arith, end.1, l.invariant.place))

pub returns-clause-value : goal.returns-clause-value
returns-clause-value c =
    let l = c.loop-c in
    let t = chars c.args.text.now in
    let end = YieldsList-end (YieldsList-from_chars c.args.text.now c.utf8.text cc) l.yielded _ l.yielded_by _ _ c.in-None.is c.next.ensures.steps in
    let all : length t ≤ l.len = omega (arith, end.1, l.invariant.place) in
    let none : take_while is_ascii_digit (drop l.len t) ≡ [] = ap (take_while is_ascii_digit) (drop_all l.len t all) in
    let taken : take l.len t ≡ take_while is_ascii_digit t = front_stops t _ _ l.len l.invariant.so_far none in
    l.invariant.written ∙ ap (λ ds. within (numeral ds)) taken
