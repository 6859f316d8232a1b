use Rattle.std.proofs.Common.{arith, ◌≡◌, ◌≤◌, ◌==◌, ◌++◌, length, true, false, ℕ, List, ◌∙◌, ap, sym, refl, append-nil}
use Rattle.std.proofs.lemmas.List.{drop_all, length_push}
use Rattle.std.proofs.lemmas.Iterator.{YieldsList-from_chars}
use Rattle.std.proofs.lemmas.Iterator.Consumers.{YieldsList-turn, YieldsList-end}
use Rattle.std.specs.Prelude.{chars, vec_len}
use Rattle.rx_sets.specs.Capture.{is_capture_char}
use Rattle.rx_reader.proofs.lemmas.places.CharsLemmas.{turn-at}
use Rattle.rx_reader.proofs.lemmas.places.FrontLemmas.{name_from_start, name_goes, name_stops, name_ends, name_more}
use Rattle.rx_reader.proofs.name.name_of.Goals as goal

pub loop-c-init : goal.loop-c-init
loop-c-init c = rw c.new-name.ensures.items (record { place = refl; so_far = name_from_start (chars c.args.text.now) })

pub returns-then-not-is_capture_char : goal.returns-then-not-is_capture_char
returns-then-not-is_capture_char c =
    let l = c.loop-c in
    let t = chars c.args.text.now in
    let ch = c.in-Some.c in
    let name = l.name.items in
    let at = turn-at t (length name) (length l.yielded) ch l.invariant.place
    (YieldsList-turn (YieldsList-from_chars c.args.text.now c.utf8.text cc) l.yielded _ l.yielded_by _ _ ch c.in-Some.is c.next.ensures.steps) in
    let long : vec_len l.name ≡ length name = omega (arith, l.name.ok.0) in
    let stops : is_capture_char ch (length name == 0) ≡ false =
    ap (λ (n : ℕ). is_capture_char ch (n == 0)) (sym long) ∙ ap (is_capture_char ch) (sym c.is_empty.ensures)
    ∙ sym c.is_capture_char.ensures ∙ c.if-not-is_capture_char.true in
    sym (l.invariant.so_far ∙ ap (λ (xs : List ℕ). name ++ xs) (name_stops (length name == 0) t (length name) ch at.0 at.1 stops) ∙ append-nil name)

pub loop-c-preserved : goal.loop-c-preserved
loop-c-preserved c =
    let l = c.loop-c in
    let t = chars c.args.text.now in
    let ch = c.in-Some.c in
    let name = l.name.items in
    let at = turn-at t (length name) (length l.yielded) ch l.invariant.place
    (YieldsList-turn (YieldsList-from_chars c.args.text.now c.utf8.text cc) l.yielded _ l.yielded_by _ _ ch c.in-Some.is c.next.ensures.steps) in
    let long : vec_len l.name ≡ length name = omega (arith, l.name.ok.0) in
    let goes : is_capture_char ch (length name == 0) ≡ true =
    ap (λ (n : ℕ). is_capture_char ch (n == 0)) (sym long) ∙ ap (is_capture_char ch) (sym c.is_empty.ensures)
    ∙ sym c.is_capture_char.ensures ∙ c.if-not-is_capture_char.false in
    record {
      place = omega (arith, ap (λ (xs : List ℕ). length xs) c.in_ok-push.ensures.items, length_push name ch, l.invariant.place, length_push l.yielded ch);
      so_far = name_more _ name _ t ch l.invariant.so_far (name_goes (length name == 0) t (length name) ch at.0 at.1 goes) c.in_ok-push.ensures.items;
    }

pub returns : goal.returns
returns c =
    let l = c.loop-c in
    let t = chars c.args.text.now in
    let end = YieldsList-end (YieldsList-from_chars c.args.text.now c.utf8.text cc) l.yielded _ l.yielded_by _ _ c.in-None.is c.next.ensures.steps in
    let all : length t ≤ length l.name.items = omega (arith, end.1, l.invariant.place) in
    let name = l.name.items in
    sym (l.invariant.so_far ∙ ap (λ (xs : List ℕ). name ++ xs) (name_ends (length name == 0) _ (drop_all (length name) t all)) ∙ append-nil name)
