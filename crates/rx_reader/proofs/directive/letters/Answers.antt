use Rattle.std.proofs.Common.{arith, ◌≡◌, ◌≤◌, ◌++◌, length, true, false, ℕ, List, ◌∙◌, ap, sym, not, ◌&&◌, append-nil}
use Rattle.std.proofs.lemmas.Grind.{common_steps}
use Rattle.std.proofs.lemmas.List.{drop_all, length_push}
use Rattle.std.proofs.lemmas.Iterator.{YieldsList-from_chars}
use Rattle.std.proofs.lemmas.Iterator.Consumers.{YieldsList-turn, YieldsList-end}
use Rattle.std.specs.Prelude.{chars}
use Rattle.rx_reader.specs.Flags.{is_letter, has}
use Rattle.rx_reader.proofs.lemmas.places.CharsLemmas.{turn-at}
use Rattle.rx_reader.proofs.lemmas.places.FrontLemmas.{letters_go, letters_stop, letters_end, letters_more}
use Rattle.rx_reader.proofs.directive.letters.Goals as goal

pub returns-then-not-is_letter : goal.returns-then-not-is_letter
returns-then-not-is_letter c =
    let l = c.loop-c in
    let t = chars c.args.text.now in
    let ch = c.in-Some.c in
    let named = l.named.items in
    let at = turn-at t (length named) (length l.yielded) ch l.invariant.place
    (YieldsList-turn (YieldsList-from_chars c.args.text.now c.utf8.text cc) l.yielded _ l.yielded_by _ _ ch c.in-Some.is c.next.ensures.steps) in
    let other : (is_letter ch && not (has ch named)) ≡ false = grind (arith, common_steps) in
    sym (l.invariant.so_far ∙ ap (λ (xs : List ℕ). named ++ xs) (letters_stop named t (length named) ch at.0 at.1 other) ∙ append-nil named)

pub returns-then-contains : goal.returns-then-contains
returns-then-contains c =
    let l = c.loop-c in
    let t = chars c.args.text.now in
    let ch = c.in-Some.c in
    let named = l.named.items in
    let at = turn-at t (length named) (length l.yielded) ch l.invariant.place
    (YieldsList-turn (YieldsList-from_chars c.args.text.now c.utf8.text cc) l.yielded _ l.yielded_by _ _ ch c.in-Some.is c.next.ensures.steps) in
    let stood : has ch named ≡ true = ap (has ch) (sym c.deref.ensures.value) ∙ sym c.contains.ensures.value ∙ c.if-contains.true in
    let other : (is_letter ch && not (has ch named)) ≡ false = rw stood (grind (arith, common_steps)) in
    sym (l.invariant.so_far ∙ ap (λ (xs : List ℕ). named ++ xs) (letters_stop named t (length named) ch at.0 at.1 other) ∙ append-nil named)

pub loop-c-preserved : goal.loop-c-preserved
loop-c-preserved c =
    let l = c.loop-c in
    let t = chars c.args.text.now in
    let ch = c.in-Some.c in
    let named = l.named.items in
    let at = turn-at t (length named) (length l.yielded) ch l.invariant.place
    (YieldsList-turn (YieldsList-from_chars c.args.text.now c.utf8.text cc) l.yielded _ l.yielded_by _ _ ch c.in-Some.is c.next.ensures.steps) in
    let letter : is_letter ch ≡ true = grind (arith, common_steps) in
    let fresh : has ch named ≡ false = ap (has ch) (sym c.deref.ensures.value) ∙ sym c.contains.ensures.value ∙ c.if-contains.false in
    record {
      place = omega (arith, ap (λ (xs : List ℕ). length xs) c.in_ok-push.ensures.items, length_push named ch, l.invariant.place, length_push l.yielded ch);
      so_far = letters_more _ named _ t ch l.invariant.so_far (letters_go named t (length named) ch at.0 at.1 letter fresh) c.in_ok-push.ensures.items;
    }

pub returns : goal.returns
returns c =
    let l = c.loop-c in
    let t = chars c.args.text.now in
    let end = YieldsList-end (YieldsList-from_chars c.args.text.now c.utf8.text cc) l.yielded _ l.yielded_by _ _ c.in-None.is c.next.ensures.steps in
    let all : length t ≤ length l.named.items = omega (arith, end.1, l.invariant.place) in
    let named = l.named.items in
    sym (l.invariant.so_far ∙ ap (λ (xs : List ℕ). named ++ xs) (letters_end named _ (drop_all (length named) t all)) ∙ append-nil named)
