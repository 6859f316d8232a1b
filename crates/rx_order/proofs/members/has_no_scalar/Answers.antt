use Rattle.std.proofs.Common.{◌≡◌, ◌≤◌, length, true, false, ap, sym, ◌∙◌, arith}
use Rattle.std.specs.Prelude.{not, chars}
use Rattle.std.proofs.lemmas.Iterator.{YieldsList-from_chars}
use Rattle.std.proofs.lemmas.Iterator.Consumers.{YieldsList-turn, YieldsList-end}
use Rattle.std.proofs.lemmas.List.{length_push}
use Rattle.rx_model.specs.Text.{is_member}
use Rattle.rx_order.proofs.lemmas.LoopLemmas.{all-no, all-yes, all-past}
use Rattle.rx_order.proofs.members.has_no_scalar.Goals as goal

pub returns-then-has_scalar : goal.returns-then-has_scalar
returns-then-has_scalar c =
    let l = c.loop-c in
    let t = chars c.args.text.now in
    let ch = c.in-Some.c in
    let at = YieldsList-turn (YieldsList-from_chars c.args.text.now c.utf8.text cc) l.yielded _ l.yielded_by _ _ ch c.in-Some.is c.next.ensures.steps in
    let test : not (is_member c.args.ranges.now ch) ≡ false = ap not (sym c.has_scalar.ensures ∙ c.if-has_scalar.true) in
    sym (all-no (λ d. not (is_member c.args.ranges.now d)) t (length l.yielded) ch at.0 at.1 test) ∙ l.invariant

pub loop-c-preserved : goal.loop-c-preserved
loop-c-preserved c =
    let l = c.loop-c in
    let t = chars c.args.text.now in
    let ch = c.in-Some.c in
    let at = YieldsList-turn (YieldsList-from_chars c.args.text.now c.utf8.text cc) l.yielded _ l.yielded_by _ _ ch c.in-Some.is c.next.ensures.steps in
    let test : not (is_member c.args.ranges.now ch) ≡ true = ap not (sym c.has_scalar.ensures ∙ c.if-has_scalar.false) in
    rw (length_push l.yielded ch) (sym (all-yes (λ d. not (is_member c.args.ranges.now d)) t (length l.yielded) ch at.0 at.1 test) ∙ l.invariant)

pub returns : goal.returns
returns c =
    let l = c.loop-c in
    let t = chars c.args.text.now in
    let end = YieldsList-end (YieldsList-from_chars c.args.text.now c.utf8.text cc) l.yielded _ l.yielded_by _ _ c.in-None.is c.next.ensures.steps in
    let all : length t ≤ length l.yielded = omega (arith, end.1) in
    sym (all-past (λ d. not (is_member c.args.ranges.now d)) t (length l.yielded) all) ∙ l.invariant
