use Rattle.std.proofs.Common.{arith, ◌≡◌, sym, subst}
use Rattle.std.proofs.lemmas.Grind.{common_steps}
use Rattle.rx_reader.specs.Input.{place, Reads}
use Rattle.rx_reader.proofs.lemmas.places.ReadsLemmas.{refuses_from, refuses}
use Rattle.rx_reader.specs.Classes.{class_range, member, range_of}
use Rattle.rx_reader.proofs.class.class_range.Goals as goal

pub returns-then-not-begins_range-clause-value : goal.returns-then-not-begins_range-clause-value
unfolding class_range
returns-then-not-begins_range-clause-value c from p piece start = rw (c.item_of.ensures, ← c.begins_range.ensures.value, c.if-not-begins_range.true)

pub returns-then-begins-clause-value : goal.returns-then-begins-clause-value
unfolding class_range
returns-then-begins-clause-value c from p piece start = rw c.refuse_from.ensures (grind (arith, common_steps))

pub returns-then-is_at_end-clause-value : goal.returns-then-is_at_end-clause-value
unfolding class_range
returns-then-is_at_end-clause-value c from p piece start = rw c.refuse.ensures (grind (arith, common_steps))

pub returns-in-Err-clause-value : goal.returns-in-Err-clause-value
unfolding class_range
returns-in-Err-clause-value c from p piece start = refuses_from _ _ (λ x is.
    let stops = refuses _ (member c.args.syntax.octal (place c.skip_white.new.self)) c.in-Err.ensures.value x is in
    grind (arith, common_steps))

pub returns-in-Ok-clause-value : goal.returns-in-Ok-clause-value
unfolding class_range
returns-in-Ok-clause-value c from p piece start =
    let q = place c.member.new.cursor in
    let same : class_range c.args.syntax.octal c.args.syntax.skips from p c.args.low (place c.args.cursor.now) ≡ range_of p c.args.low c.in-Ok.high q =
    grind (arith, common_steps) in
    subst (λ reading. Reads c.range_of.result reading q) (sym same) (c.range_of.ensures p start)
