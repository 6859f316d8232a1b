use Rattle.std.proofs.Common.{Bool, false}
use Rattle.rx_literal.proofs.lemmas.prefixes.WalkedLemmas.{one-fails, all-more, all-end}
use Rattle.rx_literal.proofs.trim.are_all_set.Goals as goal

pub returns-then-not-mark : goal.returns-then-not-mark
returns-then-not-mark c = one-fails (λ (mark : Bool). mark) c.args.marks.now c.loop-mark.mark-index false c.loop-mark-test.true c.if-not-mark.true

pub loop-mark-preserved : goal.loop-mark-preserved
loop-mark-preserved c =
    all-more (λ (mark : Bool). mark) c.args.marks.now c.loop-mark.mark-index false c.loop-mark-test.true c.if-not-mark.false c.loop-mark.invariant

pub returns : goal.returns
returns c = all-end (λ (mark : Bool). mark) c.args.marks.now c.loop-mark.mark-index c.loop-mark-test.false c.loop-mark.invariant
