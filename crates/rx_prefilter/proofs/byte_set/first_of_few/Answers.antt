use Rattle.std.proofs.Common.{◌+◌, refl, arith}
use Rattle.rx_prefilter.proofs.ByteLemmas.{none_yet, none_more}
use Rattle.rx_prefilter.proofs.byte_set.first_of_few.Goals as goal

pub loop-at-init : goal.loop-at-init
loop-at-init c = (omega arith, c.requires, none_yet c.args.is_needle.now c.args.text.now c.args.from)

pub loop-at-preserved : goal.loop-at-preserved
loop-at-preserved c =
    let invariant = c.loop-at.invariant in
    let at = c.loop-at.at in
    let none = none_more c.args.is_needle.now c.args.text.now c.args.from at (at + 1) refl invariant.2 c.if-is_needle-text.false in
    (omega (arith, invariant.0), omega arith, none)
