use Rattle.std.proofs.Common.{◌≡◌, true, length, ap, subst, arith}
use Rattle.std.specs.List.{list_all}
use Rattle.std.proofs.lemmas.List.{take_all}
use Rattle.rx_literal.specs.Slots.{has_bytes}
use Rattle.rx_literal.proofs.lemmas.trimming.SlotLemmas.{have-more}
use Rattle.rx_literal.proofs.slots.bytes_to_look_at.Goals as goal

pub loop-literal-preserved : goal.loop-literal-preserved
loop-literal-preserved c =
    let l = c.literal-item.result in
    let long = ap length c.as_bytes.ensures in
    have-more c.loop-literal.count c.min-count.result c.args.literals.now c.loop-literal.literal-index l c.loop-literal-test.true c.literal-item.is
    c.loop-literal.invariant (omega (arith, c.min-count.ensures)) (omega (arith, c.min-count.ensures, long))

pub returns : goal.returns
returns c =
    subst (λ ls. list_all (has_bytes c.loop-literal.count) ls ≡ true) (take_all c.loop-literal.literal-index c.args.literals.now c.loop-literal-test.false)
    c.loop-literal.invariant
