use Rattle.std.proofs.Common.{arith}
use Rattle.rx_hir.proofs.CostLemmas.{states_of_ranges-past}
use Rattle.rx_hir.proofs.accounting.states_of_ranges.Goals as goal

pub returns : goal.returns
returns c =
    let e = states_of_ranges-past c.args.ranges.now c.loop-low.low-index c.loop-low-test.false in
    let so_far = c.loop-low.invariant.so_far in
    omega arith
