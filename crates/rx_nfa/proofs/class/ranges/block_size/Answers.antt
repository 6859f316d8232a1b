use Rattle.std.proofs.Common.{◌≡◌, arith}
use Rattle.rx_nfa.specs.Ranges.{size_of_block}
use Rattle.rx_nfa.proofs.class.ranges.block_size.Goals as goal

pub returns-in-0 : goal.returns-in-0
unfolding size_of_block
returns-in-0 c = rw c.in-0.is

pub returns-in-1 : goal.returns-in-1
unfolding size_of_block
returns-in-1 c = rw c.in-1.is

pub returns-in-2 : goal.returns-in-2
unfolding size_of_block
returns-in-2 c = rw c.in-2.is

pub returns-in_default : goal.returns-in_default
unfolding size_of_block
returns-in_default c = let three : c.args.depth ≡ 3 = omega arith in rw three
