use Rattle.std.proofs.Common.{arith}
use Rattle.rx_nfa.specs.Ranges.{size_of_block}
use Rattle.rx_nfa.proofs.lemmas.classes.RangesLemmas.{size_of_block-pos, sizes, first_block, small_size}
use Rattle.rx_nfa.proofs.class.ranges.has_block.Goals as goal

pub overflow_sub-result : goal.overflow_sub-result
overflow_sub-result c = rw c.block_size-size.ensures (size_of_block-pos c.args.depth)

pub overflow_add-result : goal.overflow_add-result
overflow_add-result c = rw c.block_size-size.ensures (let s = small_size (size_of_block c.args.depth) (sizes c.args.depth c.requires.deep) in
    let small = c.requires.small.1 in let rises = c.requires.small.0 in omega arith)

pub nonzero_div-result : goal.nonzero_div-result
nonzero_div-result c = rw c.block_size-size.ensures (size_of_block-pos c.args.depth)

pub overflow_add-result-2 : goal.overflow_add-result-2
overflow_add-result-2 c =
    rw c.block_size-size.ensures (let s = first_block c.args.range.0 (size_of_block c.args.depth) (sizes c.args.depth c.requires.deep) in
    let small = c.requires.small.1 in let rises = c.requires.small.0 in omega arith)
