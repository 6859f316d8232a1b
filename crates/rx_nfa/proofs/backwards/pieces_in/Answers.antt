use Rattle.std.proofs.Common.{◌++◌, ◌∙◌, sym, ap, arith, append-nil}
use Rattle.rx_nfa.proofs.lemmas.parts.LastLemmas.{pieces-more, pieces-past}
use Rattle.rx_nfa.proofs.backwards.pieces_in.Goals as goal

pub loop-range-preserved : goal.loop-range-preserved
loop-range-preserved c =
    let k = c.loop-range.range-index in
    let lt = c.loop-range-test.true in
    pieces-more c.args.ranges.now k c.low_piece.result c.middle_piece.result c.high_piece.result c.loop-range.pieces.items c.push_piece.new.pieces.items
    c.push_piece-in-loop-range.new.pieces.items c.push_piece-in-loop-range-2.new.pieces.items lt (c.requires.ordered k (0, 0) lt) c.low_piece.ensures
    c.middle_piece.ensures c.high_piece.ensures
    c.in_ok-push_piece.ensures c.in_ok-push_piece-2.ensures c.in_ok-push_piece-3.ensures c.loop-range.invariant

pub returns : goal.returns
returns c =
    sym (append-nil c.loop-range.pieces.items) ∙ ap (λ ps. c.loop-range.pieces.items ++ ps)
    (sym (pieces-past c.args.ranges.now c.loop-range.range-index (omega arith)))
    ∙ c.loop-range.invariant
