use Rattle.std.proofs.Common.{◌++◌, ◌∙◌, refl, sym, ap, arith, append-nil, get_or}
use Rattle.rx_nfa.specs.declared.backwards.Piece.{Piece}
use Rattle.rx_nfa.proofs.lemmas.parts.LastLemmas.{before-more, before-past}
use Rattle.rx_nfa.proofs.backwards.before_last.Goals as goal

pub loop-piece-preserved : goal.loop-piece-preserved
loop-piece-preserved c =
    let k = c.loop-piece.piece-index in
    let d : Piece = record { first = 0; last = 0; low = 0; high = 0 } in
    let p = get_or c.args.pieces.now k d in
    before-more c.args.last c.args.pieces.now k p d c.loop-piece.before.items c.push_if.new.ranges.items c.is_range-is_behind.result c.loop-piece-test.true refl
    c.is_range-is_behind.ensures c.in_ok-push_if.ensures c.loop-piece.invariant

pub returns : goal.returns
returns c =
    sym (append-nil c.loop-piece.before.items)
    ∙ ap (λ rs. c.loop-piece.before.items ++ rs) (sym (before-past c.args.last c.args.pieces.now c.loop-piece.piece-index (omega arith)))
    ∙ c.loop-piece.invariant
