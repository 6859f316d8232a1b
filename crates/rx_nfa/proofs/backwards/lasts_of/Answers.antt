use Rattle.std.proofs.Common.{◌∙◌, refl, sym, ap, arith, get_or}
use Rattle.std.specs.List.{list_any}
use Rattle.rx_nfa.specs.Directed.{last_of, is_range}
use Rattle.rx_nfa.specs.declared.backwards.Piece.{Piece}
use Rattle.rx_nfa.proofs.lemmas.parts.LastLemmas.{lasts-more, lasts-past}
use Rattle.rx_nfa.proofs.backwards.lasts_of.Goals as goal

pub loop-piece-preserved : goal.loop-piece-preserved
loop-piece-preserved c =
    let k = c.loop-piece.piece-index in
    let d : Piece = record { first = 0; last = 0; low = 0; high = 0 } in
    let p = get_or c.args.pieces.now k d in
    lasts-more c.loop-piece.found.items c.push_if.new.ranges.items c.args.pieces.now k p d c.has_range-is_new.result c.loop-piece-test.true refl
    (c.has_range-is_new.ensures ∙ ap (list_any (is_range (last_of p))) c.deref.ensures.value) c.in_ok-push_if.ensures c.loop-piece.invariant

pub returns : goal.returns
returns c = sym (lasts-past c.loop-piece.found.items c.args.pieces.now c.loop-piece.piece-index (omega arith)) ∙ c.loop-piece.invariant
