use Rattle.std.proofs.Common.{◌≡◌, drop}
use Rattle.rx_nfa.specs.Directed.{lasts_from, lasts_of}
use Rattle.rx_nfa.proofs.backwards.lasts_of.Given as goal

abbrev pub invariant-loop-piece : goal.invariant-loop-piece
invariant-loop-piece l = lasts_from l.found.items (drop l.piece-index l.pieces) ≡ lasts_of l.pieces
