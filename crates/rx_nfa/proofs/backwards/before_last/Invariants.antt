use Rattle.std.proofs.Common.{◌≡◌, ◌++◌, drop}
use Rattle.rx_nfa.specs.Directed.{before_last}
use Rattle.rx_nfa.proofs.backwards.before_last.Given as goal

abbrev pub invariant-loop-piece : goal.invariant-loop-piece
invariant-loop-piece l = l.before.items ++ before_last l.last (drop l.piece-index l.pieces) ≡ before_last l.last l.pieces
