use Rattle.std.proofs.Common.{◌≡◌, ◌++◌, map, drop}
use Rattle.rx_literal.specs.Literals.{bytes_of, cut, extended}
use Rattle.rx_literal.proofs.seq.push_extended.Given as goal

abbrev pub invariant-loop-other : goal.invariant-loop-other
invariant-loop-other l =
    l.all.items ++ map (λ t. cut l.fn.side 100 (extended l.fn.side (bytes_of l.fn.literal) t)) (drop l.other-index l.others)
    ≡ l.fn.all.items ++ map (λ t. cut l.fn.side 100 (extended l.fn.side (bytes_of l.fn.literal) t)) l.others
