use Rattle.std.proofs.Common.{◌≡◌, ◌≤◌, ◌+◌, length, drop}
use Rattle.std.specs.List.{flat_map}
use Rattle.rx_literal.specs.Literals.{extended_by_each}
use Rattle.rx_literal.proofs.seq.are_too_many.Given as goal

abbrev pub invariant-loop-literal : goal.invariant-loop-literal
invariant-loop-literal l = record {
  so_far : l.count + length (flat_map (extended_by_each l.fn.side l.fn.others) (drop l.literal-index l.literals))
      ≡ length (flat_map (extended_by_each l.fn.side l.fn.others) l.literals);
  few : l.count ≤ 250;
}
