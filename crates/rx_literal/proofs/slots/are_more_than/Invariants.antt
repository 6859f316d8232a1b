use Rattle.std.proofs.Common.{◌≡◌, ◌≤◌, [], length, map, take}
use Rattle.rx_literal.specs.Literals.{cut}
use Rattle.rx_literal.specs.declared.side.Side.TheVariants.{Front as front}
use Rattle.rx_literal.specs.Trim.{preferred}
use Rattle.rx_literal.proofs.lemmas.trimming.DistinctLemmas.{Seen}
use Rattle.rx_literal.proofs.slots.are_more_than.Given as goal

abbrev pub invariant-loop-literal : goal.invariant-loop-literal
invariant-loop-literal l = record {
  long : length l.seen ≡ 4096;
  seen : Seen l.count l.literals l.seen l.literal-index;
  fits : l.found ≤ l.literal-index;
  few : l.found ≤ length (preferred [] (map (cut front 3) (take l.literal-index l.literals)));
}
