use Rattle.std.proofs.Common.{◌≡◌, take, sum_by}
use Rattle.rx_gen.specs.Totals.{matches_of, covered_of}
use Rattle.rx_gen.proofs.totals.totals_of.Given as goal

abbrev pub invariant-loop-one : goal.invariant-loop-one
invariant-loop-one l = record {
  matches : l.matches ≡ sum_by matches_of (take l.one-index l.found);
  covered : l.covered ≡ sum_by covered_of (take l.one-index l.found);
}
