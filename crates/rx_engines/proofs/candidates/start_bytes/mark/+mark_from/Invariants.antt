use Rattle.std.proofs.Common.{◌<◌, ℕ, get_or}
use Rattle.rx_engines.specs.StartBytes.{Marks, BeginMarked}
use Rattle.rx_engines.proofs.candidates.start_bytes.mark.+mark_from.Given as goal

abbrev pub invariant-loop-k : goal.invariant-loop-k
invariant-loop-k l = record {
  less : l.rest < l.fn.left;
  kept : Marks l.fn.has l.has;
  marked : (j q : ℕ) → j < l.k → BeginMarked l.states l.has (get_or l.alternates j q);
}

abbrev pub decreases-mark_from : goal.decreases-mark_from
decreases-mark_from l = l.left
