use Rattle.std.proofs.Common.{[]}
use Rattle.std.specs.Prelude.{replicate}
use Rattle.rx_scan.proofs.haystacks.no_rows.Given as goal

abbrev pub invariant-loop-index : goal.invariant-loop-index
invariant-loop-index g l = g.O.Outcome.holds l.outcome 0 (replicate l.index []) [] l.value
