use Rattle.std.proofs.Common.{◌≡◌, ◌<◌, ◌^◌, take}
use Rattle.rx_scan.specs.Counted.{rows_len}
use Rattle.rx_scan.proofs.counted.covered_by.Given as goal

abbrev pub invariant-loop-row : goal.invariant-loop-row
invariant-loop-row l = rows_len l.rows < 2 ^ 64 → l.covered ≡ rows_len (take l.row-index l.rows)
