use Prim.Native.Nat.{◌+◌, ◌*◌}
use Rattle.rx_scan.proofs.newlines.+newlines.Given as goal

abbrev pub decreases-newlines_by : goal.decreases-newlines_by
decreases-newlines_by g l = 2 * l.workers

abbrev pub decreases-theirs : goal.decreases-theirs
decreases-theirs g l = 2 * l.few + 1

abbrev pub decreases-ours : goal.decreases-ours
decreases-ours g l = 2 * l.many + 1
