use Rattle.std.proofs.Common.{◌≡◌, vec_len}
use Rattle.rx_workers.proofs.crew.scratches.Given as goal

abbrev pub invariant-loop-slot : goal.invariant-loop-slot
invariant-loop-slot g l = vec_len l.all ≡ l._slot
