use Rattle.std.proofs.Common.{rules, arith}
use Rattle.rx_util.proofs.LockLemmas.{arrives}
use Rattle.rx_util.proofs.lock.Lock.hold.Goals as goal

pub swap_new_seat-found-requires : goal.swap_new_seat-found-requires
swap_new_seat-found-requires g c = (search rules, arrives _ _ _ 1 (λ e. absurd (omega (arith, e))))
