use Rattle.rx_util.specs.Held.{IsWaiting}
use Rattle.rx_util.proofs.lock.Lock.hold.Given as goal

-- the seat has nothing
abbrev pub invariant-loop-try : goal.invariant-loop-try
invariant-loop-try g l = IsWaiting l.self l.seat
