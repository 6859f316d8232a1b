use Rattle.std.proofs.Common.{rules}
use Rattle.rx_util.proofs.LockLemmas.{lets_go}
use Rattle.rx_util.proofs.lock.Lock.let_go.Goals as goal

pub swap-found-requires : goal.swap-found-requires
swap-found-requires g c = (search rules, search rules, lets_go _ _ _ _ c.requires.stack)
