use denote.Param.Send.{sendable}
use Rattle.std.proofs.Crossing.{crosses}
use Rattle.rx_meta.proofs.ThreadLemmas.{regex_sync}
use Rattle.rx_iterator_rows.proofs.pool.both_right.Goals as goal

pub join-requires-send-F : goal.join-requires-send-F
join-requires-send-F g c κs within = search (sendable, crosses, regex_sync) fits 5000 depth 40
