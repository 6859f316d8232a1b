use denote.Param.Send.{sendable}
use Rattle.rx_strategies.proofs.ThreadLemmas.{strategy_send, strategy_sync}
use Rattle.rx_strategies.proofs.threads.strategies_cross_threads.Goals as goal

pub cross_threads-requires-send-T : goal.cross_threads-requires-send-T
cross_threads-requires-send-T c κs = search (sendable, strategy_send)

pub cross_threads-requires-sync-T : goal.cross_threads-requires-sync-T
cross_threads-requires-sync-T c κs = search (sendable, strategy_sync)
