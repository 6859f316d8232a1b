use denote.Param.Send.{sendable}
use Rattle.rx_meta.proofs.ThreadLemmas.{regex_send, regex_sync}
use Rattle.rx_meta.proofs.threads.regexes_cross_threads.Goals as goal

pub cross_threads-requires-send-T : goal.cross_threads-requires-send-T
cross_threads-requires-send-T c κs = search (sendable, regex_send)

pub cross_threads-requires-sync-T : goal.cross_threads-requires-sync-T
cross_threads-requires-sync-T c κs = search (sendable, regex_sync)
