use denote.Param.Send.{sendable}
use Rattle.rx_meta.proofs.ThreadLemmas.{regex_send, regex_sync}
use Rattle.rx_regex_rows.proofs.regex.a_regex_crosses_threads.Goals as goal

pub crosses_threads-requires-send-T : goal.crosses_threads-requires-send-T
crosses_threads-requires-send-T c κs = search (sendable, regex_send)

pub crosses_threads-requires-sync-T : goal.crosses_threads-requires-sync-T
crosses_threads-requires-sync-T c κs = search (sendable, regex_sync)
