-- The works of a scan may be shared with other threads, where its gate and what its rows become may.
use denote.Param.Send.{IsSync, sendable}
use denote.RattleType.{RattleType}
use denote.Ref.{NamedLft}
use Rattle.rx_meta.proofs.ThreadLemmas.{regex_sync}
use Rattle.rx_scan.proofs.row.Layout.TheSendSync as layout
use Rattle.rx_scan.specs.contracts.haystacks.Works as works

pub works_sync : (a : NamedLft) (H G O : RattleType) → IsSync H → IsSync G → IsSync O → IsSync (works.the_row a H G O)
works_sync a H G O haystacks gate outcome = search (sendable, regex_sync, layout.the_field_sync) depth 40
