use Rattle.rx_hir.proofs.JoinedLemmas.{apart-bytes}
use Rattle.rx_hir.proofs.hir.concat.with_bytes.Goals as goal

pub returns : goal.returns
returns c = λ hs h.
    apart-bytes c.args.row.parts.items hs c.args.row.bytes.items c.args.more.now c.extend_from_slice.new.self.items h c.requires
    c.in_ok-extend_from_slice.ensures.items
