use Rattle.std.proofs.Common.{◌≡◌, ◌∙◌, sym, ap}
use Rattle.rx_hir.specs.Normal.{parts_of}
use Rattle.rx_hir.specs.HirViews.{kind_view}
use Rattle.rx_hir.proofs.JoinedLemmas.{list_of-expressions}
use Rattle.rx_hir.proofs.hir.concat.with_parts.Goals as goal

pub returns-in-Concat : goal.returns-in-Concat
returns-in-Concat c =
    let e : parts_of c.args.sub ≡ c.in-Concat.subs.items =
    ap parts_of (sym c.sub.view_is ∙ ap kind_view c.in-Concat.is) ∙ list_of-expressions c.in-Concat.subs.items in
    let all = (rw c.in-Concat.is at c.with_all.ensures) in
    λ hs h. rw e (all hs h)
