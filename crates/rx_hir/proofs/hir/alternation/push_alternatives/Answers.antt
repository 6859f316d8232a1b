use Rattle.std.proofs.Common.{◌++◌, ◌∙◌, sym, ap}
use Rattle.rx_hir.specs.Normal.{alternatives_of}
use Rattle.rx_hir.specs.HirViews.{kind_view}
use Rattle.rx_hir.proofs.JoinedLemmas.{list_of-expressions}
use Rattle.rx_hir.proofs.hir.alternation.push_alternatives.Goals as goal

pub returns-in_ok-append_all-in-Alternation : goal.returns-in_ok-append_all-in-Alternation
returns-in_ok-append_all-in-Alternation c =
    (rw c.in-Alternation.is at c.in_ok-append_all-in-Alternation.ensures)
    ∙ ap (λ ys. c.args.alternatives.now.items ++ ys) (sym (list_of-expressions c.in-Alternation.subs.items)
    ∙ ap alternatives_of (sym (ap kind_view c.in-Alternation.is) ∙ c.sub.view_is))
