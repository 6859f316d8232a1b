use Rattle.std.proofs.Common.{sym, ap, ◌∙◌}
use Rattle.rx_model.specs.Expression.{empty}
use Rattle.rx_hir.specs.HirViews.{kind_view}
use Rattle.rx_hir.specs.Same.{is_same}
use Rattle.rx_hir.proofs.SameLemmas.{other-empty}
use Rattle.rx_hir.proofs.hir.equality.is_empty.Goals as goal

pub returns-in-Empty : goal.returns-in-Empty
unfolding is_same
returns-in-Empty c = sym (ap (is_same empty) (sym c.kind.ensures.value ∙ ap kind_view c.in-Empty.is))

pub returns-in_default : goal.returns-in_default
returns-in_default c = sym (other-empty c.kind.result.now c.in_default.not-Empty) ∙ ap (is_same empty) c.kind.ensures.value
