use Rattle.std.proofs.Common.{sym, ap, ◌∙◌}
use Rattle.rx_model.specs.Expression.{class}
use Rattle.rx_class.specs.ClassViews.{class_view}
use Rattle.rx_hir.specs.HirViews.{kind_view}
use Rattle.rx_hir.specs.Same.{is_same}
use Rattle.rx_hir.proofs.SameLemmas.{other-class}
use Rattle.rx_hir.proofs.hir.equality.is_class.Goals as goal

pub returns-in-Class : goal.returns-in-Class
unfolding is_same
returns-in-Class c =
    let whole = ap (is_same (class (class_view c.args.members.now))) (sym c.kind.ensures.value ∙ ap kind_view c.in-Class.is) in
    c.same_class.ensures ∙ sym whole

pub returns-in_default : goal.returns-in_default
returns-in_default c = sym (other-class (class_view c.args.members.now) c.kind.result.now c.in_default.not-Class)
    ∙ ap (is_same (class (class_view c.args.members.now))) c.kind.ensures.value
