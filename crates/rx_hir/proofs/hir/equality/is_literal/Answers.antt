use Rattle.std.proofs.Common.{sym, ap, ◌∙◌}
use Rattle.rx_model.specs.Expression.{literal}
use Rattle.rx_hir.specs.HirViews.{kind_view}
use Rattle.rx_hir.specs.Same.{is_same}
use Rattle.rx_hir.proofs.SameLemmas.{other-literal}
use Rattle.rx_hir.proofs.hir.equality.is_literal.Goals as goal

pub returns-in-Literal : goal.returns-in-Literal
unfolding is_same
returns-in-Literal c =
    let whole = ap (is_same (literal c.args.bytes.now)) (sym c.kind.ensures.value ∙ ap kind_view c.in-Literal.is) in
    c.eq.ensures ∙ ap (λ bs. is_same (literal c.args.bytes.now) (literal bs)) c.as_slice.ensures.value ∙ sym whole

pub returns-in_default : goal.returns-in_default
returns-in_default c = sym (other-literal c.args.bytes.now c.kind.result.now c.in_default.not-Literal)
    ∙ ap (is_same (literal c.args.bytes.now)) c.kind.ensures.value
