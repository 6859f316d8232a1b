use Rattle.std.proofs.Common.{◌||◌, sym, ap, ◌∙◌}
use Rattle.rx_model.specs.Expression.{look}
use Rattle.rx_search.specs.Look.{kind_of, is_same_kind}
use Rattle.rx_hir.specs.HirViews.{kind_view}
use Rattle.rx_hir.specs.Same.{is_same}
use Rattle.rx_hir.proofs.SameLemmas.{other-look}
use Rattle.rx_hir.proofs.hir.equality.is_look.Goals as goal

pub returns-in-Look : goal.returns-in-Look
unfolding is_same
returns-in-Look c =
    let k = kind_of c.args.kind in
    let whole = ap (is_same (look k)) (sym c.kind.ensures.value ∙ ap kind_view c.in-Look.is) in
    c.contains.ensures ∙ c.insert.ensures k ∙ ap (λ b. b || is_same_kind k (kind_of c.in-Look.other)) (c.empty.ensures k) ∙ sym whole

pub returns-in_default : goal.returns-in_default
returns-in_default c = sym (other-look (kind_of c.args.kind) c.kind.result.now c.in_default.not-Look)
    ∙ ap (is_same (look (kind_of c.args.kind))) c.kind.ensures.value
