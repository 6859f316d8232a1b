use Rattle.std.proofs.Common.{◌∙◌, ap, sym}
use Rattle.std.proofs.lemmas.Result.{IfOk-weaker}
use Rattle.rx_hir.specs.HirViews.{kind_view}
use Rattle.rx_hir.specs.Normal.{expressions, concat_of}
use Rattle.rx_order.specs.Inner.{all_uncaptured, parts_in, top_parts}
use Rattle.rx_order.proofs.inner.+top_parts.Goals as goal

pub returns-in-Capture : goal.returns-in-Capture
unfolding top_parts
returns-in-Capture t c =
    let e = sym c.kind.ensures.value ∙ ap kind_view c.in-Capture.is in
    IfOk-weaker c.top_parts.result _ _ (λ parts p. p ∙ ap top_parts c.deref.ensures ∙ sym (ap top_parts e)) c.top_parts.ensures

pub returns-in-Concat : goal.returns-in-Concat
unfolding top_parts
returns-in-Concat t c =
    let e = sym c.kind.ensures.value ∙ ap kind_view c.in-Concat.is in
    IfOk-weaker c.row_parts.result _ _
    (λ parts p. p ∙ ap (λ ys. parts_in (concat_of (all_uncaptured (expressions ys)))) c.deref-in-Concat.ensures.value ∙ sym (ap top_parts e))
    c.row_parts.ensures

pub returns-in-Empty : goal.returns-in-Empty
unfolding top_parts
returns-in-Empty t c = sym (ap top_parts (sym c.kind.ensures.value ∙ ap kind_view c.in-Empty.is))

pub returns-in-Literal : goal.returns-in-Literal
unfolding top_parts
returns-in-Literal t c = sym (ap top_parts (sym c.kind.ensures.value ∙ ap kind_view c.in-Literal.is))

pub returns-in-Class : goal.returns-in-Class
unfolding top_parts
returns-in-Class t c = sym (ap top_parts (sym c.kind.ensures.value ∙ ap kind_view c.in-Class.is))

pub returns-in-Look : goal.returns-in-Look
unfolding top_parts
returns-in-Look t c = sym (ap top_parts (sym c.kind.ensures.value ∙ ap kind_view c.in-Look.is))

pub returns-in-Repetition : goal.returns-in-Repetition
unfolding top_parts
returns-in-Repetition t c = sym (ap top_parts (sym c.kind.ensures.value ∙ ap kind_view c.in-Repetition.is))

pub returns-in-Alternation : goal.returns-in-Alternation
unfolding top_parts
returns-in-Alternation t c = sym (ap top_parts (sym c.kind.ensures.value ∙ ap kind_view c.in-Alternation.is))
