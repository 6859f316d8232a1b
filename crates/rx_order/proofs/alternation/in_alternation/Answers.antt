use Rattle.std.proofs.Common.{◌∙◌, ap, sym}
use Rattle.std.proofs.lemmas.Result.{IfOk-weaker}
use Rattle.rx_hir.specs.HirViews.{kind_view}
use Rattle.rx_hir.proofs.JoinedLemmas.{list_of-expressions}
use Rattle.rx_order.specs.Alternation.{many_texts, texts_in}
use Rattle.rx_order.proofs.alternation.in_alternation.Goals as goal

pub returns-in-Alternation : goal.returns-in-Alternation
unfolding texts_in
returns-in-Alternation c =
    let e = sym c.kind.ensures.value ∙ ap kind_view c.in-Alternation.is in
    IfOk-weaker c.many_texts.result _ _
    (λ literals p. p ∙ ap (many_texts 3000) (c.deref.ensures.value ∙ sym (list_of-expressions c.in-Alternation.subs.items)) ∙ sym (ap texts_in e))
    c.many_texts.ensures

pub returns-in-Empty : goal.returns-in-Empty
unfolding texts_in
returns-in-Empty c = sym (ap texts_in (sym c.kind.ensures.value ∙ ap kind_view c.in-Empty.is))

pub returns-in-Literal : goal.returns-in-Literal
unfolding texts_in
returns-in-Literal c = sym (ap texts_in (sym c.kind.ensures.value ∙ ap kind_view c.in-Literal.is))

pub returns-in-Class : goal.returns-in-Class
unfolding texts_in
returns-in-Class c = sym (ap texts_in (sym c.kind.ensures.value ∙ ap kind_view c.in-Class.is))

pub returns-in-Look : goal.returns-in-Look
unfolding texts_in
returns-in-Look c = sym (ap texts_in (sym c.kind.ensures.value ∙ ap kind_view c.in-Look.is))

pub returns-in-Repetition : goal.returns-in-Repetition
unfolding texts_in
returns-in-Repetition c = sym (ap texts_in (sym c.kind.ensures.value ∙ ap kind_view c.in-Repetition.is))

pub returns-in-Capture : goal.returns-in-Capture
unfolding texts_in
returns-in-Capture c = sym (ap texts_in (sym c.kind.ensures.value ∙ ap kind_view c.in-Capture.is))

pub returns-in-Concat : goal.returns-in-Concat
unfolding texts_in
returns-in-Concat c = sym (ap texts_in (sym c.kind.ensures.value ∙ ap kind_view c.in-Concat.is))
