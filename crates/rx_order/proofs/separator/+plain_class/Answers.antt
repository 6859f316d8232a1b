use Rattle.std.proofs.Common.{ap, sym, ◌∙◌}
use Rattle.rx_hir.specs.HirViews.{kind_view}
use Rattle.rx_order.specs.Tests.{plain_class}
use Rattle.rx_order.proofs.separator.+plain_class.Goals as goal

pub returns-in-Class : goal.returns-in-Class
unfolding plain_class
returns-in-Class t c = sym (ap (λ k. plain_class (kind_view k)) c.in-Class.is) ∙ ap plain_class c.kind.ensures.value

pub returns-in-Capture : goal.returns-in-Capture
unfolding plain_class
returns-in-Capture t c =
    c.plain_class.ensures ∙ ap plain_class c.deref.ensures ∙ sym (ap (λ k. plain_class (kind_view k)) c.in-Capture.is) ∙ ap plain_class c.kind.ensures.value

pub returns-in-Empty : goal.returns-in-Empty
unfolding plain_class
returns-in-Empty t c = sym (ap (λ k. plain_class (kind_view k)) c.in-Empty.is) ∙ ap plain_class c.kind.ensures.value

pub returns-in-Literal : goal.returns-in-Literal
unfolding plain_class
returns-in-Literal t c = sym (ap (λ k. plain_class (kind_view k)) c.in-Literal.is) ∙ ap plain_class c.kind.ensures.value

pub returns-in-Look : goal.returns-in-Look
unfolding plain_class
returns-in-Look t c = sym (ap (λ k. plain_class (kind_view k)) c.in-Look.is) ∙ ap plain_class c.kind.ensures.value

pub returns-in-Repetition : goal.returns-in-Repetition
unfolding plain_class
returns-in-Repetition t c = sym (ap (λ k. plain_class (kind_view k)) c.in-Repetition.is) ∙ ap plain_class c.kind.ensures.value

pub returns-in-Concat : goal.returns-in-Concat
unfolding plain_class
returns-in-Concat t c = sym (ap (λ k. plain_class (kind_view k)) c.in-Concat.is) ∙ ap plain_class c.kind.ensures.value

pub returns-in-Alternation : goal.returns-in-Alternation
unfolding plain_class
returns-in-Alternation t c = sym (ap (λ k. plain_class (kind_view k)) c.in-Alternation.is) ∙ ap plain_class c.kind.ensures.value
