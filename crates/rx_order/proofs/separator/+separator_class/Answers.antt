use Rattle.std.proofs.Common.{◌≡◌, ◌≤◌, ap, sym, ◌∙◌, arith}
use Rattle.rx_hir.specs.HirViews.{kind_view}
use Rattle.rx_order.specs.Tests.{plain_class, separator_class}
use Rattle.rx_order.proofs.lemmas.PlaceLemmas.{copies-none, copies-some}
use Rattle.rx_order.proofs.separator.+separator_class.Goals as goal

pub returns-then-copies-eq0 : goal.returns-then-copies-eq0
unfolding separator_class
returns-then-copies-eq0 t c = copies-none c.in-Repetition.copies.min c.in-Repetition.copies.max c.in-Repetition.copies.greedy c.in-Repetition.copies.sub.value
    (let z : c.in-Repetition.copies.min ≡ 0 = omega arith in z) ∙ sym (ap (λ k. separator_class (kind_view k)) c.in-Repetition.is)
    ∙ ap separator_class c.kind.ensures.value

pub returns-else-copies-eq0 : goal.returns-else-copies-eq0
unfolding separator_class
returns-else-copies-eq0 t c = c.plain_class.ensures ∙ ap plain_class c.deref.ensures
    ∙ copies-some c.in-Repetition.copies.min c.in-Repetition.copies.max c.in-Repetition.copies.greedy c.in-Repetition.copies.sub.value
    (let z : 1 ≤ c.in-Repetition.copies.min = omega arith in z) ∙ sym (ap (λ k. separator_class (kind_view k)) c.in-Repetition.is)
    ∙ ap separator_class c.kind.ensures.value

pub returns-in-Class : goal.returns-in-Class
unfolding separator_class
returns-in-Class t c = sym (ap (λ k. separator_class (kind_view k)) c.in-Class.is) ∙ ap separator_class c.kind.ensures.value

pub returns-in-Capture : goal.returns-in-Capture
unfolding separator_class
returns-in-Capture t c = c.separator_class.ensures ∙ ap separator_class c.deref-in-Capture.ensures
    ∙ sym (ap (λ k. separator_class (kind_view k)) c.in-Capture.is) ∙ ap separator_class c.kind.ensures.value

pub returns-in-Empty : goal.returns-in-Empty
unfolding separator_class
returns-in-Empty t c = sym (ap (λ k. separator_class (kind_view k)) c.in-Empty.is) ∙ ap separator_class c.kind.ensures.value

pub returns-in-Literal : goal.returns-in-Literal
unfolding separator_class
returns-in-Literal t c = sym (ap (λ k. separator_class (kind_view k)) c.in-Literal.is) ∙ ap separator_class c.kind.ensures.value

pub returns-in-Look : goal.returns-in-Look
unfolding separator_class
returns-in-Look t c = sym (ap (λ k. separator_class (kind_view k)) c.in-Look.is) ∙ ap separator_class c.kind.ensures.value

pub returns-in-Concat : goal.returns-in-Concat
unfolding separator_class
returns-in-Concat t c = sym (ap (λ k. separator_class (kind_view k)) c.in-Concat.is) ∙ ap separator_class c.kind.ensures.value

pub returns-in-Alternation : goal.returns-in-Alternation
unfolding separator_class
returns-in-Alternation t c = sym (ap (λ k. separator_class (kind_view k)) c.in-Alternation.is) ∙ ap separator_class c.kind.ensures.value
