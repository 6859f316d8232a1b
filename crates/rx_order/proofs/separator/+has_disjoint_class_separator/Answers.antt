use Rattle.std.proofs.Common.{map, ap, sym, ◌∙◌}
use Rattle.std.specs.Prelude.{◌||◌}
use Rattle.std.specs.Vec.{vec_items}
use Rattle.rx_model.specs.Expression.{Expression}
use Rattle.rx_hir.specs.HirViews.{kind_view}
use Rattle.rx_order.specs.Tests.{has_last_separator, has_first_separator}
use Rattle.rx_order.proofs.separator.+has_disjoint_class_separator.Goals as goal

pub returns-in-Capture : goal.returns-in-Capture
unfolding has_last_separator has_first_separator
returns-in-Capture t c =
    let ls = map vec_items c.args.literals.now in
    let f = λ (h : Expression). has_last_separator h ls || has_first_separator h ls in
    c.has_disjoint_class_separator.ensures ∙ ap f c.deref.ensures ∙ sym (ap (λ k. f (kind_view k)) c.in-Capture.is) ∙ ap f c.kind.ensures.value

pub returns-in-Empty : goal.returns-in-Empty
unfolding has_last_separator has_first_separator
returns-in-Empty t c =
    let ls = map vec_items c.args.literals.now in
    let f = λ (h : Expression). has_last_separator h ls || has_first_separator h ls in
    sym (ap (λ k. f (kind_view k)) c.in-Empty.is) ∙ ap f c.kind.ensures.value

pub returns-in-Literal : goal.returns-in-Literal
unfolding has_last_separator has_first_separator
returns-in-Literal t c =
    let ls = map vec_items c.args.literals.now in
    let f = λ (h : Expression). has_last_separator h ls || has_first_separator h ls in
    sym (ap (λ k. f (kind_view k)) c.in-Literal.is) ∙ ap f c.kind.ensures.value

pub returns-in-Class : goal.returns-in-Class
unfolding has_last_separator has_first_separator
returns-in-Class t c =
    let ls = map vec_items c.args.literals.now in
    let f = λ (h : Expression). has_last_separator h ls || has_first_separator h ls in
    sym (ap (λ k. f (kind_view k)) c.in-Class.is) ∙ ap f c.kind.ensures.value

pub returns-in-Look : goal.returns-in-Look
unfolding has_last_separator has_first_separator
returns-in-Look t c =
    let ls = map vec_items c.args.literals.now in
    let f = λ (h : Expression). has_last_separator h ls || has_first_separator h ls in
    sym (ap (λ k. f (kind_view k)) c.in-Look.is) ∙ ap f c.kind.ensures.value

pub returns-in-Repetition : goal.returns-in-Repetition
unfolding has_last_separator has_first_separator
returns-in-Repetition t c =
    let ls = map vec_items c.args.literals.now in
    let f = λ (h : Expression). has_last_separator h ls || has_first_separator h ls in
    sym (ap (λ k. f (kind_view k)) c.in-Repetition.is) ∙ ap f c.kind.ensures.value

pub returns-in-Alternation : goal.returns-in-Alternation
unfolding has_last_separator has_first_separator
returns-in-Alternation t c =
    let ls = map vec_items c.args.literals.now in
    let f = λ (h : Expression). has_last_separator h ls || has_first_separator h ls in
    sym (ap (λ k. f (kind_view k)) c.in-Alternation.is) ∙ ap f c.kind.ensures.value
