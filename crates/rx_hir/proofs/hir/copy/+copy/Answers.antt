use Rattle.std.proofs.Common.{arith, ◌∙◌, sym, ap}
use Rattle.rx_hir.proofs.DepthLemmas.{depth-below}
use Rattle.std.proofs.lemmas.List.{take_all}
use Rattle.rx_model.specs.Expression.{class, repetition, concat, alternation}
use Rattle.rx_hir.specs.HirViews.{kind_view}
use Rattle.rx_hir.specs.Normal.{expressions}
use Rattle.rx_hir.proofs.ListLemmas.{copied-more}
use Rattle.rx_hir.proofs.hir.copy.+copy.Goals as goal

pub copy_of_all-copy_of-requires : goal.copy_of_all-copy_of-requires
copy_of_all-copy_of-requires t c =
    let below = depth-below c.args.subs.now.items c.loop-sub.sub-index c.sub-item.result
    (rw c.deref-sub-items.ensures.value at c.loop-sub-test.true) (rw c.deref-sub-items.ensures.value at c.sub-item.is) in
    (omega arith, tt)

pub copy_of_all-loop-sub-preserved : goal.copy_of_all-loop-sub-preserved
copy_of_all-loop-sub-preserved t c =
    copied-more c.args.subs.now.items c.loop-sub.sub-index c.loop-sub.all.items c.push.new.self.items c.in_ok-copy.copy c.sub-item.result
    (rw c.deref-sub-items.ensures.value at c.loop-sub-test.true) (rw c.deref-sub-items.ensures.value at c.sub-item.is) c.loop-sub.invariant
    c.in_ok-copy.ensures c.in_ok-push.ensures.items

pub copy_of_all-returns : goal.copy_of_all-returns
copy_of_all-returns t c =
    c.loop-sub.invariant ∙ take_all c.loop-sub.sub-index c.args.subs.now.items (rw c.deref-sub-items.ensures.value at c.loop-sub-test.false)

pub copy_of_kind-returns-in_ok-copy_of_all-in-Alternation : goal.copy_of_kind-returns-in_ok-copy_of_all-in-Alternation
copy_of_kind-returns-in_ok-copy_of_all-in-Alternation t c =
    ap (λ xs. alternation (expressions xs)) c.in_ok-copy_of_all-in-Alternation.ensures ∙ sym (ap kind_view c.in-Alternation.is)

pub copy_of_kind-returns-in_ok-copy_of_all-in-Concat : goal.copy_of_kind-returns-in_ok-copy_of_all-in-Concat
copy_of_kind-returns-in_ok-copy_of_all-in-Concat t c =
    ap (λ xs. concat (expressions xs)) c.in_ok-copy_of_all-in-Concat.ensures ∙ sym (ap kind_view c.in-Concat.is)

pub copy_of_kind-returns-in_ok-copy_of_box-in-Repetition : goal.copy_of_kind-returns-in_ok-copy_of_box-in-Repetition
copy_of_kind-returns-in_ok-copy_of_box-in-Repetition t c =
    let r = c.in-Repetition.repetition in
    ap (λ h. repetition c.in-Repetition.repetition.min c.in-Repetition.repetition.max c.in-Repetition.repetition.greedy h)
    c.in_ok-copy_of_box-in-Repetition.ensures ∙ sym (ap kind_view c.in-Repetition.is)

pub copy_of_kind-returns-in_ok-copy_of_class-in-Class : goal.copy_of_kind-returns-in_ok-copy_of_class-in-Class
copy_of_kind-returns-in_ok-copy_of_class-in-Class t c = ap class c.in_ok-copy_of_class-in-Class.ensures ∙ sym (ap kind_view c.in-Class.is)
