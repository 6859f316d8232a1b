use Rattle.std.proofs.Common.{arith, ap, sym, ◌∙◌}
use Rattle.rx_hir.proofs.CostLemmas.{accounted_in-past, capped-copies}
use Rattle.rx_hir.proofs.DepthLemmas.{depth-below}
use Rattle.rx_hir.specs.Cost.{states_of_copies, capped, accounted_states}
use Rattle.rx_hir.specs.HirViews.{kind_view}
use Rattle.rx_hir.proofs.accounting.+states.Goals as goal

pub states_in-states-requires : goal.states_in-states-requires
states_in-states-requires t c =
    let below = depth-below c.args.subs.now c.loop-sub.sub-index c.sub-item.result c.loop-sub-test.true c.sub-item.is in
    (omega arith, tt)

pub states_in-returns : goal.states_in-returns
states_in-returns t c =
    let e = accounted_in-past c.args.subs.now c.loop-sub.sub-index c.loop-sub-test.false in
    let so_far = c.loop-sub.invariant.so_far in
    omega arith

pub states_of_kind-returns-in-Repetition : goal.states_of_kind-returns-in-Repetition
states_of_kind-returns-in-Repetition t c =
    let copies = c.in-Repetition.copies in
    c.states_of_copies.ensures
    ∙ ap (λ n. capped (states_of_copies c.in-Repetition.copies.min c.in-Repetition.copies.max n))
    (c.states.ensures ∙ ap (λ h. capped (accounted_states h)) c.deref.ensures)
    ∙ capped-copies copies.min copies.max (accounted_states copies.sub.value) ∙ sym (ap (λ k. capped (accounted_states (kind_view k))) c.in-Repetition.is)
