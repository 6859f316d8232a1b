use Rattle.std.proofs.Common.{◌≡◌, ◌<◌, ◌∙◌, length, get_or, arith}
use Rattle.std.proofs.lemmas.List.{get_or_default}
use Rattle.rx_dfa.proofs.lemmas.ListLemmas.{unmarked-more}
use Rattle.rx_dfa.proofs.state_list.unmark.Goals as goal

pub loop-state-preserved : goal.loop-state-preserved
loop-state-preserved c =
    let items = c.args.items.now in
    let k = c.loop-state.state-index in
    let lt = c.loop-state-test.true in
    let is : c.state-item.result ≡ get_or items k 0 = c.state-item.is ∙ get_or_default items k c.state-item.result 0 lt in
    let low = c.requires k 0 lt in
    let same = c.loop-state.auto.marks in
    let below : c.state-item.result < length c.loop-state.marks = omega arith in
    rw c.as_usize.ensures.value
    (record { off = unmarked-more items k c.state-item.result c.args.marks.now c.loop-state.marks lt is below c.loop-state.invariant.off })
