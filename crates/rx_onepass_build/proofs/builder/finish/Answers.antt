use Rattle.std.proofs.Common.{◌≡◌, ℕ, ◌<◌, ◌*◌, suc, length, map, sym, ◌∙◌, ap, subst, arith, slice_index}
use Rattle.rx_onepass_table.specs.Rows.{IsWhole}
use Rattle.rx_onepass_build.specs.Settled.{IsOrder, AreCellsOf}
use Rattle.rx_onepass_build.proofs.lemmas.FinishLemmas.{table-whole, finished}
use Rattle.rx_onepass_build.proofs.lemmas.SwapLemmas.{after-small}
use Rattle.rx_onepass_build.proofs.builder.finish.Goals as goal

pub settle-requires-clause-small : goal.settle-requires-clause-small
settle-requires-clause-small c =
    let order = subst (λ fs. IsOrder fs c.in_ok-order.order.before.items c.in_ok-order.order.after.items c.in_ok-order.order.least_match)
    c.as_slice.ensures.value
    c.in_ok-order.ensures in
    after-small (length c.args.rows.now.finals.items) c.in_ok-order.order.before.items c.in_ok-order.order.after.items c.requires.few order.inverse

pub new-table-requires : goal.new-table-requires
new-table-requires c =
    let order = subst (λ fs. IsOrder fs c.in_ok-order.order.before.items c.in_ok-order.order.after.items c.in_ok-order.order.least_match)
    c.as_slice.ensures.value
    c.in_ok-order.ensures in
    let long = order.inverse.before_len in
    let count : c.len-count.result ≡ suc (length c.args.rows.now.finals.items) = omega (arith, c.len-count.ensures, c.in_ok-order.order.before.ok.0) in
    let are = subst (λ n. (k : ℕ) → k < suc (length c.args.rows.now.finals.items)
    → AreCellsOf c.args.rows.now.steps.items c.args.rows.now.finals.items c.in_ok-order.order.after.items n
    (slice_index c.in_ok-order.order.before.items k) c.in_ok-cells.cells.items (k * c.args.stride)) c.requires.job.bytes.each c.in_ok-cells.ensures.cells in
    subst (λ n. IsWhole (record {
      classes = c.args.job.now.classes.now;
      stride = c.args.stride;
      cells = c.in_ok-cells.cells.items;
      rows = n;
      least_match = c.in_ok-order.order.least_match;
    })) (sym count)
    (table-whole c.args.job.now c.args.rows.now.steps.items c.args.rows.now.finals.items c.in_ok-order.order.before.items c.in_ok-order.order.after.items
    c.args.stride c.in_ok-order.order.least_match c.in_ok-cells.cells.items c.requires.job.classes c.requires.wide c.requires.few order c.requires.lead
    c.in_ok-cells.ensures.len are)

pub returns : goal.returns
returns c =
    let order = subst (λ fs. IsOrder fs c.in_ok-order.order.before.items c.in_ok-order.order.after.items c.in_ok-order.order.least_match)
    c.as_slice.ensures.value
    c.in_ok-order.ensures in
    let long = order.inverse.before_len in
    let count : c.len-count.result ≡ suc (length c.args.rows.now.finals.items) = omega (arith, c.len-count.ensures, c.in_ok-order.order.before.ok.0) in
    let are = subst (λ n. (k : ℕ) → k < suc (length c.args.rows.now.finals.items)
    → AreCellsOf c.args.rows.now.steps.items c.args.rows.now.finals.items c.in_ok-order.order.after.items n
    (slice_index c.in_ok-order.order.before.items k) c.in_ok-cells.cells.items (k * c.args.stride)) c.requires.job.bytes.each c.in_ok-cells.ensures.cells in
    λ entries all inside filled begun.
    finished c.args.job.now entries c.args.rows.now.steps.items c.args.rows.now.finals.items c.in_ok-order.order.before.items
    c.in_ok-order.order.after.items c.args.starts.now c.args.stride c.in_ok-order.order.least_match c.len-count.result c.in_ok-cells.cells.items _
    c.requires.job.classes order all inside filled begun are count c.new-table.ensures
    (c.in_ok-settled.ensures ∙ ap (λ xs. map (slice_index xs) c.args.starts.now) c.as_slice-2.ensures.value)
