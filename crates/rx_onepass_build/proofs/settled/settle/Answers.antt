use Rattle.std.proofs.Common.{◌≡◌, ◌<◌, ◌*◌, suc, length, ◌∙◌, sym, ap, subst, arith, slice_index}
use Rattle.std.proofs.lemmas.Result.{err_from_is_err_and}
use Rattle.rx_onepass_build.specs.Settled.{AreCellsOf}
use Rattle.rx_onepass_build.proofs.lemmas.PlacedLemmas.{rows-placed, length-placed}
use Rattle.rx_onepass_build.proofs.lemmas.ListLemmas.{read-index}
use Rattle.rx_onepass_build.proofs.settled.settle.Goals as goal

pub loop-row-preserved : goal.loop-row-preserved
loop-row-preserved c = record {
  within = omega arith;
  len = length-placed c.loop-row.row c.args.stride c.loop-row.cells.items c.push_row.new.cells.items c.loop-row.invariant.len c.in_ok-push_row.ensures.len;
  cells =
      rows-placed c.args.rows.now.steps.items c.args.rows.now.finals.items c.args.order.now.after.items c.args.order.now.before.items c.args.classes
      c.args.stride c.loop-row.row c.index-before.result.now c.loop-row.cells.items c.push_row.new.cells.items c.requires.wide c.loop-row.invariant.len
      (read-index c.args.order.now.before.items c.loop-row.row c.index-before.result.now (omega arith) c.index-before.ensures)
      c.in_ok-push_row.ensures.kept c.loop-row.invariant.cells
      (subst (λ xs. AreCellsOf c.args.rows.now.steps.items c.args.rows.now.finals.items xs c.args.classes c.index-before.result.now c.push_row.new.cells.items
      (length c.loop-row.cells.items)) c.as_slice.ensures.value c.in_ok-push_row.ensures.cells);
}

pub index-before-requires : goal.index-before-requires
index-before-requires c = subst (λ n. c.loop-row.row < n) c.len-row-end.ensures c.loop-row-test.true

pub loop-row-init : goal.loop-row-init
loop-row-init c = record {
  within = omega arith;
  len = (let empty = ap length c.new-cells.ensures.items in omega arith);
  cells = λ k lt. absurd (omega arith);
}

pub push_row-requires-clause-after : goal.push_row-requires-clause-after
push_row-requires-clause-after c = ap length c.as_slice.ensures.value ∙ c.requires.order.after_len

pub push_row-requires-clause-before : goal.push_row-requires-clause-before
push_row-requires-clause-before c =
    let len = c.requires.order.before_len in
    subst (λ n. n < suc (length c.args.rows.now.finals.items))
    (sym (read-index c.args.order.now.before.items c.loop-row.row c.index-before.result.now (omega arith) c.index-before.ensures))
    (c.requires.order.below c.loop-row.row (omega arith))

pub push_row-requires-clause-small : goal.push_row-requires-clause-small
push_row-requires-clause-small c r = subst (λ xs. slice_index xs r < 2097152) (sym c.as_slice.ensures.value) (c.requires.small r)

pub returns-clause-cells : goal.returns-clause-cells
returns-clause-cells c k lt = let len = c.requires.order.before_len in c.loop-row.invariant.cells k (omega arith)

pub returns-clause-len : goal.returns-clause-len
returns-clause-len c =
    let len = c.requires.order.before_len in
    let all : c.loop-row.row ≡ suc (length c.args.rows.now.finals.items) = omega arith in
    c.loop-row.invariant.len ∙ ap (λ n. n * c.args.stride) all

pub push_row-requires-clause-few : goal.push_row-requires-clause-few
push_row-requires-clause-few c = c.requires.few

pub push_row-requires-clause-inside : goal.push_row-requires-clause-inside
push_row-requires-clause-inside c = c.requires.inside

pub push_row-requires-clause-len : goal.push_row-requires-clause-len
push_row-requires-clause-len c = c.requires.len

pub push_row-requires-clause-narrow : goal.push_row-requires-clause-narrow
push_row-requires-clause-narrow c = c.requires.narrow

pub push_row-requires-clause-wide : goal.push_row-requires-clause-wide
push_row-requires-clause-wide c = c.requires.wide

pub returns-in_err-push_row-clause-cells : goal.returns-in_err-push_row-clause-cells
returns-in_err-push_row-clause-cells c =
    let p = err_from_is_err_and c.from_residual.result c.from_residual.ensures.1 in
    rw p.1 tt

pub returns-in_err-push_row-clause-len : goal.returns-in_err-push_row-clause-len
returns-in_err-push_row-clause-len c =
    let p = err_from_is_err_and c.from_residual.result c.from_residual.ensures.1 in
    rw p.1 tt
