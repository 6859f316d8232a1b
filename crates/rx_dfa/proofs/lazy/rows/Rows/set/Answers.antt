use Rattle.std.proofs.Common.{◌+◌, ◌*◌, ◌<◌, length, set, refl, ap, arith}
use Rattle.rx_dfa.proofs.lemmas.RowsLemmas.{rows-set}
use Rattle.rx_dfa.proofs.lemmas.StepLemmas.{cell-inside}
use Rattle.rx_dfa.proofs.lazy.rows.Rows.set.Goals as goal

pub returns-clause-rows : goal.returns-clause-rows
returns-clause-rows c =
    let l = c.args.lazy.now in
    let r = c.args.self.now in
    rows-set l r _ c.requires.rows c.args.row c.args.column c.args.state c.requires.column c.requires.row c.requires.next
    (ap (λ n. set r.cells.items (c.args.row * n + c.args.column) c.args.state) c.stride.ensures.value) refl refl refl

pub overflow_mul-row : goal.overflow_mul-row
overflow_mul-row c =
    let r = c.args.self.now in
    let lt : c.args.row * c.stride.result + c.args.column < length r.cells.items =
    cell-inside c.args.lazy.now r c.requires.rows c.args.row c.args.column c.stride.result c.stride.ensures.value c.requires.row c.requires.column in
    omega (arith, lt, c.requires.rows.few)

pub overflow_add-row : goal.overflow_add-row
overflow_add-row c =
    let r = c.args.self.now in
    let lt : c.args.row * c.stride.result + c.args.column < length r.cells.items =
    cell-inside c.args.lazy.now r c.requires.rows c.args.row c.args.column c.stride.result c.stride.ensures.value c.requires.row c.requires.column in
    omega (arith, lt, c.requires.rows.few)

pub index_mut-requires : goal.index_mut-requires
index_mut-requires c =
    let r = c.args.self.now in
    let lt : c.args.row * c.stride.result + c.args.column < length r.cells.items =
    cell-inside c.args.lazy.now r c.requires.rows c.args.row c.args.column c.stride.result c.stride.ensures.value c.requires.row c.requires.column in
    omega (arith, lt, r.cells.ok.0)

pub returns-clause-keys : goal.returns-clause-keys
returns-clause-keys c = refl

pub returns-clause-counts : goal.returns-clause-counts
returns-clause-counts c = refl
