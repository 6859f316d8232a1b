use Rattle.std.proofs.Common.{◌<◌, ◌≤◌, ◌^◌, ◌+◌, ◌*◌, length, arith, ◌∙◌, subst, sym}
use Rattle.rx_onepass_table.specs.Rows.{TableValue}
use Rattle.rx_onepass_table.specs.Words.{Step}
use Rattle.rx_onepass_table.proofs.lemmas.CellLemmas.{step-index, step-value, step-target}
use Rattle.rx_onepass_table.proofs.table.Table.transition.Goals as goal

pub index-requires : goal.index-requires
index-requires c =
    let there : c.args.row * c.self.inside.stride + c.get-class.result < length c.self.inside.cells.items =
    step-index _ _ c.self.invariant c.self.view_is c.args.row c.requires c.args.byte c.get-class.result c.ranges.byte.fits c.get-class.ensures in
    let len = c.self.inside.cells.ok.0 in
    omega arith

pub returns-clause-value : goal.returns-clause-value
returns-clause-value c =
    c.of_word.ensures
    ∙ step-value _ _ c.self.invariant c.self.view_is c.args.row c.requires c.args.byte c.get-class.result c.ranges.byte.fits c.get-class.ensures
    c.index.result.now _ c.index.ensures

pub returns-clause-inside : goal.returns-clause-inside
returns-clause-inside c =
    subst (λ (s : Step). s.target < c.args.self.now.rows) (sym c.of_word.ensures)
    (step-target _ _ c.self.invariant c.self.view_is c.args.row c.requires c.args.byte c.get-class.result c.ranges.byte.fits c.get-class.ensures
    c.index.result.now _ c.index.ensures)

pub returns-clause-few : goal.returns-clause-few
returns-clause-few c = subst (λ (t : TableValue). t.rows ≤ 2 ^ 21) c.self.view_is c.self.invariant.few
