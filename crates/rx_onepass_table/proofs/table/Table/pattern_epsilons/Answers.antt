use Rattle.std.proofs.Common.{◌≡◌, ◌-◌, ◌∙◌, arith}
use Rattle.rx_search.specs.ByteClasses.{class_count}
use Rattle.rx_onepass_table.proofs.lemmas.CellLemmas.{final-value}
use Rattle.rx_onepass_table.proofs.table.Table.pattern_epsilons.Goals as goal

pub returns : goal.returns
returns c =
    let e = c.alphabet_len-column.ensures.value in
    let column : c.alphabet_len-column.result - 1 ≡ class_count c.self.inside.classes = omega arith in
    c.of_word.ensures
    ∙ final-value _ _ c.self.invariant c.self.view_is c.args.row c.requires (c.alphabet_len-column.result - 1) column c.index.result.now _ c.index.ensures
