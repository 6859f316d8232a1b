use Rattle.std.proofs.Common.{◌++◌, ap, ◌∙◌}
use Rattle.rx_model.specs.Search.{greatest_group}
use Rattle.rx_search.specs.GroupInfo.{names_of, unnamed_groups}
use Rattle.rx_hir.specs.Names.{name_in, filled}
use Rattle.rx_hir.proofs.NamesLemmas.{names-append, filled-unnamed}
use Rattle.rx_hir.proofs.hir.names.group_names.Goals as goal

pub returns : goal.returns
returns c =
    let h = c.args.hir.now in
    let given =
    c.in_ok-add_names.ensures.added ∙ ap (filled (λ g. name_in g h) 1) (c.in_ok-explicit.ensures ∙ ap unnamed_groups c.greatest_group.ensures)
    ∙ filled-unnamed (λ g. name_in g h) 1 (greatest_group h) in
    ap names_of c.in_ok-append.ensures.items
    ∙ names-append c.in_ok-names.names.items c.add_names.new.names.items
    ∙ (λ i. c.in_ok-names.ensures i ++ given i)
