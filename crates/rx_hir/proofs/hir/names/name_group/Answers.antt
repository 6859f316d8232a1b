use Rattle.std.proofs.Common.{◌≡◌, true, false, not, ap, ◌∙◌}
use Rattle.std.specs.Prelude.{is_some}
use Rattle.rx_search.specs.GroupInfo.{names_of}
use Rattle.std.proofs.Common.{option_map, string_bytes}
use Rattle.rx_hir.specs.Names.{only_at, filled}
use Rattle.rx_hir.proofs.NamesLemmas.{name-unnamed, name-kept}
use Rattle.rx_hir.proofs.hir.names.name_group.Goals as goal

pub returns-in_ok-names-clause-added : goal.returns-in_ok-names-clause-added
returns-in_ok-names-clause-added c =
    let none : is_some c.index.result.now ≡ false = c.is_none.ensures ∙ ap not c.if-is_none.true in
    name-unnamed c.args.names.now.items c.args.group c.index.result.now c.in_ok-names.field-0 c.requires.explicit c.requires.inside c.index.ensures none
    ∙ ap (λ n. filled (only_at c.args.group n) 1 (names_of c.args.names.now.items)) c.in_ok-names.ensures

pub returns-else-is_none-clause-added : goal.returns-else-is_none-clause-added
returns-else-is_none-clause-added c =
    let some : is_some c.index.result.now ≡ true = c.is_none.ensures ∙ ap not c.if-is_none.false in
    name-kept c.args.names.now.items c.args.group c.index.result.now (option_map string_bytes c.args.name.now) c.requires.explicit c.requires.inside
    c.index.ensures some
