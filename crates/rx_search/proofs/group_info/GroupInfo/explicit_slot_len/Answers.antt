use Rattle.std.proofs.Common.{◌≡◌, ◌+◌, length, ap, subst, arith}
use Rattle.std.specs.Arc.{arc_value}
use Rattle.rx_search.specs.GroupInfo.{group_count}
use Rattle.rx_search.proofs.GroupLemmas.{group_count-tables, length-tables}
use Rattle.rx_search.proofs.group_info.GroupInfo.explicit_slot_len.Goals as goal

pub returns : goal.returns
returns c =
    let tables = arc_value c.self.inside.tables in
    let all : group_count c.args.self.now ≡ length tables.patterns.items + length tables.names.items =
    subst (λ info. group_count info ≡ length tables.patterns.items + length tables.names.items) c.self.view_is
    (group_count-tables tables.names.items tables.patterns.items c.self.invariant) in
    let patterns : length c.args.self.now ≡ length tables.patterns.items =
    subst (λ info. length info ≡ length tables.patterns.items) c.self.view_is (length-tables tables.names.items tables.patterns.items) in
    let names = ap (λ t. length t.names.items) c.deref.ensures in
    omega (arith, all, patterns, names)
