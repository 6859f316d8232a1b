use Rattle.std.proofs.Common.{◌≡◌, Some, slice_get, refl, ◌∙◌, ap, subst}
use Rattle.std.proofs.lemmas.Option.{slice_get_read}
use Rattle.std.specs.Arc.{arc_value}
use Rattle.rx_search.specs.GroupTables.{IsRowOf}
use Rattle.rx_search.proofs.GroupLemmas.{is_row_of}
use Rattle.rx_search.proofs.group_info.GroupInfo.explicit.Goals as goal

pub returns : goal.returns
returns c =
    let tables = arc_value c.self.inside.tables in
    let row = c.in_ok-explicit.explicit.now in
    let lookup = c.in_ok-explicit.ensures.lookup in
    let same : c.deref-2.result.now ≡ tables.patterns.items = c.deref-2.ensures.value ∙ ap (λ t. t.patterns.items) c.deref.ensures in
    let there : slice_get tables.patterns.items c.args.pid ≡ Some row =
    rw (← same, ← c.as_usize.ensures.value) (slice_get_read _ _ _ row refl lookup.3.0 lookup.1) in
    subst (λ info. IsRowOf info c.args.pid row) c.self.view_is (is_row_of tables.names.items tables.patterns.items c.args.pid row c.self.invariant there)
