use Rattle.std.proofs.Common.{◌≡◌, List, ◌∷◌, length, Option, None, Some, slice_get, slice_range, refl, ◌∙◌, ap, sym, arith}
use Rattle.std.proofs.lemmas.Option.{slice_get_read}
use Rattle.std.specs.Arc.{arc_value}
use Rattle.rx_search.specs.GroupInfo.{groups_at, names_of}
use Rattle.rx_search.proofs.GroupLemmas.{row_within, groups_at-names}
use Rattle.rx_search.proofs.group_info.GroupInfo.explicit_names.Goals as goal

pub part-requires : goal.part-requires
part-requires c =
    let tables = arc_value c.self.inside.tables in
    let row = c.in_ok-explicit.field-0.now in
    let lookup = c.in_ok-explicit.ensures.lookup in
    let same : c.deref-2.result.now ≡ tables.patterns.items = c.deref-2.ensures.value ∙ ap (λ t. t.patterns.items) c.deref.ensures in
    let there : slice_get tables.patterns.items c.args.pid ≡ Some row =
    rw (← same, ← c.as_usize.ensures.value) (slice_get_read _ _ _ row refl lookup.3.0 lookup.1) in
    let within = row_within tables.names.items tables.patterns.items c.args.pid row c.self.invariant there in
    let names : length c.as_slice.result.now ≡ length tables.names.items = ap length (c.as_slice.ensures.value ∙ ap (λ t. t.names.items) c.deref-3.ensures) in
    record { ordered = within.0; within = omega (arith, within.1, names) }

pub returns : goal.returns
returns c =
    let tables = arc_value c.self.inside.tables in
    let row = c.in_ok-explicit.field-0.now in
    let lookup = c.in_ok-explicit.ensures.lookup in
    let same : c.deref-2.result.now ≡ tables.patterns.items = c.deref-2.ensures.value ∙ ap (λ t. t.patterns.items) c.deref.ensures in
    let there : slice_get tables.patterns.items c.args.pid ≡ Some row =
    rw (← same, ← c.as_usize.ensures.value) (slice_get_read _ _ _ row refl lookup.3.0 lookup.1) in
    let names : c.as_slice.result.now ≡ tables.names.items = c.as_slice.ensures.value ∙ ap (λ t. t.names.items) c.deref-3.ensures in
    let part : slice_range tables.names.items row.start row.end ≡ c.part.result.now =
    ap (λ (xs : List (Option _)). slice_range xs row.start row.end) (sym names) ∙ sym c.part.ensures in
    ap (λ info. groups_at info c.args.pid) (sym c.self.view_is) ∙ groups_at-names tables.names.items tables.patterns.items c.args.pid row there
    ∙ ap (λ (xs : List (Option _)). None ∷ names_of xs) part
