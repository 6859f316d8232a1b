use Rattle.std.proofs.lemmas.List.Elements.{All-get_or}
use Rattle.rx_dfa.specs.declared.lazy.key_row.KeyRow.{KeyRow}
use Rattle.std.specs.Option.{option_map}
use Rattle.std.proofs.lemmas.Option.{slice_get-map, slice_get_read}
use Rattle.rx_dfa.specs.KeyRow.{key_in, LiesWithin}
use Rattle.rx_determinize.specs.Key.{Key}
use Rattle.std.proofs.lemmas.Result.{err_from_is_err_and}
use Rattle.std.proofs.lemmas.List.{length-map}
use Rattle.std.specs.Prelude.{Some, slice_get, slice_range}
use Rattle.std.proofs.Common.{◌≡◌, ◌<◌, List, ◌++◌, length, refl, sym, ◌∙◌, ap, subst, arith, ◌*◌, ◌≤◌}
use Rattle.rx_dfa.proofs.lazy.arena.KeyArena.read.Goals as goal

pub returns : goal.returns
returns c =
    let s = c.self.inside in
    let row = c.index-row.result.now in
    let lt : c.args.number < length s.rows.items =
    subst (λ n. c.args.number < n) (length-map s.rows.items (key_in s.threads.items s.matches.items))
    (subst (λ (ks : List Key). c.args.number < length ks) (sym c.self.view_is) c.requires) in
    let threads : c.extend_from_slice.new.self.items ≡ slice_range s.threads.items row.threads row.threads_end =
    c.in_ok-extend_from_slice.ensures.items ∙ (λ j. c.clear.ensures.items j ++ slice_range (c.deref.ensures.value j) row.threads row.threads_end) in
    let matches : c.extend_from_slice-2.new.self.items ≡ slice_range s.matches.items row.matches row.matches_end =
    c.in_ok-extend_from_slice-2.ensures.items ∙ (λ j. c.clear-2.ensures.items j ++ slice_range (c.deref-2.ensures.value j) row.matches row.matches_end) in
    let there : slice_get c.args.self.now c.args.number ≡ Some (key_in s.threads.items s.matches.items row) =
    ap (λ (ks : List Key). slice_get ks c.args.number) (sym c.self.view_is)
    ∙ slice_get-map (key_in s.threads.items s.matches.items) s.rows.items c.args.number
    ∙ ap (option_map (key_in s.threads.items s.matches.items)) (slice_get_read s.rows.items (length s.rows.items) c.args.number row refl lt c.index-row.ensures) in
    there ∙ (λ j. Some (record { threads = sym threads j; loops = row.loops; matches = sym matches j; before = row.before }))

pub index-row-requires : goal.index-row-requires
index-row-requires c =
    let s = c.self.inside in
    let lt : c.args.number < length s.rows.items =
    subst (λ n. c.args.number < n) (length-map s.rows.items (key_in s.threads.items s.matches.items))
    (subst (λ (ks : List Key). c.args.number < length ks) (sym c.self.view_is) c.requires) in
    omega (arith, lt, s.rows.ok.0)

pub returns-in_err-extend_from_slice : goal.returns-in_err-extend_from_slice
returns-in_err-extend_from_slice c =
    let e = err_from_is_err_and c.from_residual.result c.from_residual.ensures.1 in
    rw (e.1) tt

pub returns-in_err-extend_from_slice-2 : goal.returns-in_err-extend_from_slice-2
returns-in_err-extend_from_slice-2 c =
    let e = err_from_is_err_and c.from_residual-in_err-extend_from_slice-2.result c.from_residual-in_err-extend_from_slice-2.ensures.1 in
    rw (e.1) tt

pub slice_bounds-extend_from_slice-count : goal.slice_bounds-extend_from_slice-count
slice_bounds-extend_from_slice-count c =
    let s = c.self.inside in
    let lt : c.args.number < length s.rows.items =
    subst (λ n. c.args.number < n) (length-map s.rows.items (key_in s.threads.items s.matches.items))
    (subst (λ (ks : List Key). c.args.number < length ks) (sym c.self.view_is) c.requires) in
    let P = LiesWithin (length s.threads.items) (length s.matches.items) in
    let lies : P c.index-row.result.now =
    subst (λ (r : KeyRow). P r) (sym c.index-row.ensures) (All-get_or P s.rows.items c.args.number c.index-row.result.now lt c.self.invariant) in
    lies.threads_begin

pub offset_bounds-deref-row : goal.offset_bounds-deref-row
offset_bounds-deref-row c =
    let s = c.self.inside in
    let lt : c.args.number < length s.rows.items =
    subst (λ n. c.args.number < n) (length-map s.rows.items (key_in s.threads.items s.matches.items))
    (subst (λ (ks : List Key). c.args.number < length ks) (sym c.self.view_is) c.requires) in
    let P = LiesWithin (length s.threads.items) (length s.matches.items) in
    let lies : P c.index-row.result.now =
    subst (λ (r : KeyRow). P r) (sym c.index-row.ensures) (All-get_or P s.rows.items c.args.number c.index-row.result.now lt c.self.invariant) in
    let long = ap length c.deref.ensures.value in
    omega (arith, lies.threads_begin, lies.threads_within, long, c.deref.type_inv)

pub slice_bounds-extend_from_slice-count-2 : goal.slice_bounds-extend_from_slice-count-2
slice_bounds-extend_from_slice-count-2 c =
    let s = c.self.inside in
    let lt : c.args.number < length s.rows.items =
    subst (λ n. c.args.number < n) (length-map s.rows.items (key_in s.threads.items s.matches.items))
    (subst (λ (ks : List Key). c.args.number < length ks) (sym c.self.view_is) c.requires) in
    let P = LiesWithin (length s.threads.items) (length s.matches.items) in
    let lies : P c.index-row.result.now =
    subst (λ (r : KeyRow). P r) (sym c.index-row.ensures) (All-get_or P s.rows.items c.args.number c.index-row.result.now lt c.self.invariant) in
    lies.matches_begin

pub offset_bounds-deref-row-2 : goal.offset_bounds-deref-row-2
offset_bounds-deref-row-2 c =
    let s = c.self.inside in
    let lt : c.args.number < length s.rows.items =
    subst (λ n. c.args.number < n) (length-map s.rows.items (key_in s.threads.items s.matches.items))
    (subst (λ (ks : List Key). c.args.number < length ks) (sym c.self.view_is) c.requires) in
    let P = LiesWithin (length s.threads.items) (length s.matches.items) in
    let lies : P c.index-row.result.now =
    subst (λ (r : KeyRow). P r) (sym c.index-row.ensures) (All-get_or P s.rows.items c.args.number c.index-row.result.now lt c.self.invariant) in
    let long = ap length c.deref-2.ensures.value in
    omega (arith, lies.matches_begin, lies.matches_within, long, c.deref-2.type_inv)
