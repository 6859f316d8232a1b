use Rattle.std.proofs.Common.{◌≡◌, ◌+◌, ◌-◌, ◌<◌, length, map, slice_index, arith, ap, ◌∙◌}
use Rattle.std.specs.Vec.{vec_items}
use Rattle.std.proofs.lemmas.List.{get_or_read}
use Rattle.rx_prefilter.specs.Places.{pair_at}
use Rattle.rx_prefilter.proofs.PlaceLemmas.{unmarked_window}
use Rattle.rx_prefilter.proofs.multi.place_table.PlaceTable.marks.Goals as goal

pub returns : goal.returns
returns c =
    let table = c.requires.table in
    let ps = c.args.self.now.places.items in
    let text = c.args.text.now in
    let at = c.args.at in
    let stride = c.args.self.now.stride in
    let within : c.pair_at.result < length ps = omega (arith, table.whole, c.pair_at.ensures.bound) in
    let within_before : c.pair_at-2.result < length ps = omega (arith, table.whole, c.pair_at-2.ensures.bound) in
    let here : c.index.result.now ≡ slice_index ps (pair_at text (at + stride - 1)) =
    get_or_read ps c.pair_at.result c.index.result.now within c.index.ensures 0 ∙ ap (slice_index ps) c.pair_at.ensures.value in
    unmarked_window ps stride text (map vec_items c.args.self.now.needles.items) at c.index-2.result.now c.index.result.now table.marked table.some here
    (λ more. get_or_read ps c.pair_at-2.result c.index-2.result.now within_before c.index-2.ensures 0 ∙ ap (slice_index ps) (c.pair_at-2.ensures.value
    ∙ ap (pair_at text) (let m = c.max.ensures in omega (arith, more, m))))
