use Rattle.std.proofs.Common.{◌≡◌, ◌<◌, ◌+◌, length, map, slice_index, arith, sym, ap, ◌∙◌}
use Rattle.std.specs.Int.{bit_at}
use Rattle.std.specs.Vec.{vec_items}
use Rattle.std.proofs.lemmas.List.{get_or_read}
use Rattle.std.proofs.lemmas.Nat.Bits.{shr_and_one}
use Rattle.rx_prefilter.specs.Places.{pair_at}
use Rattle.rx_prefilter.proofs.PlaceLemmas.{unmarked_none, short_none}
use Rattle.rx_prefilter.proofs.multi.place_table.PlaceTable.at_place.Goals as goal

pub returns-then-text-at : goal.returns-then-text-at
returns-then-text-at c =
    let table = c.requires.table in
    sym (short_none c.args.self.now.places.items c.args.self.now.stride c.args.text.now (map vec_items c.args.self.now.needles.items) c.args.at table.marked
    (omega arith))

pub returns-then-index-j-eq0 : goal.returns-then-index-j-eq0
returns-then-index-j-eq0 c =
    let table = c.requires.table in
    let ps = c.args.self.now.places.items in
    let j = c.loop-j.j in
    let p = c.pair_at.result in
    let v = c.index.result.now in
    let within : p < length ps = omega (arith, table.whole, c.pair_at.ensures.bound) in
    let read : v ≡ slice_index ps p = get_or_read ps p v within c.index.ensures 0 in
    let clear : bit_at (slice_index ps (pair_at c.args.text.now (c.args.at + j))) j ≡ 0 =
    ap (λ q. bit_at (slice_index ps q) j) (sym c.pair_at.ensures.value) ∙ ap (λ n. bit_at n j) (sym read) ∙ sym (shr_and_one v j) ∙ c.if-index-j-eq0.true in
    sym (unmarked_none ps c.args.self.now.stride c.args.text.now (map vec_items c.args.self.now.needles.items) c.args.at j table.marked (omega arith)
    (λ one. absurd (omega (arith, clear, one))))
