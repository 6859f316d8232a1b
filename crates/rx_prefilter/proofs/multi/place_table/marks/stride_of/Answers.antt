use Rattle.std.proofs.Common.{◌≡◌, ◌<◌, ◌≤◌, ℕ, List, true, length, map, take, arith, sym, ap}
use Rattle.std.specs.Vec.{vec_items}
use Rattle.std.proofs.lemmas.Bool.{leb-true}
use Rattle.std.proofs.lemmas.List.{take_all}
use Rattle.std.proofs.lemmas.List.Elements.{All-same}
use Rattle.rx_prefilter.specs.Choices.{has_bytes}
use Rattle.rx_prefilter.proofs.ListLemmas.{list_all-at, map-take_more}
use Rattle.rx_prefilter.proofs.PlaceLemmas.{all_longer_more}
use Rattle.rx_prefilter.proofs.multi.place_table.marks.stride_of.Goals as goal

pub overflow_sub-len : goal.overflow_sub-len
overflow_sub-len c =
    let x = c.needle-item.result in
    let two : has_bytes 2 x.items ≡ true =
    list_all-at (has_bytes 2) vec_items c.args.needles.now c.loop-needle.needle-index x (omega arith) c.needle-item.is c.requires in
    let long = leb-true 2 (length x.items) two in
    omega (arith, x.ok.0, long, c.len.ensures)

pub loop-needle-preserved : goal.loop-needle-preserved
loop-needle-preserved c =
    let x = c.needle-item.result in
    let i = c.loop-needle.needle-index in
    let needles = c.args.needles.now in
    let two : has_bytes 2 x.items ≡ true = list_all-at (has_bytes 2) vec_items needles i x (omega arith) c.needle-item.is c.requires in
    let long = leb-true 2 (length x.items) two in
    let len : c.len.result ≡ length x.items = omega (arith, x.ok.0, c.len.ensures) in
    let invariant = c.loop-needle.invariant in
    let some : 0 < c.min-stride.result = omega (arith, c.min-stride.ensures, invariant.0) in
    let few : c.min-stride.result ≤ 8 = omega (arith, c.min-stride.ensures, invariant.1) in (
      some,
      few,
      all_longer_more c.loop-needle.stride c.min-stride.result (map vec_items (take i needles)) _ x.items
          (omega (arith, c.min-stride.ensures)) (omega (arith, c.min-stride.ensures)) (map-take_more vec_items needles i x (omega arith) c.needle-item.is)
          invariant.2,
    )

pub returns-clause-short : goal.returns-clause-short
returns-clause-short c =
    let needles = c.args.needles.now in
    let P : List ℕ → Type 0 = λ n. c.loop-needle.stride < length n in
    All-same P (map vec_items needles) (map vec_items (take c.loop-needle.needle-index needles))
    (ap (map vec_items) (sym (take_all c.loop-needle.needle-index needles c.loop-needle-test.false))) c.loop-needle.invariant.2
