use Rattle.std.proofs.Common.{◌≤◌, ◌+◌, length, map, arith, ◌∙◌}
use Rattle.std.specs.Vec.{vec_items}
use Rattle.rx_prefilter.proofs.NeedleLemmas.{first_span-window_next}
use Rattle.rx_prefilter.proofs.PlaceLemmas.{neither, two_next}
use Rattle.rx_prefilter.proofs.multi.place_table.PlaceTable.pass.Goals as goal

pub loop-at-preserved : goal.loop-at-preserved
loop-at-preserved c =
    let needles = map vec_items c.args.self.now.needles.items in
    let text = c.args.text.now in
    let at = c.loop-at.at in
    let stride = c.args.self.now.stride in
    let invariant = c.loop-at.invariant in
    let inside : at + (stride + stride) ≤ length text + 1 = omega arith in
    let none = neither c.marks.result c.marks-in-loop-at.result c.if-marks-ne0.false in (
      omega (arith, invariant.0),
      omega arith,
      invariant.2 ∙ first_span-window_next needles text at (stride + stride) inside
          (two_next needles text at stride (c.marks.ensures none.0) ∙ c.marks-in-loop-at.ensures none.1),
    )
