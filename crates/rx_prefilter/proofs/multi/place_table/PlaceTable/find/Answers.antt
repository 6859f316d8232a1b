use Rattle.std.proofs.Common.{◌≤◌, ◌+◌, length, map, arith, sym, ◌∙◌}
use Rattle.std.specs.Vec.{vec_items}
use Rattle.rx_prefilter.proofs.NeedleLemmas.{first_span-window_found, first_span-window_next}
use Rattle.rx_prefilter.proofs.multi.place_table.PlaceTable.find.Goals as goal

pub returns-in-Some : goal.returns-in-Some
returns-in-Some c =
    let needles = map vec_items c.args.self.now.needles.items in
    let text = c.args.text.now in
    let stride = c.args.self.now.stride in
    let invariant = c.loop-at.invariant in
    let inside : c.loop-at.at + (stride + stride) ≤ length text + 1 = omega arith in
    sym (invariant.1 ∙ first_span-window_found needles text c.loop-at.at (stride + stride) c.in-Some.span inside (sym c.in_two_windows.ensures ∙ c.in-Some.is))

pub loop-at-preserved : goal.loop-at-preserved
loop-at-preserved c =
    let needles = map vec_items c.args.self.now.needles.items in
    let text = c.args.text.now in
    let stride = c.args.self.now.stride in
    let invariant = c.loop-at.invariant in
    let inside : c.loop-at.at + (stride + stride) ≤ length text + 1 = omega arith in (
      c.pass-at-in-loop-at.ensures.within,
      invariant.1 ∙ first_span-window_next needles text c.loop-at.at (stride + stride) inside (sym c.in_two_windows.ensures ∙ c.in_default.is)
          ∙ c.pass-at-in-loop-at.ensures.same,
    )

pub returns : goal.returns
returns c = let invariant = c.loop-at.invariant in c.window_by_window.ensures ∙ sym invariant.1
