use Rattle.std.proofs.Common.{◌≤◌, ◌+◌, length, map, arith, sym, ◌∙◌}
use Rattle.std.specs.Vec.{vec_items}
use Rattle.rx_prefilter.proofs.NeedleLemmas.{first_span-window_found, first_span-window_next, first_span-none}
use Rattle.rx_prefilter.proofs.PlaceLemmas.{short_none}
use Rattle.rx_prefilter.proofs.multi.place_table.PlaceTable.window_by_window.Goals as goal

pub returns-in-Some : goal.returns-in-Some
returns-in-Some c =
    let needles = map vec_items c.args.self.now.needles.items in
    let text = c.args.text.now in
    let invariant = c.loop-at.invariant in
    let inside : c.loop-at.at + c.args.self.now.stride ≤ length text + 1 = omega arith in
    sym (invariant.1 ∙ first_span-window_found needles text c.loop-at.at c.args.self.now.stride c.in-Some.span inside (sym c.in_window.ensures ∙ c.in-Some.is))

pub loop-at-preserved : goal.loop-at-preserved
loop-at-preserved c =
    let needles = map vec_items c.args.self.now.needles.items in
    let text = c.args.text.now in
    let invariant = c.loop-at.invariant in
    let inside : c.loop-at.at + c.args.self.now.stride ≤ length text + 1 = omega arith in
    (omega arith, invariant.1 ∙ first_span-window_next needles text c.loop-at.at c.args.self.now.stride inside (sym c.in_window.ensures ∙ c.in_default.is))

pub returns : goal.returns
returns c =
    let needles = map vec_items c.args.self.now.needles.items in
    let text = c.args.text.now in
    let table = c.requires.table in
    let invariant = c.loop-at.invariant in
    sym (invariant.1 ∙ first_span-none needles text c.loop-at.at
    (λ k a b. short_none c.args.self.now.places.items c.args.self.now.stride text needles k table.marked (omega arith)))
