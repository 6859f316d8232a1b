use Rattle.std.proofs.Common.{◌≡◌, ◌<◌, Some, length, map, arith, sym, ◌∙◌}
use Rattle.std.specs.Vec.{vec_items}
use Rattle.rx_prefilter.specs.Jumps.{IsJumpFor}
use Rattle.rx_prefilter.specs.Needles.{span_at, NoneLies}
use Rattle.rx_prefilter.proofs.NeedleLemmas.{first_span-none, first_span-skip, first_span-here, first_span-next}
use Rattle.rx_prefilter.proofs.multi.Multi.find_by_jumps.Goals as goal

pub returns-in_default : goal.returns-in_default
returns-in_default c =
    let needles = map vec_items c.self.inside.table.needles.items in
    let jump : IsJumpFor c.args.jump.now needles = rw (← c.self.view_is) at c.requires.jump in
    let invariant = c.loop-failed.invariant in
    let none = rw c.in_default.is at (c.next.ensures needles jump) in
    rw (← c.self.view_is) (sym (invariant.2 ∙ first_span-none needles c.args.text.now c.loop-failed.at (λ k a b. none k a)))

pub returns-in-Some-at_place : goal.returns-in-Some-at_place
returns-in-Some-at_place c =
    let needles = map vec_items c.self.inside.table.needles.items in
    let text = c.args.text.now in
    let at = c.loop-failed.at in
    let place = c.in-Some.place in
    let jump : IsJumpFor c.args.jump.now needles = rw (← c.self.view_is) at c.requires.jump in
    let invariant = c.loop-failed.invariant in
    let next = rw c.in-Some.is at (c.next.ensures needles jump) in
    let low : place < length text = next.1 in
    let lies : span_at needles text place ≡ Some c.in-Some-at_place.span = sym c.at_place.ensures ∙ c.in-Some-at_place.is in
    rw (← c.self.view_is) (sym (invariant.2 ∙ first_span-skip needles text at place next.0 (omega (arith, low)) next.2
    ∙ first_span-here needles text place c.in-Some-at_place.span (omega (arith, low)) lies))

pub loop-failed-preserved : goal.loop-failed-preserved
loop-failed-preserved c =
    let needles = map vec_items c.self.inside.table.needles.items in
    let text = c.args.text.now in
    let at = c.loop-failed.at in
    let place = c.in-Some.place in
    let jump : IsJumpFor c.args.jump.now needles = rw (← c.self.view_is) at c.requires.jump in
    let invariant = c.loop-failed.invariant in
    let next = rw c.in-Some.is at (c.next.ensures needles jump) in
    let low : place < length text = next.1 in
    let none : NoneLies needles text place = sym c.at_place.ensures ∙ c.in_default-at_place.is in (
      (let first = invariant.0 in let more = next.0 in omega (arith, first, more)),
      omega (arith, low),
      invariant.2 ∙ first_span-skip needles text at place next.0 (omega (arith, low)) next.2 ∙ first_span-next needles text place (omega (arith, low)) none,
    )
