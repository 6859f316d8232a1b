use Rattle.std.proofs.Common.{ℕ, ◌<◌, length, slice_index, arith, sym}
use Rattle.rx_prefilter.proofs.ByteLemmas.{first_span-marked, first_span-unmarked}
use Rattle.rx_prefilter.proofs.byte_set.ByteSet.find.Goals as goal

pub returns-then-at-text : goal.returns-then-at-text
returns-then-at-text c =
    let text = c.args.text.now in
    let place = c.first_place-at in
    let fits : (k : ℕ) → slice_index text k < 256 = λ k. let fit = (c.type_inv.text k).fits in omega (arith, fit) in
    rw (← c.self.view_is) (sym (first_span-unmarked c.self.inside.is_needle text c.self.inside.bytes.items c.self.invariant fits c.args.from place.result
    place.ensures.order c.if-at-text.true place.ensures.none))

pub returns : goal.returns
returns c =
    let text = c.args.text.now in
    let place = c.first_place-at in
    let fits : (k : ℕ) → slice_index text k < 256 = λ k. let fit = (c.type_inv.text k).fits in omega (arith, fit) in
    let within : place.result < length text = omega (arith, place.ensures.within, c.if-at-text.false) in
    rw (← c.self.view_is) (sym (first_span-marked c.self.inside.is_needle text c.self.inside.bytes.items c.self.invariant fits c.args.from place.result
    place.ensures.order within place.ensures.none (place.ensures.there within)))
