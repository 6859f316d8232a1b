use Rattle.std.proofs.Common.{Bool, ℕ, get_or, refl}
use Rattle.std.specs.Prelude.{nat_lt, slice_index}
use Rattle.std.proofs.lemmas.Result.{IfOk-from_err}
use Rattle.rx_literal.proofs.lemmas.prefixes.WalkedLemmas.{map-one, map-end}
use Rattle.rx_literal.proofs.slots.marked.Goals as goal

pub returns-in_err-marks : goal.returns-in_err-marks
returns-in_err-marks c = IfOk-from_err c.from_residual.result _ c.from_residual.ensures.0

pub bounds-counts-slot : goal.bounds-counts-slot
bounds-counts-slot c = c.requires c.loop-slot.slot-index 0 c.loop-slot-test.true

pub loop-slot-preserved : goal.loop-slot-preserved
loop-slot-preserved c =
    let slots = c.args.slots.now in
    let i = c.loop-slot.slot-index in
    let once : ℕ → Bool = λ s. nat_lt (slice_index c.args.counts.now s) 2 in
    map-one once slots i 0 c.loop-slot.marks.items c.push.new.self.items (once (get_or slots i 0)) c.loop-slot-test.true refl
    c.in_ok-push.ensures.items c.loop-slot.invariant

pub returns-in_err-push : goal.returns-in_err-push
returns-in_err-push c = IfOk-from_err c.from_residual-in_err-push.result _ c.from_residual-in_err-push.ensures.0

pub returns : goal.returns
returns c =
    map-end (λ s. nat_lt (slice_index c.args.counts.now s) 2) c.args.slots.now c.loop-slot.slot-index c.loop-slot.marks.items c.loop-slot-test.false
    c.loop-slot.invariant
