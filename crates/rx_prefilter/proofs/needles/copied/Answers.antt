use Rattle.std.proofs.Common.{◌∙◌, map, ap}
use Rattle.std.specs.Vec.{vec_items}
use Rattle.std.proofs.lemmas.Result.{IfOk-from_err}
use Rattle.rx_prefilter.proofs.ShownLemmas.{shown-more, shown-end}
use Rattle.rx_prefilter.proofs.needles.copied.Goals as goal

pub loop-needle-init : goal.loop-needle-init
loop-needle-init c = ap (map vec_items) c.new-copies.ensures.items

pub returns-in_err-from_slice : goal.returns-in_err-from_slice
returns-in_err-from_slice c = IfOk-from_err c.from_residual.result _ c.from_residual.ensures.0

pub returns-in_err-push : goal.returns-in_err-push
returns-in_err-push c = IfOk-from_err c.from_residual-in_err-push.result _ c.from_residual-in_err-push.ensures.0

pub loop-needle-preserved : goal.loop-needle-preserved
loop-needle-preserved c =
    shown-more vec_items vec_items c.args.needles.now c.loop-needle.needle-index c.loop-needle.copies.items c.push.new.self.items c.in_ok-from_slice.field-0
    c.needle-item.result c.loop-needle-test.true c.needle-item.is (c.in_ok-from_slice.ensures.items ∙ c.deref.ensures.value) c.in_ok-push.ensures.items
    c.loop-needle.invariant

pub returns : goal.returns
returns c =
    shown-end vec_items vec_items c.args.needles.now c.loop-needle.needle-index c.loop-needle.copies.items c.loop-needle-test.false c.loop-needle.invariant
