use Rattle.std.proofs.Common.{◌∙◌, map, ap}
use Rattle.std.specs.Vec.{vec_items}
use Rattle.std.proofs.lemmas.Result.{IfOk-from_err}
use Rattle.rx_literal.specs.Literals.{bytes_of}
use Rattle.rx_prefilter.proofs.ShownLemmas.{shown-more, shown-end}
use Rattle.rx_prefilter.proofs.prefixes.needles_of.Goals as goal

pub loop-literal-init : goal.loop-literal-init
loop-literal-init c = ap (map vec_items) c.new-needles.ensures.items

pub returns-in_err-from_slice : goal.returns-in_err-from_slice
returns-in_err-from_slice c = IfOk-from_err c.from_residual.result _ c.from_residual.ensures.0

pub returns-in_err-push : goal.returns-in_err-push
returns-in_err-push c = IfOk-from_err c.from_residual-in_err-push.result _ c.from_residual-in_err-push.ensures.0

pub loop-literal-preserved : goal.loop-literal-preserved
loop-literal-preserved c =
    shown-more vec_items bytes_of c.args.literals.now c.loop-literal.literal-index c.loop-literal.needles.items c.push.new.self.items
    c.in_ok-from_slice.field-0 c.literal-item.result c.loop-literal-test.true c.literal-item.is (c.in_ok-from_slice.ensures.items ∙ c.as_bytes.ensures)
    c.in_ok-push.ensures.items c.loop-literal.invariant

pub returns : goal.returns
returns c =
    shown-end vec_items bytes_of c.args.literals.now c.loop-literal.literal-index c.loop-literal.needles.items c.loop-literal-test.false c.loop-literal.invariant
