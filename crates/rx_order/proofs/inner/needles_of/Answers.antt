use Rattle.std.proofs.Common.{◌++◌, ◌∷◌, [], map, sym, ap, ◌∙◌}
use Rattle.std.specs.Vec.{vec_items}
use Rattle.std.proofs.lemmas.List.{map-append, map_more, take_all}
use Rattle.std.proofs.lemmas.Result.{IfOk-from_err}
use Rattle.rx_literal.specs.Literals.{bytes_of}
use Rattle.rx_order.proofs.inner.needles_of.Goals as goal

pub loop-literal-init : goal.loop-literal-init
loop-literal-init c = ap (map vec_items) c.new-needles.ensures.items

pub returns-in_err-from_slice : goal.returns-in_err-from_slice
returns-in_err-from_slice c = IfOk-from_err c.from_residual.result _ c.from_residual.ensures.0

pub returns-in_err-push : goal.returns-in_err-push
returns-in_err-push c = IfOk-from_err c.from_residual-in_err-push.result _ c.from_residual-in_err-push.ensures.0

pub loop-literal-preserved : goal.loop-literal-preserved
loop-literal-preserved c =
    let x = c.in_ok-from_slice.field-0 in
    let same = c.in_ok-from_slice.ensures.items ∙ c.as_bytes.ensures ∙ ap bytes_of c.literal-item.is in
    ap (map vec_items) c.in_ok-push.ensures.items ∙ map-append vec_items c.loop-literal.needles.items (x ∷ [])
    ∙ (λ k. c.loop-literal.invariant k ++ same k ∷ [])
    ∙ sym (map_more bytes_of c.args.literals.now c.loop-literal.literal-index c.literal-item.result c.loop-literal-test.true)

pub returns : goal.returns
returns c =
    c.loop-literal.invariant ∙ ap (map bytes_of) (take_all c.loop-literal.literal-index c.args.literals.now c.loop-literal-test.false)
