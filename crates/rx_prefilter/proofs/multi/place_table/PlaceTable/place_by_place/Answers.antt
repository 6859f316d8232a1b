use Rattle.std.proofs.Common.{◌≡◌, ◌+◌, ◌-◌, suc, map, arith, sym, ap, ◌∙◌}
use Rattle.std.specs.Vec.{vec_items}
use Rattle.rx_prefilter.specs.Needles.{span_among}
use Rattle.rx_prefilter.proofs.NeedleLemmas.{span_among-here, span_among-next, span_among-zero}
use Rattle.rx_prefilter.proofs.multi.place_table.PlaceTable.place_by_place.Goals as goal

pub loop-i-init : goal.loop-i-init
loop-i-init c =
    let needles = map vec_items c.args.self.now.needles.items in
    let from : c.args.at ≡ c.args.at + 0 = omega arith in
    let count : c.args.self.now.stride ≡ c.args.self.now.stride - 0 = omega arith in
    ap (λ n. span_among needles c.args.text.now c.args.at n) count ∙ ap (λ at. span_among needles c.args.text.now at (c.args.self.now.stride - 0)) from

pub returns-in-Some : goal.returns-in-Some
returns-in-Some c =
    let needles = map vec_items c.args.self.now.needles.items in
    let text = c.args.text.now in
    let at = c.args.at + c.loop-i.i in
    let left : c.args.self.now.stride - c.loop-i.i ≡ suc (c.args.self.now.stride - c.loop-i.i - 1) = omega arith in
    sym (c.loop-i.invariant ∙ ap (λ n. span_among needles text at n) left
    ∙ span_among-here needles text at (c.args.self.now.stride - c.loop-i.i - 1) c.in-Some.span (sym c.at_place.ensures ∙ c.in-Some.is))

pub loop-i-preserved : goal.loop-i-preserved
loop-i-preserved c =
    let needles = map vec_items c.args.self.now.needles.items in
    let text = c.args.text.now in
    let at = c.args.at + c.loop-i.i in
    let left : c.args.self.now.stride - c.loop-i.i ≡ suc (c.args.self.now.stride - c.loop-i.i - 1) = omega arith in
    let fewer : c.args.self.now.stride - c.loop-i.i - 1 ≡ c.args.self.now.stride - (c.loop-i.i + 1) = omega arith in
    let next : at + 1 ≡ c.args.at + (c.loop-i.i + 1) = omega arith in
    c.loop-i.invariant ∙ ap (λ n. span_among needles text at n) left
    ∙ span_among-next needles text at (c.args.self.now.stride - c.loop-i.i - 1) (sym c.at_place.ensures ∙ c.in_default.is)
    ∙ ap (λ n. span_among needles text (at + 1) n) fewer ∙ ap (λ a. span_among needles text a (c.args.self.now.stride - (c.loop-i.i + 1))) next

pub returns : goal.returns
returns c =
    let needles = map vec_items c.args.self.now.needles.items in
    let text = c.args.text.now in
    let at = c.args.at + c.loop-i.i in
    let done : c.args.self.now.stride - c.loop-i.i ≡ 0 = omega arith in
    sym (c.loop-i.invariant ∙ ap (λ n. span_among needles text at n) done ∙ span_among-zero needles text at)
