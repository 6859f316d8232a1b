use Rattle.std.proofs.Common.{◌≡◌, ◌+◌, ◌-◌, suc, map, slice_index, arith, sym, ap, ◌∙◌}
use Rattle.std.specs.Vec.{vec_items}
use Rattle.std.proofs.lemmas.List.{get_or_read}
use Rattle.rx_prefilter.specs.Needles.{span_among}
use Rattle.rx_prefilter.proofs.NeedleLemmas.{span_among-here, span_among-next, span_among-zero}
use Rattle.rx_prefilter.proofs.aho_corasick.automaton.Automaton.look_back.Goals as goal

pub returns-in-Some : goal.returns-in-Some
returns-in-Some c =
    let needles = map vec_items c.args.self.now.needles.items in
    let text = c.args.text.now in
    let depths = c.args.self.now.depths.items in
    let d = c.index-depth.result.now in
    let i = c.loop-i.i in
    let read : d ≡ slice_index depths c.args.state = get_or_read depths c.args.state d c.requires.state c.index-depth.ensures 0 in
    let here = c.args.at - d + i in
    let left : d + 1 - i ≡ suc (d - i) = omega (arith, c.loop-i-test.true) in
    let found = rw c.deref.ensures.value at c.span_at.ensures in
    rw (← read) (sym (c.loop-i.invariant ∙ ap (λ n. span_among needles text here n) left
    ∙ span_among-here needles text here (d - i) c.in-Some.span (sym found ∙ c.in-Some.is)))

pub loop-i-preserved : goal.loop-i-preserved
loop-i-preserved c =
    let needles = map vec_items c.args.self.now.needles.items in
    let text = c.args.text.now in
    let d = c.index-depth.result.now in
    let i = c.loop-i.i in
    let here = c.args.at - d + i in
    let left : d + 1 - i ≡ suc (d - i) = omega (arith, c.loop-i-test.true) in
    let fewer : d - i ≡ d + 1 - (i + 1) = omega arith in
    let next : here + 1 ≡ c.args.at - d + (i + 1) = omega arith in
    let none = rw c.deref.ensures.value at c.span_at.ensures in
    c.loop-i.invariant ∙ ap (λ n. span_among needles text here n) left
    ∙ span_among-next needles text here (d - i) (sym none ∙ c.in_default.is)
    ∙ ap (λ n. span_among needles text (here + 1) n) fewer ∙ ap (λ a. span_among needles text a (d + 1 - (i + 1))) next

pub returns : goal.returns
returns c =
    let needles = map vec_items c.args.self.now.needles.items in
    let text = c.args.text.now in
    let depths = c.args.self.now.depths.items in
    let d = c.index-depth.result.now in
    let i = c.loop-i.i in
    let read : d ≡ slice_index depths c.args.state = get_or_read depths c.args.state d c.requires.state c.index-depth.ensures 0 in
    let here = c.args.at - d + i in
    let done : d + 1 - i ≡ 0 = omega (arith, c.loop-i-test.false) in
    rw (← read) (sym (c.loop-i.invariant ∙ ap (λ n. span_among needles text here n) done ∙ span_among-zero needles text here))
