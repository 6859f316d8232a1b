use Rattle.std.proofs.Common.{◌≡◌, true, false, List, ℕ, length, ap, sym, ◌∙◌, arith}
use Rattle.std.specs.Vec.{vec_items}
use Rattle.memchr.specs.Find.{occurs_at}
use Rattle.rx_prefilter.specs.Needles.{span_at}
use Rattle.rx_prefilter.proofs.ListLemmas.{at_next, drop-map_all}
use Rattle.rx_prefilter.proofs.NeedleLemmas.{span_at-nil, span_at-here, span_at-next}
use Rattle.rx_prefilter.proofs.needles.span_at.Goals as goal

pub returns-then-occurs_at : goal.returns-then-occurs_at
returns-then-occurs_at c =
    let text = c.args.text.now in
    let at = c.args.at in
    let x = c.needle-item.result in
    let occurs : occurs_at text x.items at ≡ true = rw c.deref.ensures.value at (sym c.occurs_at.ensures ∙ c.if-occurs_at.true) in
    let len : c.len.result ≡ length x.items = omega (arith, x.ok.0, c.len.ensures) in
    rw len
    (sym (at_next vec_items (λ (ns : List (List ℕ)). span_at ns text at) c.args.needles.now c.loop-needle.needle-index x (omega arith) c.needle-item.is
    c.loop-needle.invariant
    ∙ span_at-here text at x.items _ occurs))

pub loop-needle-preserved : goal.loop-needle-preserved
loop-needle-preserved c =
    let text = c.args.text.now in
    let at = c.args.at in
    let x = c.needle-item.result in
    let occurs : occurs_at text x.items at ≡ false = rw c.deref.ensures.value at (sym c.occurs_at.ensures ∙ c.if-occurs_at.false) in
    at_next vec_items (λ (ns : List (List ℕ)). span_at ns text at) c.args.needles.now c.loop-needle.needle-index x (omega arith) c.needle-item.is
    c.loop-needle.invariant
    ∙ span_at-next text at x.items _ occurs

pub returns : goal.returns
returns c =
    let text = c.args.text.now in
    let at = c.args.at in
    sym (c.loop-needle.invariant
    ∙ ap (λ (ns : List (List ℕ)). span_at ns text at) (drop-map_all vec_items c.args.needles.now c.loop-needle.needle-index c.loop-needle-test.false)
    ∙ span_at-nil text at)
