use Rattle.std.proofs.Common.{◌≡◌, ℕ, ◌+◌, ◌<◌, ◌^◌, List, length, map, drop, arith, ap, sym, ◌∙◌}
use Rattle.std.specs.Vec.{vec_items}
use Rattle.rx_prefilter.specs.Choices.{total_length, saturated}
use Rattle.rx_prefilter.proofs.ListLemmas.{drop-map_more, drop-map_all}
use Rattle.rx_prefilter.proofs.needles.total_length.Goals as goal

pub loop-needle-preserved : goal.loop-needle-preserved
loop-needle-preserved c =
    let x = c.needle-item.result in
    let next = drop-map_more vec_items c.args.needles.now c.loop-needle.needle-index x (omega arith) c.needle-item.is in
    let total = c.loop-needle.total in
    let long : c.len.result ≡ length x.items = omega (arith, c.len.ensures, x.ok.0) in
    let invariant = c.loop-needle.invariant in
    let rest = total_length (drop (c.loop-needle.needle-index + 1) (map vec_items c.args.needles.now)) in
    let step : saturated (total + (length x.items + rest)) ≡ saturated (c.saturating_add-total.result + rest) =
    omega (arith, c.saturating_add-total.ensures, long) in
    (omega arith, invariant.1 ∙ ap (λ (ns : List (List ℕ)). saturated (total + total_length ns)) next ∙ step)

pub returns : goal.returns
returns c =
    let end = drop-map_all vec_items c.args.needles.now c.loop-needle.needle-index c.loop-needle-test.false in
    let total = c.loop-needle.total in
    let invariant = c.loop-needle.invariant in
    let all = invariant.1 ∙ ap (λ (ns : List (List ℕ)). saturated (total + total_length ns)) end in
    let fits : total < 2 ^ 64 = invariant.0 in
    let same : saturated (total + 0) ≡ total = omega arith in
    sym (all ∙ same)
