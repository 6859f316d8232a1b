use Rattle.std.proofs.Common.{ℕ, List, max, arith, ap, ◌∙◌}
use Rattle.std.specs.Vec.{vec_items}
use Rattle.rx_prefilter.specs.Choices.{greatest_length}
use Rattle.rx_prefilter.proofs.ListLemmas.{drop-map_more}
use Rattle.rx_prefilter.proofs.needles.greatest_length.Goals as goal

pub loop-needle-preserved : goal.loop-needle-preserved
loop-needle-preserved c =
    let x = c.needle-item.result in
    let next = drop-map_more vec_items c.args.needles.now c.loop-needle.needle-index x (omega arith) c.needle-item.is in
    let greatest = c.loop-needle.greatest in
    let long = x.ok.0 in
    c.loop-needle.invariant ∙ ap (λ (ns : List (List ℕ)). max greatest (greatest_length ns)) next ∙ omega (arith, c.len.ensures, long)
