use Rattle.std.proofs.Common.{◌≡◌, ◌∙◌, sym, ap, arith}
use Rattle.std.proofs.lemmas.Grind.{common_steps}
use Rattle.std.specs.Prelude.{true, false}
use Rattle.rx_nfa.specs.Ranges.{has_block, whole_depth}
use Rattle.rx_nfa.proofs.lemmas.classes.RangesLemmas.{whole_depth-next, whole_depth-here, whole_depth-zero}
use Rattle.rx_nfa.proofs.class.ranges.whole_depth.Goals as goal

pub loop-depth-preserved : goal.loop-depth-preserved
loop-depth-preserved c =
    let before = c.loop-depth.invariant in
    let none : has_block c.args.range c.loop-depth.depth ≡ false = grind (arith, common_steps) in
    (omega (arith, before.0), before.1 ∙ whole_depth-next c.args.range c.loop-depth.depth (grind (arith, common_steps)) none)

pub returns-else-not-has_block : goal.returns-else-not-has_block
returns-else-not-has_block c =
    let has : has_block c.args.range c.loop-depth.depth ≡ true = grind (arith, common_steps) in
    sym (c.loop-depth.invariant.1 ∙ whole_depth-here c.args.range c.loop-depth.depth has)

pub returns-after-loop-depth : goal.returns-after-loop-depth
returns-after-loop-depth c =
    let zero : c.loop-depth.depth ≡ 0 = grind (arith, common_steps) in
    zero ∙ sym (c.loop-depth.invariant.1 ∙ ap (λ d. whole_depth d c.args.range) zero ∙ whole_depth-zero c.args.range)
