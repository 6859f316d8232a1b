use Rattle.std.proofs.Common.{arith}
use Rattle.std.proofs.lemmas.Grind.{common_steps}
use Rattle.std.proofs.lemmas.List.{take_rest}
use Rattle.rx_nfa.proofs.lemmas.classes.RangesLemmas.{IsRest-same, IsRest-next, EndsFrom-at, EndsFrom-past}
use Rattle.rx_nfa.proofs.class.ranges.skip_below.Goals.{then-loop-skipped-test+else-ranges-skipped, else-loop-skipped-test}
use Rattle.rx_nfa.proofs.class.ranges.skip_below.Goals as goal

pub loop-skipped-init : goal.loop-skipped-init
loop-skipped-init c = (omega arith, IsRest-same c.args.start c.args.ranges.now c.requires)

pub loop-skipped-preserved : goal.loop-skipped-preserved
loop-skipped-preserved c = (
  grind (arith, common_steps),
  IsRest-next c.args.start c.loop-skipped.skipped c.args.ranges.now (grind (arith, common_steps)) (grind (arith, common_steps))
      c.loop-skipped.invariant.1,
)

pub returns-clause-rest : goal.returns-clause-rest
returns-clause-rest c = rw take_rest c.loop-skipped.invariant.1

pub returns-clause-first : goal.returns-clause-first
returns-clause-first c =
    rw take_rest (elim c.loop-skipped-test.branch [
      | then-loop-skipped-test+else-ranges-skipped w ↦
          EndsFrom-at c.args.start c.loop-skipped.skipped c.args.ranges.now (grind (arith, common_steps)) (grind (arith, common_steps))
      | else-loop-skipped-test w ↦
          EndsFrom-past c.args.start c.loop-skipped.skipped c.args.ranges.now (grind (arith, common_steps))
    ])
