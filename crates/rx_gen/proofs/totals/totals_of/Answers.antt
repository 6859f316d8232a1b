use Rattle.std.proofs.Common.{sym, ap, ◌+◌, ◌∙◌, arith, get_or}
use Rattle.std.proofs.lemmas.List.Sums.{sum_by_more, sum_by_more_le}
use Rattle.rx_gen.specs.Totals.{matches_of, covered_of}
use Rattle.rx_gen.specs.declared.totals.Counts.{Counts}
use Rattle.rx_gen.proofs.totals.totals_of.Goals as goal

-- what stands where no haystack is
nothing : Counts
nothing = record { matches = 0; covered = 0 }

pub overflow_add-matches : goal.overflow_add-matches
unfolding nothing
overflow_add-matches c = omega (
  arith,
  sum_by_more_le matches_of c.args.found.now c.loop-one.one-index nothing c.loop-one-test.true,
  c.loop-one.invariant.matches,
  c.requires.matches,
)

pub overflow_add-covered : goal.overflow_add-covered
unfolding nothing
overflow_add-covered c = omega (
  arith,
  sum_by_more_le covered_of c.args.found.now c.loop-one.one-index nothing c.loop-one-test.true,
  c.loop-one.invariant.covered,
  c.requires.covered,
)

pub loop-one-preserved : goal.loop-one-preserved
unfolding nothing
loop-one-preserved c = record {
  matches = ap (λ n. n + (get_or c.args.found.now c.loop-one.one-index nothing).matches) c.loop-one.invariant.matches
      ∙ sym (sum_by_more matches_of c.args.found.now c.loop-one.one-index nothing c.loop-one-test.true);
  covered = ap (λ n. n + (get_or c.args.found.now c.loop-one.one-index nothing).covered) c.loop-one.invariant.covered
      ∙ sym (sum_by_more covered_of c.args.found.now c.loop-one.one-index nothing c.loop-one-test.true);
}
