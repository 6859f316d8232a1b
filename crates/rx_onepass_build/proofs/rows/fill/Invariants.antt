use Rattle.std.proofs.Common.{◌≡◌, ◌-◌, ◌≤◌, ℕ, length}
use Rattle.std.specs.Prelude.{Some, slice_get}
use Rattle.rx_onepass_build.specs.Entries.{AreMet, AreEntries, state_limit}
use Rattle.rx_onepass_build.specs.Rows.{AreOf, AreFilled}
use Rattle.rx_onepass_build.proofs.rows.fill.Given as goal

abbrev pub invariant-rows : goal.invariant-rows
invariant-rows l = record {
  met : AreMet l.entries;
  of : AreOf l.fn.entries l.entries;
  are : AreEntries l.job.nfa.now l.job.each l.entries.items.items;
  marks : length l.closure.marks.items ≡ length l.job.nfa.now.states;
  row : (q mark : ℕ) → slice_get l.closure.marks.items q ≡ Some mark → mark ≤ length l.rows.finals.items;
  filled : AreFilled l.job l.entries.items.items l.rows.steps.items l.rows.finals.items;
}

abbrev pub decreases-rows : goal.decreases-rows
decreases-rows l = state_limit - length l.rows.finals.items
