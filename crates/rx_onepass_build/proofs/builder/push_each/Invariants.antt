use Rattle.std.proofs.Common.{◌≡◌, ◌+◌, ◌<◌, ◌≤◌, ℕ, suc, length}
use Rattle.std.specs.Prelude.{Some, slice_get}
use Rattle.rx_onepass_build.specs.Build.{IsStartAt}
use Rattle.rx_onepass_build.specs.Entries.{AreMet, AreEntries}
use Rattle.rx_onepass_build.specs.Rows.{AreOf}
use Rattle.rx_onepass_build.proofs.builder.push_each.Given as goal

abbrev pub invariant-loop-pattern : goal.invariant-loop-pattern
invariant-loop-pattern l = record {
  within : l.pattern ≤ length l.job.nfa.now.starts;
  met : AreMet l.entries;
  of : AreOf l.fn.entries l.entries;
  are : AreEntries l.job.nfa.now l.job.each l.entries.items.items;
  count : length l.starts.items ≡ l.pattern + 1;
  common : IsStartAt l.entries.items.items l.starts.items 0 l.job.nfa.now.start_anchored;
  each : (p q : ℕ) → p < l.pattern → slice_get l.job.nfa.now.starts p ≡ Some q → IsStartAt l.entries.items.items l.starts.items (suc p) q;
}
