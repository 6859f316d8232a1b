use Rattle.std.proofs.Common.{◌≡◌, ◌<◌, ◌≤◌, ◌-◌, ℕ, slice_index}
use Rattle.rx_onepass_table.proofs.table.Table.same_class.Given as goal

abbrev pub invariant-loop-next : goal.invariant-loop-next
invariant-loop-next l = record {
  past : l.at < l.next;
  within : l.next ≤ l.end;
  class : l.class ≡ slice_index l.self.classes (slice_index l.text l.at);
  same : (k : ℕ) → l.at ≤ k → k < l.next → slice_index l.self.classes (slice_index l.text k) ≡ slice_index l.self.classes (slice_index l.text l.at);
}

abbrev pub decreases-loop-next : goal.decreases-loop-next
decreases-loop-next l = l.end - l.next
