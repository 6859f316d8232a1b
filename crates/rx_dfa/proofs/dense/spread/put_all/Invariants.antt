use Rattle.std.proofs.Common.{◌≡◌, ◌≤◌, drop, length}
use Rattle.std.specs.Prelude.{slice_index}
use Rattle.rx_nfa.specs.Ordered.{targets}
use Rattle.rx_dfa.specs.ClassLists.{AreLists, class_count}
use Rattle.rx_dfa.proofs.dense.spread.put_all.Given as goal

abbrev pub invariant-threads : goal.invariant-threads
invariant-threads l = record {
  within : l.left ≤ length l.threads;
  count : class_count l.lists ≡ class_count l.fn.lists;
  lists : AreLists l.lists (λ class. targets l.states (slice_index l.alphabet.bytes.items class) (drop l.left l.threads));
}

abbrev pub decreases-threads : goal.decreases-threads
decreases-threads l = l.left
