use Rattle.std.proofs.Common.{◌≡◌, ◌+◌, ◌-◌, ◌≤◌, length}
use Rattle.std.specs.Prelude.{true, None, replicate, IfNone}
use Rattle.rx_nfa.specs.Ordered.{passed_at}
use Rattle.rx_engines.specs.Buffers.{IsReady, KeepsRoom, curr_of}
use Rattle.rx_engines.proofs.lemmas.threads.GoingLemmas.{Going}
use Rattle.rx_engines.proofs.pikevm.simulate.simulate.Given as goal

abbrev pub invariant-loop-place : goal.invariant-loop-place
invariant-loop-place l = record {
  first : l.search.first ≤ l.place;
  going : Going l.search l.earliest (length l.fn.buffers.best.items) l.best l.buffers.best.items l.place l.place
      (passed_at (curr_of l.buffers).set.items l.place)
      (curr_of l.buffers).table.items (curr_of l.buffers).set.items;
  unmatched : l.earliest ≡ true → l.best ≡ None;
  cleared : IfNone l.best (l.buffers.best.items ≡ replicate (length l.fn.buffers.best.items) None);
  ready : IsReady l.search.states.now (length l.fn.buffers.best.items) l.buffers;
  room : KeepsRoom l.fn.buffers l.buffers;
}

abbrev pub decreases-loop-place : goal.decreases-loop-place
decreases-loop-place l = l.search.end + 1 - l.place
