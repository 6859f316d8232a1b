use Rattle.std.proofs.Common.{◌<◌, ℕ, get_or}
use Rattle.rx_nfa.specs.declared.state.Transition.{Transition}
use Rattle.rx_engines.specs.StartBytes.{Marks, HasRange}
use Rattle.rx_engines.proofs.candidates.start_bytes.mark.mark_all.Given as goal

abbrev pub invariant-loop-k : goal.invariant-loop-k
invariant-loop-k l = record {
  kept : Marks l.fn.has l.has;
  marked : (j : ℕ) (t : Transition) → j < l.k → HasRange l.has (get_or l.transitions j t).start (get_or l.transitions j t).end;
}
