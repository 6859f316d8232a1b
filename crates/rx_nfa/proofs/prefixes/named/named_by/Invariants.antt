use Rattle.std.proofs.Common.{◌≡◌, ℕ, ◌<◌, length}
use Rattle.rx_nfa.specs.Automaton.{state_at}
use Rattle.rx_nfa.specs.Named.{Spans}
use Rattle.rx_nfa.specs.Prefixes.{LeadsInto}
use Rattle.rx_nfa.proofs.prefixes.named.named_by.Given as goal

abbrev pub invariant-loop-by : goal.invariant-loop-by
invariant-loop-by l = record {
  long : length l.named.items ≡ length l.states;
  each : (r : ℕ) → r < l.by → LeadsInto (Spans l.named.items r) (state_at l.states r);
}
