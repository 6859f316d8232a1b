use Rattle.std.proofs.Common.{◌≡◌, ◌≤◌, ◌<◌, ℕ, false}
use Rattle.rx_nfa.specs.Automaton.{byte_at}
use Rattle.rx_engines.specs.StartBytes.{has_byte}
use Rattle.rx_engines.proofs.candidates.start_bytes.StartBytes.next.Given as goal

abbrev pub invariant-loop-at : goal.invariant-loop-at
invariant-loop-at l = (j : ℕ) → l.place ≤ j → j < l.at → has_byte l.self.has (byte_at l.text l.end j) ≡ false
