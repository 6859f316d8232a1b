use Rattle.std.proofs.Common.{◌≡◌}
use Rattle.std.specs.Prelude.{take}
use Rattle.std.specs.List.{list_any}
use Rattle.rx_model.specs.Look.{Look}
use Rattle.rx_search.specs.LookSet.{has}
use Rattle.rx_nfa.specs.Automaton.{asks_for}
use Rattle.rx_nfa.proofs.looks.looks_of.Given as goal

abbrev pub invariant-loop-state : goal.invariant-loop-state
invariant-loop-state l = (kind : Look) → has l.looks kind ≡ list_any (asks_for kind) (take l.state-index l.states)
