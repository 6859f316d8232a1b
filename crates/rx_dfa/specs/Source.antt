-- The NFA that is determinized.
use Rattle.std.specs.Prelude.{◌<◌, length, All}
use Rattle.rx_nfa.specs.Automaton.{NamesBelow}
use Rattle.rx_dfa.specs.declared.determinize.Source.{Source}

-- each state that its states go on to is there, and so is the one where the loop begins its threads
pub record IsWhole (s : Source) : Type 0 where
  pub names : All (NamesBelow (length s.states.now)) s.states.now
  pub start : s.start < length s.states.now
