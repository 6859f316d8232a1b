use Rattle.std.proofs.Common.{◌∙◌}
use Rattle.rx_dfa.proofs.lemmas.HeldLemmas.{tells-dead}
use Rattle.rx_dfa.proofs.lazy.automaton.LazyAutomaton.is_dead.Goals as goal

pub returns : goal.returns
returns c key h = c.is_dead_state.ensures ∙ tells-dead _ _ c.args.state key h
