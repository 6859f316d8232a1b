use Rattle.rx_nfa.proofs.lemmas.lists.WalkLemmas.{walks-inside}
use Rattle.rx_nfa.proofs.walks.a_walk_leads_to_a_state.Goals as goal

pub returns : goal.returns
returns c nfa range q way r lt w = walks-inside nfa.states range.names q way r lt w
