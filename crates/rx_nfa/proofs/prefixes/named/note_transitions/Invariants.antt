use Rattle.std.proofs.Common.{take}
use Rattle.std.specs.Prelude.{All}
use Rattle.rx_nfa.specs.Named.{Spans, Widens}
use Rattle.rx_nfa.specs.declared.state.Transition.{Transition}
use Rattle.rx_nfa.proofs.prefixes.named.note_transitions.Given as goal

abbrev pub invariant-loop-transition : goal.invariant-loop-transition
invariant-loop-transition l = record {
  spans : All (λ (t : Transition). Spans l.named.items l.by t.next) (take l.transition-index l.transitions);
  wider : Widens l.initial.named.items l.named.items;
}
