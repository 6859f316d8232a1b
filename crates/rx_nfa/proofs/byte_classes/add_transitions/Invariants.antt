use Rattle.std.proofs.Common.{◌≡◌, ℕ, ◌<◌, get_or, take, false}
use Rattle.std.specs.Prelude.{◌||◌}
use Rattle.rx_nfa.specs.ByteClasses.{transitions_end}
use Rattle.rx_nfa.proofs.byte_classes.add_transitions.Given as goal

abbrev pub invariant-loop-transition : goal.invariant-loop-transition
invariant-loop-transition l = (b : ℕ) → b < 256
    → get_or l.set b false ≡ (transitions_end (take l.transition-index l.transitions) b || get_or l.initial.set b false)
