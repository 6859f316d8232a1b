use Rattle.std.proofs.Common.{◌≡◌, ℕ, ◌<◌, get_or, take, false}
use Rattle.rx_nfa.specs.ByteClasses.{class_ends}
use Rattle.rx_nfa.proofs.byte_classes.classes_of.Given as goal

abbrev pub invariant-loop-state : goal.invariant-loop-state
invariant-loop-state l = (b : ℕ) → b < 256 → get_or l.set b false ≡ class_ends l.terminator (take l.state-index l.states) b
