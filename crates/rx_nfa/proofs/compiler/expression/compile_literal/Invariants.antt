use Rattle.std.proofs.Common.{◌<◌, ◌≤◌, ◌+◌, length, drop}
use Rattle.rx_nfa.specs.Directed.{in_order}
use Rattle.rx_nfa.specs.Draft.{Extends}
use Rattle.rx_nfa.specs.States.{Stands}
use Rattle.rx_nfa.specs.Built.{IsChain}
use Rattle.rx_nfa.proofs.compiler.expression.compile_literal.Given as goal

abbrev pub invariant-loop-left : goal.invariant-loop-left
invariant-loop-left l = record {
  extends : Extends l.initial.builder l.builder;
  chain : IsChain (Stands (length l.initial.builder.states) l.builder.states) l.start (drop l.left (in_order l.reverse l.bytes)) l.fn.next;
  count : length l.builder.states + l.left ≤ length l.initial.builder.states + length l.bytes;
  within : l.left ≤ length l.bytes;
  inside : l.start < length l.builder.states;
}

abbrev pub decreases-loop-left : goal.decreases-loop-left
decreases-loop-left l = l.left
