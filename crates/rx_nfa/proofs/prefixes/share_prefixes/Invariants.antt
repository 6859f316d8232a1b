use Rattle.std.proofs.Common.{◌≡◌, ◌≤◌}
use Rattle.rx_nfa.specs.Sharing.{Sharing}
use Rattle.rx_nfa.proofs.prefixes.share_prefixes.Given as goal

abbrev pub invariant-loop-root : goal.invariant-loop-root
invariant-loop-root l = record {
  groups : l.builder.groups ≡ l.initial.builder.groups;
  slots : l.builder.slots ≡ l.initial.builder.slots;
  upto : l.done ≤ l.root;
  sharing : Sharing l.named.items l.initial.builder.states l.builder.states l.done;
}
