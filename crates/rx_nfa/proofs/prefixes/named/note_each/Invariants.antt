use Rattle.std.proofs.Common.{take}
use Rattle.std.specs.Prelude.{All}
use Rattle.rx_nfa.specs.Named.{Spans, Widens}
use Rattle.rx_nfa.proofs.prefixes.named.note_each.Given as goal

abbrev pub invariant-loop-id : goal.invariant-loop-id
invariant-loop-id l = record {
  spans : All (Spans l.named.items l.by) (take l.id-index l.ids);
  wider : Widens l.initial.named.items l.named.items;
}
