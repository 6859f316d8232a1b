use Rattle.std.proofs.Common.{ℕ, ◌<◌, ◌≤◌, take}
use Rattle.std.specs.Prelude.{All, map}
use Rattle.std.specs.Vec.{vec_items}
use Rattle.rx_nfa.specs.Prefixes.{IsWord, Lies, Reads}
use Rattle.rx_nfa.specs.declared.state.State.TheVariants.{ByteRange}
use Rattle.rx_nfa.proofs.prefixes.fork.read_chains.Given as goal

abbrev pub invariant-loop-head : goal.invariant-loop-head
invariant-loop-head l = record {
  above : l.floor ≤ l.low;
  below : l.low ≤ l.root;
  words : All IsWord (map vec_items l.words.items);
  reads : Reads l.states l.low l.root l.next (take l.head-index l.heads) (map vec_items l.words.items);
  last : 0 < l.head-index → (q b : ℕ) × Lies l.low l.root l.states q (ByteRange b b l.next);
}
