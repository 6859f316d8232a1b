use Rattle.std.proofs.Common.{◌<◌}
use Rattle.std.specs.Prelude.{All}
use Rattle.rx_nfa.specs.Built.{IsChain}
use Rattle.rx_nfa.specs.Prefixes.{Lies}
use Rattle.rx_nfa.proofs.prefixes.fork.read_chain.Given as goal

abbrev pub invariant-loop-place : goal.invariant-loop-place
invariant-loop-place l = record {
  below : l.place < l.root;
  bytes : All (λ b. b < 256) l.word.items;
  chain : IsChain (Lies l.place l.root l.states) l.fn.head l.word.items l.place;
}

abbrev pub decreases-loop-place : goal.decreases-loop-place
decreases-loop-place l = l.place
