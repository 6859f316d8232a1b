use Rattle.std.proofs.Common.{◌≤◌, [], ◌∷◌, length, drop}
use Rattle.rx_nfa.specs.Trees.{IsTree, Grown, ReadsByTree}
use Rattle.rx_nfa.proofs.prefixes.tree.chain.Given as goal

abbrev pub invariant-loop-left : goal.invariant-loop-left
invariant-loop-left l = record {
  tree : IsTree l.tree;
  grown : Grown l.initial.tree l.tree;
  within : l.left ≤ length l.word;
  reads : ReadsByTree l.tree (l.start ∷ []) (drop l.left l.word ∷ []);
}

abbrev pub decreases-loop-left : goal.decreases-loop-left
decreases-loop-left l = l.left
