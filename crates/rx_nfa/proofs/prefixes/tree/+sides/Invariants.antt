use Rattle.std.proofs.Common.{ℕ, ◌<◌, ◌≤◌, ◌+◌, ◌*◌, ◌-◌, ◌++◌, List, length, take, drop}
use Rattle.std.specs.Prelude.{All, map}
use Rattle.std.specs.Vec.{vec_items}
use Rattle.rx_nfa.specs.Automaton.{route}
use Rattle.rx_nfa.specs.Prefixes.{rests}
use Rattle.rx_nfa.specs.Row.{Ascends}
use Rattle.rx_nfa.specs.Trees.{IsTree, Grown, ReadsByTree, LeadsByTree}
use Rattle.rx_nfa.proofs.prefixes.tree.+sides.Given as goal

abbrev pub decreases-sides : goal.decreases-sides
decreases-sides l = 5 * l.levels + 4

abbrev pub decreases-end_chunk : goal.decreases-end_chunk
decreases-end_chunk l = 5 * l.levels + 3

abbrev pub decreases-chunk : goal.decreases-chunk
decreases-chunk l = 5 * l.levels + 2

abbrev pub decreases-branches : goal.decreases-branches
decreases-branches l = 5 * l.levels + 6

abbrev pub decreases-branch : goal.decreases-branch
decreases-branch l = 5 * l.levels + 5

abbrev pub invariant-sides-loop-last : goal.invariant-sides-loop-last
invariant-sides-loop-last l = record {
  tree : IsTree l.tree;
  grown : Grown l.initial.tree l.tree;
  upto : l.from ≤ l.last;
  reads : ReadsByTree l.tree l.starts.items (map vec_items (take l.from l.words));
  long : All (λ w. 1 < length (vec_items w)) (take (l.last - l.from) (drop l.from l.words));
}

abbrev pub invariant-chunk-loop-word : goal.invariant-chunk-loop-word
invariant-chunk-loop-word l = record {
  tree : IsTree l.tree;
  grown : Grown l.initial.tree l.tree;
  reads : (before : List (List ℕ)) → ReadsByTree l.initial.tree l.initial.starts.items before
      → ReadsByTree l.tree l.starts.items (before ++ map vec_items (take l.word-index l.words));
}

abbrev pub invariant-branches-loop-byte : goal.invariant-branches-loop-byte
invariant-branches-loop-byte l = record {
  tree : IsTree l.tree;
  grown : Grown l.initial.tree l.tree;
  ascends : Ascends 0 l.byte l.row.items;
  led : (b : ℕ) → b < l.byte → LeadsByTree l.tree (route l.row.items b) (rests b (map vec_items l.words));
}
