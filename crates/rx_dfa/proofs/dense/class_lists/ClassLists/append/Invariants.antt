use Rattle.std.proofs.Common.{ℕ, ◌++◌, List}
use Rattle.rx_dfa.specs.ClassLists.{IsChain, AreLists}
use Rattle.rx_dfa.proofs.lemmas.ClassListLemmas.{Walks}
use Rattle.rx_dfa.proofs.dense.class_lists.ClassLists.append.Given as goal

abbrev pub invariant-chain : goal.invariant-chain
invariant-chain l = record {
  some : (xs : List ℕ) × IsChain l.self.states.items l.self.links.items l.limit xs;
  walks : (lists : ℕ → List ℕ) → AreLists l.self lists → Walks l.self.states.items l.self.links.items l.limit (l.fn.into.items ++ lists l.class) l.into.items;
}

abbrev pub decreases-chain : goal.decreases-chain
decreases-chain l = l.limit
