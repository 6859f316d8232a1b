use Rattle.std.proofs.Common.{◌≡◌, ℕ, List}
use Rattle.rx_dfa.specs.ClassLists.{AreLists, class_count}
use Rattle.rx_dfa.proofs.lemmas.SpreadLemmas.{taken}
use Rattle.rx_dfa.proofs.dense.spread.put_targets.Given as goal

abbrev pub invariant-classes : goal.invariant-classes
invariant-classes l = record {
  count : class_count l.lists ≡ class_count l.fn.lists;
  lists : (before : ℕ → List ℕ) → AreLists l.fn.lists before → AreLists l.lists (taken l.state l.alphabet.bytes.items l.class before);
}
