use Rattle.std.proofs.Common.{All, map, take}
use Rattle.std.specs.Vec.{vec_items}
use Rattle.rx_prefilter.specs.Tries.{IsTrie, HasNeedle}
use Rattle.rx_prefilter.proofs.aho_corasick.trie.Trie.of.Given as goal

abbrev pub invariant-loop-needle : goal.invariant-loop-needle
invariant-loop-needle l = IsTrie l.trie × All (HasNeedle l.trie) (map vec_items (take l.needle-index l.needles))
