use Rattle.std.proofs.Common.{◌<◌, length, take}
use Rattle.rx_prefilter.specs.Tries.{IsTrie, Grows, Walks}
use Rattle.rx_prefilter.proofs.aho_corasick.trie.Trie.insert.Given as goal

abbrev pub invariant-loop-byte : goal.invariant-loop-byte
invariant-loop-byte l = IsTrie l.self × Grows l.initial.self l.self × Walks l.self.next.items 0 (take l.byte-index l.needle) l.state
    × (l.state < length l.self.depths.items)
