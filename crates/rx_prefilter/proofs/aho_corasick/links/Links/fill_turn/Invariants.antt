use Rattle.std.proofs.Common.{◌≡◌, ◌<◌, length}
use Rattle.rx_prefilter.specs.Automata.{IsLinked}
use Rattle.rx_prefilter.proofs.aho_corasick.links.Links.fill_turn.Given as goal

abbrev pub invariant-loop-byte : goal.invariant-loop-byte
invariant-loop-byte l = IsLinked l.self × (l.self.needles ≡ l.initial.self.needles) × (l.state < length l.self.depths.items)
