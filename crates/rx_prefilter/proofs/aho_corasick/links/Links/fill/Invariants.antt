use Rattle.std.proofs.Common.{◌≡◌}
use Rattle.rx_prefilter.specs.Automata.{IsLinked}
use Rattle.rx_prefilter.proofs.aho_corasick.links.Links.fill.Given as goal

abbrev pub invariant-loop-turn : goal.invariant-loop-turn
invariant-loop-turn l = IsLinked l.self × (l.self.needles ≡ l.initial.self.needles)
