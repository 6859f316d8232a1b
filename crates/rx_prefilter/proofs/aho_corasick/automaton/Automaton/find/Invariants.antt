use Rattle.std.proofs.Common.{map}
use Rattle.std.specs.Vec.{vec_items}
use Rattle.rx_prefilter.specs.Automata.{IsReading}
use Rattle.rx_prefilter.proofs.aho_corasick.automaton.Automaton.find.Given as goal

abbrev pub invariant-loop-at : goal.invariant-loop-at
invariant-loop-at l = IsReading (map vec_items l.self.needles.items) l.self.next.items l.self.depths.items l.text l.from l.at l.state
