use Rattle.std.proofs.Common.{◌≡◌, ◌+◌, ◌-◌, map}
use Rattle.std.specs.Vec.{vec_items}
use Rattle.rx_prefilter.specs.Needles.{span_among}
use Rattle.rx_prefilter.proofs.aho_corasick.automaton.Automaton.look_back.Given as goal

abbrev pub invariant-loop-i : goal.invariant-loop-i
invariant-loop-i l = span_among (map vec_items l.self.needles.items) l.text (l.at - l.depth) (l.depth + 1) ≡ span_among (map vec_items l.self.needles.items)
    l.text (l.at - l.depth + l.i) (l.depth + 1 - l.i)
