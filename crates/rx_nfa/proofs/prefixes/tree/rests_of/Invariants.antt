use Rattle.std.proofs.Common.{◌≡◌, take}
use Rattle.std.specs.Prelude.{map}
use Rattle.std.specs.Vec.{vec_items}
use Rattle.rx_nfa.specs.Prefixes.{rests}
use Rattle.rx_nfa.proofs.prefixes.tree.rests_of.Given as goal

abbrev pub invariant-loop-word : goal.invariant-loop-word
invariant-loop-word l = map vec_items l.left.items ≡ rests l.byte (map vec_items (take l.word-index l.words))
