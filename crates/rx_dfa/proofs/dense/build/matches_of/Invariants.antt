use Rattle.std.proofs.Common.{◌≡◌, ◌++◌, map, drop}
use Rattle.std.specs.Vec.{vec_items}
use Rattle.rx_dfa.specs.declared.state_key.StateKey.{StateKey}
use Rattle.rx_dfa.proofs.dense.build.matches_of.Given as goal

abbrev pub invariant-loop-key : goal.invariant-loop-key
invariant-loop-key l = record {
  gathered : map vec_items l.lists.items ++ map (λ (k : StateKey). k.matches.items) (drop l.key-index l.keys) ≡ map (λ (k : StateKey). k.matches.items) l.keys;
}
