-- Keys as the code holds them.
use Rattle.std.specs.Prelude.{ℕ}
use Rattle.rx_nfa.specs.Ordered.{AreBelow}
use Rattle.rx_determinize.specs.Key.{Key}
use Rattle.rx_dfa.specs.declared.state_key.StateKey.{StateKey}

abbrev pub key_of : StateKey → Key
key_of k = record { threads = k.threads.items; loops = k.loops; matches = k.matches.items; before = k.before }

-- its threads stand in states below n
abbrev pub StandsBelow : ℕ → StateKey → Type 0
StandsBelow n k = AreBelow n k.threads.items
