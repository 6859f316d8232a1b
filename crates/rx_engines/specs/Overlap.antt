-- The search for one pattern alone.
use Rattle.std.specs.Prelude.{ℕ, slice_index}
use Rattle.rx_nfa.specs.Nfa.{Nfa}

-- the NFA whose runs are those of this pattern, from wherever a search may start
abbrev pub of_pattern : Nfa → (pattern : ℕ) → Nfa
of_pattern nfa p = record nfa { start_anchored = slice_index nfa.starts p }
