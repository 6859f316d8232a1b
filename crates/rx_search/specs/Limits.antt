-- How many identifiers there are, and how many slots.
use Rattle.std.specs.Prelude.{ℕ, ◌-◌}

-- as many patterns, or states of an automaton, as identifiers tell apart
abbrev pub id_limit : ℕ
id_limit = 2147483647

-- the most slots that the groups of patterns have
abbrev pub slot_limit : ℕ
slot_limit = id_limit - 1
