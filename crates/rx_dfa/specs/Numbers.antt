-- The numbers of states while a table is made.
use Rattle.std.specs.Prelude.{ℕ, ◌+◌, ◌-◌, ◌==◌, nat_lt, if◌then◌else◌}
use Rattle.rx_dfa.specs.Table.{quit}

-- from here on the states of the second sort are numbered
abbrev pub second : ℕ
second = 1073741824

-- The number that a state has at the end, where the rows of the second sort begin at `first`.
abbrev pub settled : (first number : ℕ) → ℕ
settled first number = if nat_lt number second then number else (if number == quit then number else number - second + first)
