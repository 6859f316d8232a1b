-- What a one-pass DFA is to a contract.
use Rattle.std.specs.Prelude.{ℕ, ◌-◌, ◌≤◌, List}
use Rattle.rx_nfa.specs.Nfa.{Nfa}
use Rattle.rx_onepass_table.specs.Entry.{explicit_start}
use Rattle.rx_onepass_table.specs.Rows.{TableValue}
use Rattle.rx_onepass_build.specs.Build.{IsBuiltOf}
use Rattle.rx_onepass_build.specs.declared.config.Config.{Config}

pub record Dfa : Type 0 where
  pub nfa : Nfa
  pub config : Config
  pub table : TableValue
  -- the row of each start: that of all patterns first, and then that of each, where they are asked for
  pub starts : List ℕ

-- its table is the one that is built of the NFA
abbrev pub IsSound : Dfa → Type 0
IsSound d = IsBuiltOf d.config d.nfa d.table d.starts

-- how many slots explicit groups have, whether they are told or not
abbrev pub explicit_slots : Nfa → ℕ
explicit_slots nfa = nfa.slots - explicit_start nfa

-- a cache with room for so many slots serves searches of the NFA
abbrev pub Fits : Nfa → (room : ℕ) → Type 0
Fits nfa room = explicit_slots nfa ≤ room
