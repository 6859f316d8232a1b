-- What the walk along the table answers, and which of all slots it writes.
use Rattle.std.specs.Prelude.{◌≡◌, ℕ, ◌+◌, ◌-◌, ◌<◌, ◌≤◌, Bool, true, false, List, length, Option, None, option_map, is_some, IfSome, slice_index_or}
use Rattle.rx_model.specs.Runs.{Trace, everywhere, last_write}
use Rattle.rx_search.specs.Input.{InputValue}
use Rattle.rx_search.specs.Matches.{HalfMatchValue}
use Rattle.rx_search.specs.declared.anchored.MatchKind.{MatchKind}
use Rattle.rx_search.specs.declared.anchored.MatchKind.TheVariants.{All, LeftmostFirst}
use Rattle.rx_nfa.specs.Ordered.{half}
use Rattle.rx_onepass_table.specs.Along.{walk}
use Rattle.rx_onepass_table.specs.Entry.{explicit_start}
use Rattle.rx_onepass_build.specs.Config.{kind_of}
use Rattle.rx_onepass.specs.Dfa.{Dfa, explicit_slots}

-- a match may be preferred to what comes later
abbrev pub may_win : MatchKind → Bool
may_win LeftmostFirst = true
may_win All = false

-- what the walk from the row tells over the input's span
abbrev pub told_from : Dfa → InputValue → (row : ℕ) → Option Trace
told_from d v row = walk d.nfa d.table (may_win (kind_of d.config)) everywhere v.haystack (v.end - v.start) v.start row

-- The slot is that of the k-th place that explicit slots have.
pub record IsSlotAt (d : Dfa) (slots : List (Option ℕ)) (k slot : ℕ) : Type 0 where
  pub is : slot ≡ explicit_start d.nfa + k
  pub explicit : k < explicit_slots d.nfa
  pub there : slot < length slots

-- Explicit slots are those of what the walk tells; each other slot is as it was.
pub record IsWalked (d : Dfa) (v : InputValue) (row : ℕ) (old : List (Option ℕ)) (found : Option HalfMatchValue) (new : List (Option ℕ)) : Type 0 where
  pub value : v.earliest ≡ false → found ≡ option_map half (told_from d v row)
  pub any : is_some found ≡ is_some (told_from d v row)
  pub slots_are : v.earliest ≡ false
      → IfSome (told_from d v row) (λ t. (k slot : ℕ) → IsSlotAt d new k slot → slice_index_or new slot None ≡ last_write t.writes slot)
  pub implicit : (slot : ℕ) → slot < explicit_start d.nfa → slice_index_or new slot None ≡ slice_index_or old slot None
  pub past : (slot : ℕ) → explicit_start d.nfa + explicit_slots d.nfa ≤ slot → slice_index_or new slot None ≡ slice_index_or old slot None
