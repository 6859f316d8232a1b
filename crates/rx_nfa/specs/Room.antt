-- Slots for the groups of a pattern.
use Rattle.std.specs.Prelude.{◌≡◌, ℕ, ◌+◌, ◌*◌, ◌<◌, ◌≤◌, length, IfSome}
use Rattle.rx_search.specs.GroupInfo.{groups_at, slot_of_group}
use Rattle.rx_search.specs.Limits.{slot_limit}
use Rattle.rx_nfa.specs.Draft.{Draft}
use Rattle.rx_nfa.specs.declared.compiler.groups.Groups.{Groups}

-- the draft has the pattern with its groups up to the greatest, and slots for them, if they are told
pub record HasRoom (d : Draft) (groups : Groups) (greatest : ℕ) : Type 0 where
  pub pattern : groups.pattern < length d.groups
  pub enough : greatest < length (groups_at d.groups groups.pattern)
  pub first : IfSome groups.first_slot (λ first. first ≡ slot_of_group d.groups groups.pattern 1)
  pub slots : IfSome groups.first_slot (λ first. first + 2 * greatest ≤ d.slots)
  pub few : d.slots ≤ slot_limit
