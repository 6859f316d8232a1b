-- Slots, and the groups that have them.
use Rattle.std.specs.Prelude.{◌≡◌, ℕ, ◌+◌, List, Option, Some, ⊤, ◌⊎◌}
use Rattle.rx_search.specs.GroupInfo.{slot_at}
use Rattle.rx_nfa.specs.declared.state.State.{State}
use Rattle.rx_nfa.specs.declared.state.State.TheVariants.{ByteRange, Sparse, Look, Union, Capture, Fail, Match}

-- it is one of the two slots of a group of the pattern
abbrev pub IsSlotOf : (groups : List (List (Option (List ℕ)))) → (pattern slot : ℕ) → Type 0
IsSlotOf groups pattern slot = (group : ℕ) × (first : ℕ) × (slot_at groups pattern group ≡ Some first) × ((slot ≡ first) ⊎ (slot ≡ first + 1))

-- a slot that the state writes is one of the pattern that it names
abbrev pub WritesOwnSlots : (groups : List (List (Option (List ℕ)))) → State → Type 0
WritesOwnSlots groups (ByteRange low high next) = ⊤
WritesOwnSlots groups (Sparse transitions) = ⊤
WritesOwnSlots groups (Look look next) = ⊤
WritesOwnSlots groups (Union alternates) = ⊤
WritesOwnSlots groups (Capture next pattern slot) = IsSlotOf groups pattern slot
WritesOwnSlots groups Fail = ⊤
WritesOwnSlots groups (Match pattern) = ⊤
