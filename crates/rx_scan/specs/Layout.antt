-- Where a search leaves the slots of each pattern's groups.
use Rattle.std.specs.Prelude.{ℕ, ◌<◌, zero, suc, ◌+◌, ◌*◌, List, [], ◌∷◌, ◌++◌, length, Option, Some, None, slice_index_or, slice_range, if◌then◌else◌, nat_lt}
use Rattle.rx_search.specs.GroupInfo.{groups_at, slot_of_group}
use Rattle.rx_search.specs.declared.span.Span.{Span}

-- each of the patterns below n has its implicit group
abbrev pub HaveImplicit : List (List (Option (List ℕ))) → (n : ℕ) → Type 0
HaveImplicit info n = (p : ℕ) → p < n → 0 < length (groups_at info p)

-- Which slots are those of pattern p's groups from 1 on, if it has some: they stand side by side.
abbrev pub explicit_slots : List (List (Option (List ℕ))) → (p : ℕ) → Option Span
explicit_slots info p =
    if nat_lt 1 (length (groups_at info p)) then Some (record { start = slot_of_group info p 1; end = slot_of_group info p (length (groups_at info p)) })
    else None

-- those of the patterns below n
unfoldable pub all_explicit_slots : List (List (Option (List ℕ))) → (n : ℕ) → List (Option Span)
all_explicit_slots info zero = []
all_explicit_slots info (suc n) = all_explicit_slots info n ++ explicit_slots info n ∷ []

-- the slots that lie in a span, if there is one
abbrev pub slots_in : Option Span → List (Option ℕ) → List (Option ℕ)
slots_in None slots = []
slots_in (Some span) slots = slice_range slots span.start span.end

-- the slots of pattern p's groups, among those of all patterns: of the whole match, and of the others
abbrev pub own_slots : List (List (Option (List ℕ))) → (p : ℕ) → List (Option ℕ) → List (Option ℕ)
own_slots info p slots =
    slice_index_or slots (2 * p) None ∷ slice_index_or slots (2 * p + 1) None ∷ slots_in (explicit_slots info p) slots
