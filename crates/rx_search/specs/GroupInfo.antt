-- The groups of patterns, with their names and their slots. A pattern's groups are a list of their names, of
-- which the first, the implicit group, has none.
use Rattle.std.specs.Prelude.{ℕ, zero, suc, ◌+◌, ◌-◌, ◌*◌, ◌≡◌, ◌<◌, Bool, true, false, ◌||◌, List, [], ◌∷◌, length, map, take, drop, replicate, Option, Some, None, option_map, unwrap_or, slice_get, position, if◌then◌else◌, nat_lt, ◌⊎◌, Vec, String, string_bytes, bytes_eq}
use Rattle.std.specs.List.{list_any}
use Rattle.std.specs.Option.{option_or, option_flatten}
use Rattle.rx_model.specs.Expression.{Expression}
use Rattle.rx_model.specs.Search.{Patterns, greatest_group, has_explicit_groups, slot_of}
use Rattle.rx_search.specs.Limits.{id_limit, slot_limit}
use Rattle.rx_search.specs.declared.group_error.GroupInfoError.{GroupInfoError}
use Rattle.rx_search.specs.declared.group_error.GroupInfoError.TheVariants.{MissingGroups, FirstMustBeUnnamed, Duplicate, TooMany, Memory}

-- the bytes of each name
abbrev pub names_of : {A : Type 0} → List (Option (String A)) → List (Option (List ℕ))
names_of names = map (option_map string_bytes) names

-- the groups of each pattern, by the bytes of their names
abbrev pub groups_of : {A B : Type 0} → List (Vec (Option (String A)) B) → List (List (Option (List ℕ)))
groups_of patterns = map (λ names. names_of names.items) patterns

-- n groups without names
abbrev pub unnamed_groups : ℕ → List (Option (List ℕ))
unnamed_groups n = replicate n None

-- the groups of pattern p, and none where there is no such pattern
abbrev pub groups_at : List (List (Option (List ℕ))) → ℕ → List (Option (List ℕ))
groups_at info p = unwrap_or (slice_get info p) []

-- the name of a group, where it is there and has one
abbrev pub name_at : List (List (Option (List ℕ))) → (p group : ℕ) → Option (List ℕ)
name_at info p group = option_flatten (slice_get (groups_at info p) group)

-- this is the group's name
abbrev pub is_named : List ℕ → Option (List ℕ) → Bool
is_named name None = false
is_named name (Some other) = bytes_eq name other

-- the first group is there, and it is the implicit one: it has no name
abbrev pub BeginsUnnamed : List (Option (List ℕ)) → Type 0
BeginsUnnamed groups = groups ≡ None ∷ drop 1 groups

-- the group of pattern p with this name
abbrev pub index_of : List (List (Option (List ℕ))) → ℕ → List ℕ → Option ℕ
index_of info p name = position (is_named name) (groups_at info p)

-- how many groups the patterns have in all
abbrev pub group_count : List (List (Option (List ℕ))) → ℕ
group_count [] = 0
group_count (groups ∷ rest) = length groups + group_count rest

-- two for each group
abbrev pub slot_count : List (List (Option (List ℕ))) → ℕ
slot_count info = 2 * group_count info

-- how many explicit groups the patterns below p have
abbrev pub explicit_before : ℕ → List (List (Option (List ℕ))) → ℕ
explicit_before zero info = 0
explicit_before (suc p) [] = 0
explicit_before (suc p) (groups ∷ rest) = (length groups - 1) + explicit_before p rest

-- The first slot of a group. The slots of the implicit groups come first, two a pattern, and then those of the
-- explicit ones, in order of pattern and group.
abbrev pub slot_of_group : List (List (Option (List ℕ))) → (p group : ℕ) → ℕ
slot_of_group info p zero = 2 * p
slot_of_group info p (suc g) = 2 * length info + 2 * explicit_before p info + 2 * g

-- its first slot, where it is there
abbrev pub slot_at : List (List (Option (List ℕ))) → (p group : ℕ) → Option ℕ
slot_at info p group = if nat_lt group (length (groups_at info p)) then Some (slot_of_group info p group) else None

-- a name stands twice among the groups
abbrev pub has_duplicate : List (Option (List ℕ)) → Bool
has_duplicate [] = false
has_duplicate (None ∷ groups) = has_duplicate groups
has_duplicate (Some name ∷ groups) = list_any (is_named name) groups || has_duplicate groups

-- what is wrong with the groups of pattern p
abbrev pub fault_of : ℕ → List (Option (List ℕ)) → Option GroupInfoError
fault_of p [] = Some (MissingGroups p)
fault_of p (Some name ∷ groups) = Some (FirstMustBeUnnamed p)
fault_of p (None ∷ groups) = if has_duplicate groups then Some (Duplicate p) else None

-- that is wrong with the groups of pattern p, or there was no memory
abbrev pub IsFault : ℕ → List (Option (List ℕ)) → GroupInfoError → Type 0
IsFault p groups e = (fault_of p groups ≡ Some e) ⊎ (e ≡ Memory)

-- what is wrong with the first pattern at fault; they are numbered from p on
abbrev pub first_fault : ℕ → List (List (Option (List ℕ))) → Option GroupInfoError
first_fault p [] = None
first_fault p (groups ∷ rest) = option_or (fault_of p groups) (first_fault (p + 1) rest)

-- Why the groups are refused: the first pattern at fault among those with identifiers, and else too many slots.
-- More patterns than identifiers, of which the first are without fault, have too many slots.
abbrev pub refusal : List (List (Option (List ℕ))) → Option GroupInfoError
refusal info = option_or (first_fault 0 (take id_limit info)) (if nat_lt slot_limit (slot_count info) then Some TooMany else None)

-- the refusal, or there was no memory
abbrev pub IsRefusal : List (List (Option (List ℕ))) → GroupInfoError → Type 0
IsRefusal info e = (refusal info ≡ Some e) ⊎ (e ≡ Memory)

-- the implicit group, and explicit ones up to the greatest number that stands in the expression
abbrev pub groups_in_expression : Expression → ℕ
groups_in_expression h = 1 + greatest_group h

-- Where each pattern has the groups of its expression, and all have slots, the explicit groups have the slots that
-- the graphs of the patterns write.
abbrev pub SlotsAreWritten : Type 0
SlotsAreWritten = (r : Patterns) (info : List (List (Option (List ℕ)))) (p g : ℕ)
    → has_explicit_groups r.which_captures ≡ true
    → map length info ≡ map groups_in_expression r.expressions
    → 0 < g
    → slot_of r p g ≡ Some (slot_of_group info p g)
