-- The name of a group, where the names of its pattern's explicit groups are at hand.
use Rattle.std.proofs.Common.{◌≡◌, ℕ, suc, ◌≤◌, List, [], ◌∷◌, Option, None, Some, option_map, unwrap_or, slice_get, length, String, string_bytes, ap, ◌∙◌}
use Rattle.std.proofs.lemmas.Option.{slice_get_past, slice_get-map}
use Rattle.std.specs.Option.{option_flatten}
use Rattle.rx_search.specs.GroupInfo.{names_of, groups_at, name_at}

-- past the last pattern no group is there
pub name_at-none : (info : List (List (Option (List ℕ)))) (p group : ℕ) → length info ≤ p → name_at info p group ≡ None
name_at-none info p group past =
    ap (λ (o : Option (List (Option (List ℕ)))). option_flatten (slice_get (unwrap_or o []) group)) (slice_get_past info p past)

-- the first group has no name
pub name_at-first : (info : List (List (Option (List ℕ)))) (p group : ℕ) (names : List (Option (List ℕ))) → groups_at info p ≡ None ∷ names
    → group ≡ 0 → name_at info p group ≡ None
name_at-first info p group names are first =
    ap (λ (gs : List (Option (List ℕ))). option_flatten (slice_get gs group)) are ∙ ap (λ n. option_flatten (slice_get (None ∷ names) n)) first

name_at-explicit : {A : Type 0} (info : List (List (Option (List ℕ)))) (p group index : ℕ) (names : List (Option (String A)))
    → groups_at info p ≡ None ∷ names_of names → group ≡ suc index
    → name_at info p group ≡ option_flatten (option_map (option_map string_bytes) (slice_get names index))
name_at-explicit info p group index names are is =
    ap (λ (gs : List (Option (List ℕ))). option_flatten (slice_get gs group)) are
    ∙ ap (λ n. option_flatten (slice_get (None ∷ names_of names) n)) is
    ∙ ap option_flatten (slice_get-map (option_map string_bytes) names index)

-- past the last group no name is there
pub name_at-past : {A : Type 0} (info : List (List (Option (List ℕ)))) (p group index : ℕ) (names : List (Option (String A)))
    → groups_at info p ≡ None ∷ names_of names → group ≡ suc index → length names ≤ index → name_at info p group ≡ None
name_at-past info p group index names are is past =
    name_at-explicit info p group index names are is
    ∙ ap (λ (o : Option (Option (String _))). option_flatten (option_map (option_map string_bytes) o)) (slice_get_past names index past)

pub name_at-there : {A : Type 0} (info : List (List (Option (List ℕ)))) (p group index : ℕ) (names : List (Option (String A))) (name : Option (String A))
    → groups_at info p ≡ None ∷ names_of names → group ≡ suc index → slice_get names index ≡ Some name
    → name_at info p group ≡ option_map string_bytes name
name_at-there info p group index names name are is there =
    name_at-explicit info p group index names are is
    ∙ ap (λ (o : Option (Option (String _))). option_flatten (option_map (option_map string_bytes) o)) there
