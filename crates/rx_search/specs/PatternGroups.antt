-- The groups of expressions, with their names.
use Rattle.std.specs.Prelude.{ℕ, ◌==◌, List, ◌∷◌, map, Option, None, if◌then◌else◌}
use Rattle.std.specs.List.{range_with_len}
use Rattle.std.specs.Option.{option_or}
use Rattle.rx_model.specs.Expression.{Expression, Expressions, empty, literal, class, look, repetition, capture, concat, alternation, nil, cons}
use Rattle.rx_model.specs.Search.{greatest_group}

-- the name at one group, and none at others
abbrev pub only_at : (group : ℕ) (name : Option (List ℕ)) → ℕ → Option (List ℕ)
only_at group name g = if g == group then name else None

-- the name that stands at the number, the first where there are several; None where there is none
unfoldable mutual
  -- in the expression
  pub name_in : (group : ℕ) → Expression → Option (List ℕ)
  name_in g empty = None
  name_in g (literal bytes) = None
  name_in g (class members) = None
  name_in g (look kind) = None
  name_in g (repetition least greatest greedy sub) = name_in g sub
  name_in g (capture group name sub) = option_or (only_at group name g) (name_in g sub)
  name_in g (concat subs) = name_among g subs
  name_in g (alternation subs) = name_among g subs

  -- in one of the list
  pub name_among : (group : ℕ) → Expressions → Option (List ℕ)
  name_among g nil = None
  name_among g (cons sub subs) = option_or (name_in g sub) (name_among g subs)

-- The groups from 0, which is the whole match, to the greatest number, each with the name that stands at it.
abbrev pub group_names : Expression → List (Option (List ℕ))
group_names h = None ∷ map (λ g. name_in g h) (range_with_len 1 (greatest_group h))

-- the groups of each pattern, by their names: those from 0 to the greatest that its expression has
abbrev pub pattern_groups : List Expression → List (List (Option (List ℕ)))
pattern_groups hs = map group_names hs
