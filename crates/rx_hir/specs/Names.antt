-- The groups of an expression, and their names.
use Rattle.std.specs.Prelude.{ℕ, ◌≡◌, ◌+◌, List, [], ◌∷◌, Option, Some, ◌⊎◌}
use Rattle.std.specs.Option.{option_or}
use Rattle.rx_model.specs.Expression.{Expression, Expressions, empty, literal, class, look, repetition, capture, concat, alternation, nil, cons}
pub use Rattle.rx_search.specs.PatternGroups.{only_at, group_names}
unfoldable pub use Rattle.rx_search.specs.PatternGroups.{name_in, name_among}

-- a group of this number stands, with this name or without one, in
unfoldable mutual
  -- the expression
  pub IsNamed : (group : ℕ) (name : Option (List ℕ)) → Expression → Type 0
  IsNamed g n empty = ⊥
  IsNamed g n (literal bytes) = ⊥
  IsNamed g n (class members) = ⊥
  IsNamed g n (look kind) = ⊥
  IsNamed g n (repetition least greatest greedy sub) = IsNamed g n sub
  IsNamed g n (capture group name sub) = ((g ≡ group) × (n ≡ name)) ⊎ IsNamed g n sub
  IsNamed g n (concat subs) = IsNamedAmong g n subs
  IsNamed g n (alternation subs) = IsNamedAmong g n subs

  -- one of the list
  pub IsNamedAmong : (group : ℕ) (name : Option (List ℕ)) → Expressions → Type 0
  IsNamedAmong g n nil = ⊥
  IsNamedAmong g n (cons sub subs) = IsNamed g n sub ⊎ IsNamedAmong g n subs

-- A number stands always with the same name, or always without one, and no name stands at two numbers.
pub record HasOneNameEach (h : Expression) : Type 0 where
  pub one_name : (g : ℕ) (m n : Option (List ℕ)) → IsNamed g m h → IsNamed g n h → m ≡ n
  pub one_number : (g k : ℕ) (name : List ℕ) → IsNamed g (Some name) h → IsNamed k (Some name) h → g ≡ k

-- Groups, numbered from g on, of which those without a name have the one that f gives.
abbrev pub filled : (ℕ → Option (List ℕ)) → (g : ℕ) → List (Option (List ℕ)) → List (Option (List ℕ))
filled f g [] = []
filled f g (name ∷ names) = option_or name (f g) ∷ filled f (g + 1) names
