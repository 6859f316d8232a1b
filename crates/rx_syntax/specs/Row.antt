-- What parts in a row, or one of some alternatives, weigh.
use Rattle.std.specs.Prelude.{◌≡◌, ℕ, ◌+◌, max, Bool, true, ◌&&◌, List, [], ◌∷◌, Option, Some, None}
use Rattle.rx_model.specs.Expression.{Expression, empty, alternation}
use Rattle.rx_model.specs.Search.{greatest_group}
use Rattle.rx_hir.specs.Cost.{accounted_states, capped}
use Rattle.rx_hir.specs.Length.{maximum_len}
use Rattle.rx_hir.specs.Normal.{is_zero, parts_of, alternatives_of, expressions}
use Rattle.rx_syntax.specs.Weight.{weight_of, IsNormal}
use Rattle.rx_syntax.specs.declared.weight.Shape.TheVariants.{Other}
use Rattle.rx_syntax.specs.declared.weight.Weight.{Weight}

-- the states of all
abbrev pub states_in : List Expression → ℕ
states_in [] = 0
states_in (h ∷ hs) = accounted_states h + states_in hs

-- the greatest length of each is 0
abbrev pub are_null : List Expression → Bool
are_null [] = true
are_null (h ∷ hs) = is_zero (maximum_len h) && are_null hs

-- the greatest group of all
abbrev pub greatest_of : List Expression → ℕ
greatest_of [] = 0
greatest_of (h ∷ hs) = max (greatest_group h) (greatest_of hs)

abbrev pub row_weight : List Expression → Weight
row_weight hs = record { states = capped (states_in hs); shape = Other; is_null = are_null hs; greatest_group = greatest_of hs }

-- one part, which is no concatenation and not empty
pub record IsOne (h : Expression) (w : Weight) : Type 0 where
  pub weight : w ≡ weight_of h
  pub normal : IsNormal h
  pub alone : parts_of h ≡ h ∷ []

-- the weight of these parts in a row: none, one or more
abbrev pub IsRow : List Expression → Weight → Type 0
IsRow [] w = w ≡ weight_of empty
IsRow (h ∷ []) w = IsOne h w
IsRow (h ∷ i ∷ hs) w = w ≡ row_weight (h ∷ i ∷ hs)

-- one alternative, which is no alternation
pub record IsOnly (h : Expression) (w : Weight) : Type 0 where
  pub weight : w ≡ weight_of h
  pub normal : IsNormal h
  pub alone : alternatives_of h ≡ h ∷ []

-- the weight of one of these alternatives: one or more
abbrev pub IsChoice : List Expression → Weight → Type 0
IsChoice [] w = ⊥
IsChoice (h ∷ []) w = IsOnly h w
IsChoice (h ∷ i ∷ hs) w = w ≡ weight_of (alternation (expressions (h ∷ i ∷ hs)))

-- of those so far, if there are any
abbrev pub IsChoiceSoFar : List Expression → Option Weight → Type 0
IsChoiceSoFar hs None = hs ≡ []
IsChoiceSoFar hs (Some w) = IsChoice hs w
