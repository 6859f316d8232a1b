-- What a class holds that is gathered item by item.
use Rattle.std.specs.Prelude.{◌≡◌, ℕ, List, [], ◌∷◌, ◌++◌, All, Result, Ok, drop}
use Rattle.rx_class.specs.Ranges.{next_scalar, fewest, HaveScalarEnds}
use Rattle.rx_reader.specs.Reading.{◌>>=◌}
use Rattle.rx_reader.specs.declared.class_item.ClassItem.{ClassItem}
use Rattle.rx_reader.specs.declared.error.SyntaxError.{SyntaxError}
use Rattle.rx_reader.specs.declared.flags.Flags.{Flags}
use Rattle.rx_syntax.specs.declared.named.SetKey.{SetKey}
use Rattle.rx_syntax.specs.declared.partial.Added.{Added}
use Rattle.rx_syntax.specs.declared.partial.Added.TheVariants.{Range, Set}
use Rattle.rx_syntax.specs.declared.partial.PartialClass.{PartialClass}
use Rattle.rx_syntax.specs.Named.{scalars_of}
use Rattle.rx_syntax.specs.Classes.{all_scalars}
use Rattle.rx_syntax.specs.Refused.{before}

-- the ranges that an item adds
abbrev pub ranges_of : Added → List (ℕ × ℕ)
ranges_of (Range low high) = (low, high) ∷ []
ranges_of (Set key) = scalars_of key

-- the ranges hold the set: with it they are no more
abbrev pub IsHeld : List (ℕ × ℕ) → SetKey → Type 0
IsHeld ranges key = HaveScalarEnds (scalars_of key) × (fewest next_scalar (ranges ++ scalars_of key) ≡ fewest next_scalar ranges)

-- the class is that of the ranges, and these hold each set that was added
pub record IsOf (class : PartialClass) (ranges : List (ℕ × ℕ)) : Type 0 where
  pub ends : HaveScalarEnds ranges
  pub members : class.members ≡ fewest next_scalar ranges
  pub sets : All (IsHeld ranges) class.sets.items

-- the class of the items, or the first refusal
abbrev pub class_of_items : Flags → List ClassItem → Result (List (ℕ × ℕ)) SyntaxError
class_of_items flags items = all_scalars flags items >>= λ ranges. Ok (fewest next_scalar ranges)

-- the class is that of the first of the items
pub record IsOfFirst (flags : Flags) (items : List ClassItem) (count : ℕ) (class : PartialClass) : Type 0 where
  pub ranges : List (ℕ × ℕ)
  pub whole : before ranges (all_scalars flags (drop count items)) ≡ all_scalars flags items
  pub is : IsOf class ranges
