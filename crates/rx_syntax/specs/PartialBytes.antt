-- What a class of bytes holds that is gathered item by item.
use Rattle.std.specs.Prelude.{◌≡◌, ℕ, List, [], ◌∷◌, ◌++◌, All, Result, Ok, drop}
use Rattle.rx_class.specs.Ranges.{next_byte, fewest}
use Rattle.rx_reader.specs.Reading.{◌>>=◌}
use Rattle.rx_reader.specs.declared.class_item.ClassItem.{ClassItem}
use Rattle.rx_reader.specs.declared.error.SyntaxError.{SyntaxError}
use Rattle.rx_reader.specs.declared.flags.Flags.{Flags}
use Rattle.rx_reader.specs.declared.piece.Piece.{Piece}
use Rattle.rx_syntax.specs.declared.named.ByteKey.{ByteKey}
use Rattle.rx_syntax.specs.declared.partial_bytes.AddedBytes.{AddedBytes}
use Rattle.rx_syntax.specs.declared.partial_bytes.AddedBytes.TheVariants.{Range, Set}
use Rattle.rx_syntax.specs.declared.partial_bytes.PartialBytes.{PartialBytes}
use Rattle.rx_syntax.specs.Named.{bytes_of}
use Rattle.rx_syntax.specs.Classes.{all_bytes}
use Rattle.rx_syntax.specs.Refused.{before}

-- the ranges that an item adds
abbrev pub ranges_of_bytes : AddedBytes → List (ℕ × ℕ)
ranges_of_bytes (Range low high) = (low, high) ∷ []
ranges_of_bytes (Set key) = bytes_of key

-- the ranges hold the set: with it they are no more
abbrev pub HoldsBytes : List (ℕ × ℕ) → ByteKey → Type 0
HoldsBytes ranges key = fewest next_byte (ranges ++ bytes_of key) ≡ fewest next_byte ranges

-- the class is that of the ranges, and these hold each set that was added
pub record IsOfBytes (class : PartialBytes) (ranges : List (ℕ × ℕ)) : Type 0 where
  pub members : fewest next_byte class.ranges.items ≡ fewest next_byte ranges
  pub sets : All (HoldsBytes ranges) class.sets.items

-- the class of the items, or the first refusal
abbrev pub byte_class_of_items : Flags → Piece → List ClassItem → Result (List (ℕ × ℕ)) SyntaxError
byte_class_of_items flags piece items = all_bytes flags piece items >>= λ ranges. Ok (fewest next_byte ranges)

-- the class is that of the first of the items
pub record IsOfFirstBytes (flags : Flags) (piece : Piece) (items : List ClassItem) (count : ℕ) (class : PartialBytes) : Type 0 where
  pub ranges : List (ℕ × ℕ)
  pub whole : before ranges (all_bytes flags piece (drop count items)) ≡ all_bytes flags piece items
  pub is : IsOfBytes class ranges
