-- What a replacement template stands for: by cases on its first `$`.
use Rattle.std.specs.Prelude.{◌≡◌, ℕ, ◌+◌, ◌^◌, Bool, ◌&&◌, ◌||◌, ◌==◌, nat_lt, List, [], ◌∷◌, ◌++◌, length, take, drop, Option, Some, None, slice_index, if◌then◌else◌}
use Rattle.std.specs.List.{list_all, position, prefix_len}
use Rattle.std.specs.Option.{option_or}
use Rattle.std.specs.Char.{is_digit, is_ascii_alphanumeric}
use Rattle.std.specs.Str.{is_utf8}
use Rattle.std.specs.Str.Parse.{digits_value}

abbrev pub is_dollar : ℕ → Bool
is_dollar b = b == 36

abbrev pub is_closing_brace : ℕ → Bool
is_closing_brace b = b == 125

-- 0-9, A-Z, a-z and `_`
abbrev pub is_name_byte : ℕ → Bool
is_name_byte b = is_ascii_alphanumeric b || (b == 95)

-- the text of a reference of so many bytes, and how many bytes it takes in all
abbrev pub Reference : Type 0
Reference = List ℕ × ℕ

-- what stands before the first `}`, where it is UTF-8; after an opening brace
abbrev pub braced : (inside : List ℕ) → Option ℕ → Option Reference
braced inside None = None
braced inside (Some len) = if is_utf8 (take len inside) then Some (take len inside, len + 2) else None

-- a name of so many bytes, and of one at least
abbrev pub bare : (after : List ℕ) → ℕ → Option Reference
bare after len = if nat_lt 0 len then Some (take len after, len) else None

-- the reference that follows a `$`: what stands in braces, or the longest name
abbrev pub reference_in : (after : List ℕ) → Option Reference
reference_in after =
    if slice_index after 0 == 123
    then braced (drop 1 after) (position is_closing_brace (drop 1 after))
    else bare after (prefix_len is_name_byte after)

-- one or more digits and nothing else are a number, where it fits a `usize`
abbrev pub number_of : (name : List ℕ) → Option ℕ
number_of name =
    if nat_lt 0 (length name) && list_all (λ b. is_digit b 10) name && nat_lt (digits_value 10 name) (2 ^ 64)
    then Some (digits_value 10 name) else None

-- `piece i` is what group i appends, and `index name` the group of a name
module _ (piece : ℕ → List ℕ) (index : List ℕ → Option ℕ) where
  -- a name without a group appends nothing
  abbrev pub piece_of : Option ℕ → List ℕ
  piece_of None = []
  piece_of (Some i) = piece i

  -- what a `$` and what follows it stand for, and how many of the bytes that follow are taken
  abbrev pub referenced : Option Reference → List ℕ × ℕ
  referenced None = (36 ∷ [], 0)
  referenced (Some r) = (piece_of (option_or (number_of r.0) (index r.0)), r.1)

  abbrev pub at_dollar : (after : List ℕ) → List ℕ × ℕ
  at_dollar after = if slice_index after 0 == 36 then (36 ∷ [], 1) else referenced (reference_in after)

-- the text of a template, by cases on its first `$`
pub data IsTextOf (piece : ℕ → List ℕ) (index : List ℕ → Option ℕ) : (template text : List ℕ) → Type 0 where
  plain : (template : List ℕ) → position is_dollar template ≡ None → IsTextOf piece index template template
  dollar : (template text : List ℕ) (place : ℕ) → position is_dollar template ≡ Some place
      → IsTextOf piece index (drop (place + 1 + (at_dollar piece index (drop (place + 1) template)).1) template) text
      → IsTextOf piece index template (take place template ++ ((at_dollar piece index (drop (place + 1) template)).0 ++ text))

-- some pieces of a template, in order and from its front on: what stands before a `$`, and what that `$` stands for
pub data IsFrontOf (piece : ℕ → List ℕ) (index : List ℕ → Option ℕ) : (template front : List ℕ) → Type 0 where
  none : (template : List ℕ) → IsFrontOf piece index template []
  to_dollar : (template : List ℕ) (place : ℕ) → position is_dollar template ≡ Some place → IsFrontOf piece index template (take place template)
  past_dollar : (template front : List ℕ) (place : ℕ) → position is_dollar template ≡ Some place
      → IsFrontOf piece index (drop (place + 1 + (at_dollar piece index (drop (place + 1) template)).1) template) front
      → IsFrontOf piece index template (take place template ++ ((at_dollar piece index (drop (place + 1) template)).0 ++ front))

-- the text of a template begins with each such front
abbrev pub BeginsWithFronts : Type 0
BeginsWithFronts = (piece : ℕ → List ℕ) (index : List ℕ → Option ℕ) (template text front : List ℕ) → IsTextOf piece index template text
    → IsFrontOf piece index template front → (rest : List ℕ) × (text ≡ front ++ rest)

-- each template has one text
abbrev pub HasOneText : Type 0
HasOneText = (piece : ℕ → List ℕ) (index : List ℕ → Option ℕ) (template : List ℕ)
    → (text : List ℕ) × IsTextOf piece index template text × ((other : List ℕ) → IsTextOf piece index template other → other ≡ text)
