-- The words in which the grammar reads a pattern, from left to right.
use Rattle.std.specs.Prelude.{ℕ, zero, suc, ◌+◌, Bool, true, false, ◌||◌, not, ◌&&◌, ◌==◌, nat_eq, List, [], ◌∷◌, Result, Ok, Err, slice_index, codes, length, drop, bytes_eq, if◌then◌else◌}
use Rattle.std.specs.List.{starts_with, list_any}
use Rattle.std.specs.Char.{len_utf8, is_whitespace}
use Rattle.std.specs.Ordering.{nat_cmp}
use Rattle.std.specs.BTreeSet.{insert_key}
use Rattle.std.specs.Cmp.Lexicographic.{slice_cmp}
use Rattle.rx_reader.specs.declared.error.SyntaxError.{SyntaxError}
use Rattle.rx_reader.specs.declared.error.SyntaxErrorKind.{SyntaxErrorKind}
use Rattle.rx_reader.specs.declared.piece.Piece.{Piece}
use Prim.Native.String.{String}

-- a place in a pattern: the characters that are still to read, how many bytes stand before them, how many
-- capturing groups were opened there, and the names that these have, in ascending order
pub record Place : Type 0 where
  pub text : List ℕ
  pub at : ℕ
  pub groups : ℕ
  pub names : List (List ℕ)

-- what is read at a place and the place after it, or the first refusal
abbrev pub Read : Type 0 → Type 0
Read A = Result (A × Place) SyntaxError

-- one step after another, each of which may refuse
infixl 10 ◌>>=◌
abbrev pub ◌>>=◌ : {A B : Type 0} → Result A SyntaxError → (A → Result B SyntaxError) → Result B SyntaxError
Ok a >>= f = f a
Err e >>= f = Err e

-- the piece from one place to another
abbrev pub piece_of : Place → Place → Piece
piece_of from to = record { start = from.at; end = to.at }

-- the piece from one place to another is refused
abbrev pub refuse : {A : Type 0} → SyntaxErrorKind → Place → Place → Result A SyntaxError
refuse kind from to = Err (record { kind = kind; start = from.at; end = to.at })

abbrev pub at_end : Place → Bool
at_end p = length p.text == 0

-- the character at the place
abbrev pub first : Place → ℕ
first p = slice_index p.text 0

-- past the character at the place, if there is one
abbrev pub past : Place → Place
past p = record { text = drop 1 p.text; at = p.at + (if at_end p then 0 else len_utf8 (first p)); groups = p.groups; names = p.names }

-- with one capturing group more
abbrev pub count_group : Place → Place
count_group p = record { text = p.text; at = p.at; groups = p.groups + 1; names = p.names }

-- a group before the place has this name
abbrev pub has_name : List ℕ → Place → Bool
has_name name p = list_any (bytes_eq name) p.names

-- with one name more
abbrev pub add_name : List ℕ → Place → Place
add_name name p = record { text = p.text; at = p.at; groups = p.groups; names = insert_key (slice_cmp nat_cmp) p.names name }

abbrev pub is_among : ℕ → List ℕ → Bool
is_among c [] = false
is_among c (d ∷ []) = c == d
is_among c (d ∷ e ∷ rest) = c == d || is_among c (e ∷ rest)

-- the character is one of these
infix 60 ◌∈◌
abbrev pub ◌∈◌ : ℕ → String → Bool
c ∈ s = is_among c (codes s)

-- one of these characters stands at the place
abbrev pub is_at : String → Place → Bool
is_at s p = not (at_end p) && first p ∈ s

-- this word stands at the place
abbrev pub begins : String → Place → Bool
begins s p = starts_with nat_eq p.text (codes s)

-- a character that passes a test stands at the place
abbrev pub passes : (ℕ → Bool) → Place → Bool
passes test p = not (at_end p) && test (first p)

abbrev pub past_if : (more : Place → Place) → Place → Bool → Place
past_if more p true = more (past p)
past_if more p false = p

-- past the characters in a row that pass a test; each step passes one, and the number bounds the steps
unfoldable pub past_while : (ℕ → Bool) → ℕ → Place → Place
past_while test zero p = p
past_while test (suc n) p = past_if (past_while test n) p (passes test p)

abbrev pub past_all : (ℕ → Bool) → Place → Place
past_all test p = past_while test (length p.text) p

-- past white space, where it is skipped
abbrev pub past_white : (skips : Bool) → Place → Place
past_white true p = past_all is_whitespace p
past_white false p = p
