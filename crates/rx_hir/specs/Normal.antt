-- The expressions that the constructors make of their parts.
use Rattle.std.specs.Prelude.{ℕ, zero, suc, min, Bool, false, ◌==◌, List, [], ◌∷◌, ◌++◌, flat_map, Option, Some, None, option_map, if◌then◌else◌, encode_utf8}
use Rattle.rx_model.specs.Text.{Class, scalar_ranges, byte_ranges}
use Rattle.rx_model.specs.Expression.{Expression, Expressions, empty, literal, class, look, repetition, capture, concat, alternation, nil, cons}
use Rattle.rx_model.specs.Meaning.{Means}
use Rattle.rx_hir.specs.Length.{maximum_len}
use Rattle.rx_class.specs.Ranges.{only_member}

-- what nothing matches: the class of bytes without members
abbrev pub fail : Expression
fail = class (byte_ranges [])

-- the literal of these bytes
abbrev pub literal_of : List ℕ → Expression
literal_of [] = empty
literal_of (b ∷ bytes) = literal (b ∷ bytes)

-- the class, or `fail` where it has no ranges
abbrev pub set_of : Class → Expression
set_of (scalar_ranges []) = fail
set_of (scalar_ranges (r ∷ rs)) = class (scalar_ranges (r ∷ rs))
set_of (byte_ranges rs) = class (byte_ranges rs)

-- the encoding of the member of a class that has one
abbrev pub only_encoding : Class → Option (List ℕ)
only_encoding (scalar_ranges rs) = option_map encode_utf8 (only_member rs)
only_encoding (byte_ranges rs) = option_map (λ b. b ∷ []) (only_member rs)

abbrev pub literal_or : Expression → Option (List ℕ) → Expression
literal_or h None = h
literal_or h (Some bytes) = literal bytes

-- a class in fewest ranges: the literal of its member's encoding, where it has one member
abbrev pub class_of : Class → Expression
class_of members = literal_or (set_of members) (only_encoding members)

-- Repetitions.

-- nothing but the empty text can match
abbrev pub is_zero : Option ℕ → Bool
is_zero None = false
is_zero (Some n) = n == 0

abbrev pub at_most_one : Option ℕ → ℕ
at_most_one None = 1
at_most_one (Some n) = min n 1

-- no copies are the empty expression, and one copy is the body
abbrev pub copies_of : ℕ → Option ℕ → Bool → Expression → Expression
copies_of zero (Some zero) greedy sub = empty
copies_of (suc zero) (Some (suc zero)) greedy sub = sub
copies_of least greatest greedy sub = repetition least greatest greedy sub

-- more than one copy of a body of greatest length 0 are no more than one
abbrev pub repetition_of : ℕ → Option ℕ → Bool → Expression → Expression
repetition_of least greatest greedy sub =
    if is_zero (maximum_len sub) then copies_of (min least 1) (Some (at_most_one greatest)) greedy sub
    else copies_of least greatest greedy sub

-- Lists.

abbrev pub list_of : Expressions → List Expression
list_of nil = []
list_of (cons sub subs) = sub ∷ list_of subs

abbrev pub expressions : List Expression → Expressions
expressions [] = nil
expressions (h ∷ hs) = cons h (expressions hs)

-- what a part gives to the concatenation around it
abbrev pub parts_of : Expression → List Expression
parts_of empty = []
parts_of (concat subs) = list_of subs
parts_of (literal bytes) = literal bytes ∷ []
parts_of (class members) = class members ∷ []
parts_of (look kind) = look kind ∷ []
parts_of (repetition least greatest greedy sub) = repetition least greatest greedy sub ∷ []
parts_of (capture group name sub) = capture group name sub ∷ []
parts_of (alternation subs) = alternation subs ∷ []

-- a part before others, joined with the first of them where both are literals
abbrev pub join_literals : Expression → List Expression → List Expression
join_literals (literal a) (literal b ∷ hs) = literal (a ++ b) ∷ hs
join_literals h hs = h ∷ hs

-- adjacent literals are one
abbrev pub joined : List Expression → List Expression
joined [] = []
joined (h ∷ hs) = join_literals h (joined hs)

abbrev pub sequence_of : List Expression → Expression
sequence_of [] = empty
sequence_of (h ∷ []) = h
sequence_of (h ∷ i ∷ hs) = concat (expressions (h ∷ i ∷ hs))

-- one after another
abbrev pub concat_of : List Expression → Expression
concat_of hs = sequence_of (joined (flat_map parts_of hs))

-- what an alternative gives to the alternation around it
abbrev pub alternatives_of : Expression → List Expression
alternatives_of (alternation subs) = list_of subs
alternatives_of empty = empty ∷ []
alternatives_of (literal bytes) = literal bytes ∷ []
alternatives_of (class members) = class members ∷ []
alternatives_of (look kind) = look kind ∷ []
alternatives_of (repetition least greatest greedy sub) = repetition least greatest greedy sub ∷ []
alternatives_of (capture group name sub) = capture group name sub ∷ []
alternatives_of (concat subs) = concat subs ∷ []

abbrev pub choice_of : List Expression → Expression
choice_of [] = fail
choice_of (h ∷ []) = h
choice_of (h ∷ i ∷ hs) = alternation (expressions (h ∷ i ∷ hs))

-- one of these, the first preferred
abbrev pub alternation_of : List Expression → Expression
alternation_of hs = choice_of (flat_map alternatives_of hs)

-- Two expressions mean the same parts of a text.
abbrev pub MeanTheSame : (terminator : ℕ) (text : List ℕ) → Expression → Expression → Type 0
MeanTheSame t text g h = (i j : ℕ) → (Means t text g i j → Means t text h i j) × (Means t text h i j → Means t text g i j)
