-- The tests of an expression that lies before a literal: each shows that no match starts earlier.
use Rattle.std.specs.Prelude.{ℕ, Bool, true, false, ◌&&◌, ◌||◌, not, List, [], ◌∷◌, Option, Some, None, if◌then◌else◌, nat_eq, nat_le, nat_lt, chars}
use Rattle.std.specs.List.{list_any, list_all}
use Rattle.std.specs.Str.{is_utf8}
use Rattle.rx_model.specs.Text.{Class, scalar_ranges, byte_ranges, is_member}
use Rattle.rx_model.specs.Expression.{Expression, Expressions, empty, literal, class, look, repetition, capture, concat, alternation, nil, cons}
use Rattle.rx_model.specs.Length.{minimum_len}
use Rattle.rx_hir.specs.Length.{maximum_len, sum_of_maximum_len, saturated, in_64_bits}
use Rattle.rx_hir.specs.Normal.{is_zero}

-- both lengths are known, and equal
abbrev pub are_equal : Option ℕ → Option ℕ → Bool
are_equal None b = false
are_equal (Some m) None = false
are_equal (Some m) (Some n) = nat_eq m n

-- the lengths as 64 bits tell them: a least length above is the greatest number, a greatest length above is not known
abbrev pub has_fixed_length : Expression → Bool
has_fixed_length h = are_equal (saturated (minimum_len h)) (in_64_bits (maximum_len h))

-- Bytes.

-- a member's encoding may have the byte; of scalars each byte above 0x7F counts
abbrev pub class_has_byte : ℕ → Class → Bool
class_has_byte b (scalar_ranges ranges) = nat_le 0x80 b || is_member ranges b
class_has_byte b (byte_ranges ranges) = is_member ranges b

unfoldable mutual
  -- the expression can consume the byte, as literals and classes alone tell
  pub can_consume : ℕ → Expression → Bool
  can_consume b empty = false
  can_consume b (literal bytes) = list_any (nat_eq b) bytes
  can_consume b (class members) = class_has_byte b members
  can_consume b (look kind) = false
  can_consume b (repetition min max greedy sub) = can_consume b sub
  can_consume b (capture group name sub) = can_consume b sub
  can_consume b (concat subs) = one_can_consume b subs
  can_consume b (alternation subs) = one_can_consume b subs

  pub one_can_consume : ℕ → Expressions → Bool
  one_can_consume b nil = false
  one_can_consume b (cons sub subs) = can_consume b sub || one_can_consume b subs

-- it can't consume some byte of the literal
abbrev pub cannot_consume_all : Expression → List ℕ → Bool
cannot_consume_all x s = list_any (λ b. not (can_consume b x)) s

-- Separators.

-- no number of the range lies in one of the list
abbrev pub is_clear : List (ℕ × ℕ) → ℕ × ℕ → Bool
is_clear rs q = list_all (λ r. nat_lt r.1 q.0 || nat_lt q.1 r.0) rs

-- no number lies in a range of both lists
abbrev pub are_disjoint : List (ℕ × ℕ) → List (ℕ × ℕ) → Bool
are_disjoint rs qs = list_all (is_clear rs) qs

-- the classes share no member; mixed ones may
abbrev pub are_apart : Class → Class → Bool
are_apart (scalar_ranges rs) (scalar_ranges qs) = are_disjoint rs qs
are_apart (byte_ranges rs) (byte_ranges qs) = are_disjoint rs qs
are_apart (scalar_ranges rs) (byte_ranges qs) = false
are_apart (byte_ranges rs) (scalar_ranges qs) = false

-- the literal has no member of the class; beside scalars it is UTF-8
abbrev pub literal_is_apart : Class → List ℕ → Bool
literal_is_apart (scalar_ranges rs) bytes = is_utf8 bytes && list_all (λ c. not (is_member rs c)) (chars bytes)
literal_is_apart (byte_ranges rs) bytes = list_all (λ b. not (is_member rs b)) bytes

unfoldable mutual
  -- the literals and classes of the expression share no member with the class
  pub is_apart : Class → Expression → Bool
  is_apart k empty = true
  is_apart k (literal bytes) = literal_is_apart k bytes
  is_apart k (class members) = are_apart k members
  is_apart k (look kind) = true
  is_apart k (repetition min max greedy sub) = is_apart k sub
  is_apart k (capture group name sub) = is_apart k sub
  is_apart k (concat subs) = all_apart k subs
  is_apart k (alternation subs) = all_apart k subs

  pub all_apart : Class → Expressions → Bool
  all_apart k nil = true
  all_apart k (cons sub subs) = is_apart k sub && all_apart k subs

-- the class that the expression is, but for captures
unfoldable pub plain_class : Expression → Option Class
plain_class (class members) = Some members
plain_class (capture group name sub) = plain_class sub
plain_class _ = None

-- the class that the expression is, or repeats at least once, but for captures
unfoldable pub separator_class : Expression → Option Class
separator_class (class members) = Some members
separator_class (repetition min max greedy sub) = if nat_le 1 min then plain_class sub else None
separator_class (capture group name sub) = separator_class sub
separator_class _ = None

-- the part is consuming, and none after it is
abbrev pub is_last_consuming : Expression → Expressions → Bool
is_last_consuming sub subs = is_zero (sum_of_maximum_len subs) && not (is_zero (maximum_len sub))

-- the class of the last consuming part
unfoldable pub last_class : Expressions → Option Class
last_class nil = None
last_class (cons sub subs) = if is_last_consuming sub subs then separator_class sub else last_class subs

-- each part but the last consuming one shares no member with the class
unfoldable pub are_apart_but_last : Class → Expressions → Bool
are_apart_but_last k nil = true
are_apart_but_last k (cons sub subs) = if is_last_consuming sub subs then all_apart k subs else is_apart k sub && are_apart_but_last k subs

-- the class of the first consuming part
unfoldable pub first_class : Expressions → Option Class
first_class nil = None
first_class (cons sub subs) = if is_zero (maximum_len sub) then first_class subs else separator_class sub

-- each part but the first consuming one shares no member with the class
unfoldable pub are_apart_but_first : Class → Expressions → Bool
are_apart_but_first k nil = true
are_apart_but_first k (cons sub subs) = if is_zero (maximum_len sub) then is_apart k sub && are_apart_but_first k subs else all_apart k subs

-- none of the literals shares a member with the class
abbrev pub literals_are_apart : Class → List (List ℕ) → Bool
literals_are_apart k ls = list_all (literal_is_apart k) ls

abbrev pub has_two : Expressions → Bool
has_two nil = false
has_two (cons sub nil) = false
has_two (cons sub (cons next subs)) = true

-- there is a class, and it passes the test
abbrev pub passes : Option Class → (Class → Bool) → Bool
passes None test = false
passes (Some k) test = test k

-- the last consuming part separates the literals from all that is before them
unfoldable pub has_last_separator : Expression → List (List ℕ) → Bool
has_last_separator (capture group name sub) ls = has_last_separator sub ls
has_last_separator (concat subs) ls = has_two subs && passes (last_class subs) (λ k. are_apart_but_last k subs && literals_are_apart k ls)
has_last_separator _ ls = false

-- the first consuming part separates what is before it from all that is after it
unfoldable pub has_first_separator : Expression → List (List ℕ) → Bool
has_first_separator (capture group name sub) ls = has_first_separator sub ls
has_first_separator (concat subs) ls = has_two subs && passes (first_class subs) (λ k. are_apart_but_first k subs && literals_are_apart k ls)
has_first_separator _ ls = false

-- A consuming part at one end is a required block of a class with which nothing else shares a member, whatever the
-- literals are; or the block is all there is.
unfoldable pub separates : Expression → Bool
separates (capture group name sub) = separates sub
separates (concat subs) = passes (last_class subs) (λ k. are_apart_but_last k subs) || passes (first_class subs) (λ k. are_apart_but_first k subs)
separates (class members) = true
separates (repetition min max greedy sub) = passes (separator_class (repetition min max greedy sub)) (λ k. true)
separates _ = false

-- The tests together.

-- of what is left of an expression without its suffix
abbrev pub suffix_has_no_earlier : Expression → List ℕ → Bool
suffix_has_no_earlier x s =
    has_fixed_length x || (has_last_separator x (s ∷ []) || (has_first_separator x (s ∷ []) || cannot_consume_all x s))

-- there is one literal, and the prefix can't consume some byte of it
abbrev pub one_not_consumed : Expression → List (List ℕ) → Bool
one_not_consumed p [] = false
one_not_consumed p (l ∷ []) = cannot_consume_all p l
one_not_consumed p (l ∷ m ∷ ls) = false

abbrev pub is_not_empty : List ℕ → Bool
is_not_empty [] = false
is_not_empty (b ∷ bytes) = true

-- there are literals, and none is empty
abbrev pub are_literals : List (List ℕ) → Bool
are_literals [] = false
are_literals (l ∷ ls) = list_all is_not_empty (l ∷ ls)

-- of a prefix and the literals after it
abbrev pub inner_has_no_earlier : Expression → List (List ℕ) → Bool
inner_has_no_earlier p ls =
    are_literals ls && (one_not_consumed p ls || (has_fixed_length p || (has_last_separator p ls || has_first_separator p ls)))
