-- The greatest length in bytes of what an expression means, as far as a bound is known, and how a program
-- keeps lengths in 64 bits.
use Rattle.std.specs.Prelude.{ℕ, ◌-◌, ◌*◌, ◌^◌, min, max, List, [], ◌∷◌, length, Option, Some, None, if◌then◌else◌, nat_le, nat_lt, ◌&&◌}
use Rattle.std.specs.Char.{len_utf8}
use Rattle.rx_model.specs.Text.{Class, scalar_ranges, byte_ranges}
use Rattle.rx_model.specs.Length.{plus, shortest_byte}
use Rattle.rx_model.specs.Expression.{Expression, Expressions, empty, literal, class, look, repetition, capture, concat, alternation, nil, cons}

-- the product of two bounds; none is known where one of them is not
abbrev pub times : Option ℕ → Option ℕ → Option ℕ
times None b = None
times (Some m) None = None
times (Some m) (Some n) = Some (m * n)

-- the greater of two bounds; none is known where one of them is not
abbrev pub greater : Option ℕ → Option ℕ → Option ℕ
greater None b = None
greater (Some m) None = None
greater (Some m) (Some n) = Some (max m n)

-- the greater of the lengths that there are
abbrev pub longer : Option ℕ → Option ℕ → Option ℕ
longer None b = b
longer (Some m) None = Some m
longer (Some m) (Some n) = Some (max m n)

-- the greatest scalar up to c
abbrev pub scalar_until : ℕ → ℕ
scalar_until c = if nat_le 0xD800 c && nat_lt c 0xE000 then 0xD7FF else min c 0x10FFFF

-- the length of the encoding of the greatest scalar in the range, if it has one
abbrev pub longest_scalar : ℕ × ℕ → Option ℕ
longest_scalar r = let c = scalar_until r.1 in if nat_le r.0 c then Some (len_utf8 c) else None

-- the greatest length that a range of the list gives
abbrev pub longest_of : (ℕ × ℕ → Option ℕ) → List (ℕ × ℕ) → Option ℕ
longest_of longest [] = None
longest_of longest (r ∷ rs) = longer (longest r) (longest_of longest rs)

-- the length of the longest encoding of a member; None where the class has no members
abbrev pub longest_member : Class → Option ℕ
longest_member (scalar_ranges ranges) = longest_of longest_scalar ranges
longest_member (byte_ranges ranges) = longest_of shortest_byte ranges

abbrev mutual
  -- An upper bound on the length of what the expression means. None: no bound is known.
  pub maximum_len : Expression → Option ℕ
  maximum_len empty = Some 0
  maximum_len (literal bytes) = Some (length bytes)
  maximum_len (class members) = longest_member members
  maximum_len (look kind) = Some 0
  maximum_len (repetition least greatest greedy sub) = times (maximum_len sub) greatest
  maximum_len (capture group name sub) = maximum_len sub
  maximum_len (concat subs) = sum_of_maximum_len subs
  maximum_len (alternation subs) = greatest_maximum_len subs

  -- the sum over the parts of a concatenation
  pub sum_of_maximum_len : Expressions → Option ℕ
  sum_of_maximum_len nil = Some 0
  sum_of_maximum_len (cons sub subs) = plus (maximum_len sub) (sum_of_maximum_len subs)

  -- the greatest over the alternatives; no bound is known where there are none
  pub greatest_maximum_len : Expressions → Option ℕ
  greatest_maximum_len nil = None
  greatest_maximum_len (cons sub nil) = maximum_len sub
  greatest_maximum_len (cons sub (cons next subs)) = greater (maximum_len sub) (greatest_maximum_len (cons next subs))

-- a least length, or the greatest number of 64 bits where it is above
abbrev pub saturated : Option ℕ → Option ℕ
saturated None = None
saturated (Some n) = Some (min n (2 ^ 64 - 1))

-- a greatest length, if it is a number of 64 bits
abbrev pub in_64_bits : Option ℕ → Option ℕ
in_64_bits None = None
in_64_bits (Some n) = if nat_lt n (2 ^ 64) then Some n else None
