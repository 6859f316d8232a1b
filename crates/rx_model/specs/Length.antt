-- The least length in bytes of what an expression means, as far as a bound is known.
use Rattle.std.specs.Prelude.{ℕ, ◌+◌, ◌*◌, min, Bool, false, ◌&&◌, List, [], ◌∷◌, length, Option, Some, None, option_map, if◌then◌else◌, nat_le, nat_lt}
use Rattle.std.specs.Char.{len_utf8}
use Rattle.rx_model.specs.Text.{Class, scalar_ranges, byte_ranges}
use Rattle.rx_model.specs.Expression.{Expression, Expressions, empty, literal, class, look, repetition, capture, concat, alternation, nil, cons}

-- the sum of two bounds; none is known where one of them is not
abbrev pub plus : Option ℕ → Option ℕ → Option ℕ
plus None b = None
plus (Some m) None = None
plus (Some m) (Some n) = Some (m + n)

-- the lesser of two bounds; none is known where one of them is not
abbrev pub lesser : Option ℕ → Option ℕ → Option ℕ
lesser None b = None
lesser (Some m) None = None
lesser (Some m) (Some n) = Some (min m n)

-- the lesser of the lengths that there are
abbrev pub shorter : Option ℕ → Option ℕ → Option ℕ
shorter None b = b
shorter (Some m) None = Some m
shorter (Some m) (Some n) = Some (min m n)

-- the least scalar from c on, among the numbers up to 0x10FFFF
abbrev pub scalar_from : ℕ → ℕ
scalar_from c = if nat_le 0xD800 c && nat_lt c 0xE000 then 0xE000 else c

-- the length of the encoding of the least scalar in the range, if it has one
abbrev pub shortest_scalar : ℕ × ℕ → Option ℕ
shortest_scalar r =
    let c = scalar_from r.0 in
    if nat_le c r.1 && nat_le c 0x10FFFF then Some (len_utf8 c) else None

-- one byte, if the range has one
abbrev pub shortest_byte : ℕ × ℕ → Option ℕ
shortest_byte r = if nat_le r.0 r.1 then Some 1 else None

-- the least length that a range of the list gives
abbrev pub shortest_of : (ℕ × ℕ → Option ℕ) → List (ℕ × ℕ) → Option ℕ
shortest_of shortest [] = None
shortest_of shortest (r ∷ rs) = shorter (shortest r) (shortest_of shortest rs)

-- the length of the shortest encoding of a member; None where the class has no members
abbrev pub shortest_member : Class → Option ℕ
shortest_member (scalar_ranges ranges) = shortest_of shortest_scalar ranges
shortest_member (byte_ranges ranges) = shortest_of shortest_byte ranges

abbrev mutual
  -- A lower bound on the length of what the expression means. None: no bound is known.
  pub minimum_len : Expression → Option ℕ
  minimum_len empty = Some 0
  minimum_len (literal bytes) = Some (length bytes)
  minimum_len (class members) = shortest_member members
  minimum_len (look kind) = Some 0
  minimum_len (repetition least greatest greedy sub) = option_map (λ n. n * least) (minimum_len sub)
  minimum_len (capture group name sub) = minimum_len sub
  minimum_len (concat subs) = sum_of_minimum_len subs
  minimum_len (alternation subs) = least_minimum_len subs

  -- the sum over the parts of a concatenation
  pub sum_of_minimum_len : Expressions → Option ℕ
  sum_of_minimum_len nil = Some 0
  sum_of_minimum_len (cons sub subs) = plus (minimum_len sub) (sum_of_minimum_len subs)

  -- the least over the alternatives; no bound is known where there are none
  pub least_minimum_len : Expressions → Option ℕ
  least_minimum_len nil = None
  least_minimum_len (cons sub nil) = minimum_len sub
  least_minimum_len (cons sub (cons next subs)) = lesser (minimum_len sub) (least_minimum_len (cons next subs))

-- the bound is known and above 0
abbrev pub is_positive : Option ℕ → Bool
is_positive None = false
is_positive (Some n) = nat_lt 0 n
