-- The literals that begin, or end, what an expression means.
use Rattle.std.specs.Prelude.{ℕ, zero, suc, min, Bool, true, false, ◌&&◌, List, [], ◌∷◌, length, map, Option, Some, None, if◌then◌else◌, nat_lt, nat_le, nat_eq, encode_utf8}
use Rattle.std.specs.List.{flat_map}
use Rattle.rx_model.specs.Text.{Class, scalar_ranges, byte_ranges}
use Rattle.rx_model.specs.Expression.{Expression, Expressions, empty, literal, class, look, repetition, capture, concat, alternation, nil, cons}
use Rattle.rx_class.specs.Ranges.{next_scalar, next_byte}
use Rattle.rx_literal.specs.Literals.{exact, Seq, infinite, finite, cut, one_empty, loosened, union, cross_on, cross_times}
use Rattle.rx_literal.specs.declared.side.Side.{Side}
use Rattle.rx_literal.specs.declared.side.Side.TheVariants.{Front as front, Back as back}

-- the first n numbers from `low` to `high`, in the order of `next`
abbrev pub numbers : (next : ℕ → ℕ) → (n low high : ℕ) → List ℕ
numbers next zero low high = []
numbers next (suc n) low high = if nat_le low high then low ∷ numbers next n (next low) high else []

-- the members of the ranges in ascending order, with no more than 11 of each range
unfoldable pub members : (next : ℕ → ℕ) → List (ℕ × ℕ) → List ℕ
members next ranges = flat_map (λ (r : ℕ × ℕ). numbers next 11 r.0 r.1) ranges

-- more than 10 are infinite
unfoldable pub each_exact : List (List ℕ) → Seq
each_exact encodings = if nat_lt 10 (length encodings) then infinite else finite (map exact encodings)

unfoldable pub class_literals : Class → Seq
class_literals (scalar_ranges ranges) = each_exact (map encode_utf8 (members next_scalar ranges))
class_literals (byte_ranges ranges) = each_exact (map (λ b. b ∷ []) (members next_byte ranges))

-- with the empty literal, last where more copies are preferred and else first
abbrev pub with_empty : (greedy : Bool) → Seq → Seq
with_empty true ss = union ss one_empty
with_empty false ss = union one_empty ss

-- the greatest count is one
abbrev pub at_most_one : Option ℕ → Bool
at_most_one None = false
at_most_one (Some m) = nat_eq m 1

-- `min` copies, no more than 10 of them; exact only where they are all
unfoldable pub copies : Side → (min max : ℕ) → Seq → Seq
copies side least most ss =
    let some = cross_times side (min least 10) one_empty ss in
    if nat_eq least most && nat_le least 10 then some else loosened some

-- those of a repetition, by those of its body
unfoldable pub repeated : Side → (min : ℕ) → (max : Option ℕ) → (greedy : Bool) → Seq → Seq
repeated side zero max greedy ss = with_empty greedy (if at_most_one max then ss else loosened ss)
repeated side (suc n) None greedy ss = loosened ss
repeated side (suc n) (Some m) greedy ss = copies side (suc n) m ss

unfoldable mutual
  pub literals : Side → Expression → Seq
  literals side empty = one_empty
  literals side (literal bytes) = finite (cut side 100 (exact bytes) ∷ [])
  literals side (class ranges) = class_literals ranges
  literals side (look kind) = one_empty
  literals side (repetition least most greedy sub) = repeated side least most greedy (literals side sub)
  literals side (capture group name sub) = literals side sub
  literals side (concat subs) = in_turn side one_empty subs
  literals side (alternation subs) = of_one side subs

  -- the parts, from that side inwards, extend what is there
  pub in_turn : Side → Seq → Expressions → Seq
  in_turn side ss nil = ss
  in_turn front ss (cons sub subs) = in_turn front (cross_on front ss (literals front sub)) subs
  in_turn back ss (cons sub subs) = cross_on back (in_turn back ss subs) (literals back sub)

  -- those of one of them
  pub of_one : Side → Expressions → Seq
  of_one side nil = finite []
  of_one side (cons sub subs) = union (literals side sub) (of_one side subs)

-- the literals that begin each match
abbrev pub prefixes : Expression → Seq
prefixes h = literals front h

-- the literals that end each match
abbrev pub suffixes : Expression → Seq
suffixes h = literals back h

-- those of several patterns
abbrev pub prefixes_of : List Expression → Seq
prefixes_of [] = finite []
prefixes_of (h ∷ hs) = union (prefixes h) (prefixes_of hs)
