-- When two expressions are one, as a test.
use Rattle.std.specs.Prelude.{ℕ, Bool, true, false, ◌&&◌, ◌==◌, nat_eq, List, Option, bytes_eq}
use Rattle.std.specs.Bool.{beq}
use Rattle.std.specs.Option.{option_eq}
use Rattle.std.specs.Cmp.Lexicographic.{pointwise}
use Rattle.rx_model.specs.Text.{Class, scalar_ranges, byte_ranges}
use Rattle.rx_model.specs.Expression.{Expression, Expressions, empty, literal, class, look, repetition, capture, concat, alternation, nil, cons}
use Rattle.rx_search.specs.Look.{is_same_kind}

abbrev pub same_range : ℕ × ℕ → ℕ × ℕ → Bool
same_range q r = nat_eq q.0 r.0 && nat_eq q.1 r.1

abbrev pub same_class : Class → Class → Bool
same_class (scalar_ranges qs) (scalar_ranges rs) = pointwise same_range qs rs
same_class (byte_ranges qs) (byte_ranges rs) = pointwise same_range qs rs
same_class (scalar_ranges qs) (byte_ranges rs) = false
same_class (byte_ranges qs) (scalar_ranges rs) = false

-- the same number or none, and the same name or none
abbrev pub same_count : Option ℕ → Option ℕ → Bool
same_count = option_eq nat_eq

abbrev pub same_name : Option (List ℕ) → Option (List ℕ) → Bool
same_name = option_eq bytes_eq

unfoldable mutual
  -- two expressions
  pub is_same : Expression → Expression → Bool
  is_same empty empty = true
  is_same (literal a) (literal b) = bytes_eq a b
  is_same (class a) (class b) = same_class a b
  is_same (look a) (look b) = is_same_kind a b
  is_same (repetition least greatest greedy a) (repetition min max is_greedy b) =
      ((least == min) && (same_count greatest max && beq greedy is_greedy)) && is_same a b
  is_same (capture group name a) (capture number called b) = ((group == number) && same_name name called) && is_same a b
  is_same (concat gs) (concat hs) = are_same gs hs
  is_same (alternation gs) (alternation hs) = are_same gs hs
  is_same g h = false

  -- two lists of them
  pub are_same : Expressions → Expressions → Bool
  are_same nil nil = true
  are_same (cons a gs) (cons b hs) = is_same a b && are_same gs hs
  are_same gs hs = false
