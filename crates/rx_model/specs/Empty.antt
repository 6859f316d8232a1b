-- Which expressions can mean the empty string, as far as their form tells.
use Rattle.std.specs.Prelude.{Bool, true, false, ◌&&◌, ◌||◌, ◌==◌, length}
use Rattle.rx_model.specs.Expression.{Expression, Expressions, empty, literal, class, look, repetition, capture, concat, alternation, nil, cons}

unfoldable mutual
  -- The expression can mean the empty string, if each look-around in it is taken to hold. So it need not mean it in any
  -- text: look-arounds that exclude each other count as well. A class never means it.
  pub can_be_empty : Expression → Bool
  can_be_empty empty = true
  can_be_empty (literal bytes) = length bytes == 0
  can_be_empty (class members) = false
  can_be_empty (look kind) = true
  can_be_empty (repetition min max greedy sub) = (min == 0) || can_be_empty sub
  can_be_empty (capture group name sub) = can_be_empty sub
  can_be_empty (concat subs) = all_can_be_empty subs
  can_be_empty (alternation subs) = one_can_be_empty subs

  -- each of them can
  pub all_can_be_empty : Expressions → Bool
  all_can_be_empty nil = true
  all_can_be_empty (cons sub subs) = can_be_empty sub && all_can_be_empty subs

  -- one of them can
  pub one_can_be_empty : Expressions → Bool
  one_can_be_empty nil = false
  one_can_be_empty (cons sub subs) = can_be_empty sub || one_can_be_empty subs
