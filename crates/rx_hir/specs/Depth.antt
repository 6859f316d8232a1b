-- How deep an expression is.
use Rattle.std.specs.Prelude.{ℕ, suc, max}
use Rattle.rx_model.specs.Expression.{Expression, Expressions, empty, literal, class, look, repetition, capture, concat, alternation, nil, cons}

abbrev mutual
  pub depth : Expression → ℕ
  depth empty = 0
  depth (literal bytes) = 0
  depth (class members) = 0
  depth (look kind) = 0
  depth (repetition least greatest greedy sub) = suc (depth sub)
  depth (capture group name sub) = suc (depth sub)
  depth (concat subs) = greatest_depth subs
  depth (alternation subs) = greatest_depth subs

  -- one more than that of each
  pub greatest_depth : Expressions → ℕ
  greatest_depth nil = 0
  greatest_depth (cons sub subs) = max (suc (depth sub)) (greatest_depth subs)
