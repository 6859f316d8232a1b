-- What every expression of the program keeps to.
use Rattle.std.specs.Prelude.{◌<◌, ◌≤◌, length, IfSome}
use Rattle.rx_model.specs.Expression.{Expression, Expressions, empty, literal, class, look, repetition, capture, concat, alternation, nil, cons}

-- each literal has a byte, and the counts of each repetition are in order
abbrev mutual
  -- in the expression
  pub IsSound : Expression → Type 0
  IsSound empty = Unit {0}
  IsSound (literal bytes) = 0 < length bytes
  IsSound (class members) = Unit {0}
  IsSound (look kind) = Unit {0}
  IsSound (repetition min max greedy sub) = IfSome max (λ m. min ≤ m) × IsSound sub
  IsSound (capture group name sub) = IsSound sub
  IsSound (concat subs) = AreSound subs
  IsSound (alternation subs) = AreSound subs

  -- in each of the list
  pub AreSound : Expressions → Type 0
  AreSound nil = Unit {0}
  AreSound (cons sub subs) = IsSound sub × AreSound subs
