-- What literals tell of the expression for which they stand.
use Rattle.std.specs.Prelude.{◌≡◌, ℕ, List, [], ◌∷◌, map, Some, option_map}
use Rattle.rx_model.specs.Expression.{Expression, AreOrdered}
use Rattle.rx_model.specs.Matches.{StandsIn}
use Rattle.rx_model.specs.Runs.{Trace}
use Rattle.rx_model.specs.Search.{Patterns, first}
use Rattle.rx_literal.specs.First.{first_there}
use Rattle.rx_literal.specs.Literals.{exact}
use Rattle.rx_prefilter.specs.Choices.{served}

-- in each text and at each start the first run of the expression ends with the first of the literals that lies there, and there is
-- no run where none lies
abbrev pub TellEnds : List (List ℕ) → Expression → Type 0
TellEnds needles h = (r : Patterns) (text : List ℕ) (end p i : ℕ)
    → option_map (λ (t : Trace). t.end) (first r text end p h i) ≡ first_there text end i (map exact needles)

-- the literals are all that the expression is
pub record AreWhole (needles : List (List ℕ)) (h : Expression) : Type 0 where
  pub ends : TellEnds needles h
  -- there is a literal, and none without bytes
  pub fit : served needles ≡ Some needles
  -- no group stands in the expression
  pub no_groups : (g : ℕ) → StandsIn g h → ⊥
  pub ordered : AreOrdered h

-- .. that there is
abbrev pub AreWholeOf : List (List ℕ) → List Expression → Type 0
AreWholeOf needles [] = ⊥
AreWholeOf needles (h ∷ []) = AreWhole needles h
AreWholeOf needles (h ∷ g ∷ hs) = ⊥
