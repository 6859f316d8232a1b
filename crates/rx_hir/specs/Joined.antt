-- How a concatenation grows at its end.
use Rattle.std.specs.Prelude.{◌≡◌, ℕ, Bool, false, List, [], ◌∷◌, ◌++◌}
use Rattle.rx_model.specs.Expression.{Expression, literal}
use Rattle.rx_hir.specs.Normal.{join_literals}
use Rattle.rx_hir.specs.Properties.{is_literal}

-- a part after others, joined with the last of them where both are literals
abbrev pub and_then : List Expression → Expression → List Expression
and_then [] h = h ∷ []
and_then (g ∷ []) h = join_literals g (h ∷ [])
and_then (f ∷ g ∷ hs) h = f ∷ and_then (g ∷ hs) h

abbrev pub and_then_all : List Expression → List Expression → List Expression
and_then_all gs [] = gs
and_then_all gs (h ∷ hs) = and_then_all (and_then gs h) hs

-- the parts, and then the literal of these bytes, if there are any
abbrev pub with_bytes : List Expression → List ℕ → List Expression
with_bytes hs [] = hs
with_bytes hs (b ∷ bytes) = hs ++ literal (b ∷ bytes) ∷ []

-- the last part is a literal
abbrev pub ends_in_literal : List Expression → Bool
ends_in_literal [] = false
ends_in_literal (h ∷ []) = is_literal h
ends_in_literal (g ∷ h ∷ hs) = ends_in_literal (h ∷ hs)

-- joined parts, of which the bytes of a literal at the end stand apart
pub record AreApart (parts : List Expression) (bytes : List ℕ) (hs : List Expression) : Type 0 where
  pub whole : with_bytes parts bytes ≡ hs
  pub apart : ends_in_literal parts ≡ false
