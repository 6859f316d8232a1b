-- The first literal that lies at a place.
use Rattle.std.specs.Prelude.{ℕ, ◌+◌, Bool, false, ◌&&◌, List, [], ◌∷◌, length, Option, Some, None, option_map, if◌then◌else◌, nat_le}
use Rattle.std.specs.List.{list_all}
use Rattle.rx_model.specs.Text.{scalar_ranges, byte_ranges, stands_at}
use Rattle.rx_model.specs.Expression.{Expression, Expressions, empty, literal, class, look, repetition, capture, concat, alternation, nil, cons}
use Rattle.rx_class.specs.Ranges.{HaveScalarEnds}
use Rattle.rx_literal.specs.Literals.{Literal, Seq, infinite, finite, bytes_of, is_exact}

-- each literal of the sequence is exact
abbrev pub all_exact : Seq → Bool
all_exact infinite = false
all_exact (finite ls) = list_all is_exact ls

-- the literals of the sequence, if it isn't infinite
abbrev pub listed : Seq → List Literal
listed infinite = []
listed (finite ls) = ls

-- the literal lies at place i, within `end`
abbrev pub lies : (text : List ℕ) → (end i : ℕ) → Literal → Bool
lies text end i l = stands_at text i (bytes_of l) && nat_le (i + length (bytes_of l)) end

-- the first of the literals that lies there
abbrev pub first_literal : (text : List ℕ) → (end i : ℕ) → List Literal → Option Literal
first_literal text end i [] = None
first_literal text end i (l ∷ ls) = if lies text end i l then Some l else first_literal text end i ls

-- where it ends
abbrev pub first_there : (text : List ℕ) → (end i : ℕ) → List Literal → Option ℕ
first_there text end i ls = option_map (λ l. i + length (bytes_of l)) (first_literal text end i ls)

unfoldable mutual
  -- no look-around, and the ranges of scalars end with scalars
  pub IsLookFree : Expression → Type 0
  IsLookFree empty = Unit {0}
  IsLookFree (literal bytes) = Unit {0}
  IsLookFree (class (scalar_ranges ranges)) = HaveScalarEnds ranges
  IsLookFree (class (byte_ranges ranges)) = Unit {0}
  IsLookFree (look kind) = ⊥
  IsLookFree (repetition least most greedy sub) = IsLookFree sub
  IsLookFree (capture group name sub) = IsLookFree sub
  IsLookFree (concat subs) = AreLookFree subs
  IsLookFree (alternation subs) = AreLookFree subs

  pub AreLookFree : Expressions → Type 0
  AreLookFree nil = Unit {0}
  AreLookFree (cons sub subs) = IsLookFree sub × AreLookFree subs
