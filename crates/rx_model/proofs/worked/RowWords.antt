-- The words of the worked rows: short names for expressions, and what a row tells of each match.
use Rattle.std.specs.Prelude.{ℕ, zero, suc, ◌+◌, true, List, [], ◌∷◌, map, Option, None, codes}
use Prim.Native.String.{String}
use Rattle.rx_model.specs.Expression.{Expression, Expressions, literal, repetition, concat, alternation, nil, cons}
use Rattle.rx_model.specs.Search.{Patterns, all, Match, slot_value}

-- the patterns, as a regex is configured by default
abbrev pub patterns : List Expression → Patterns
patterns hs = record { expressions = hs; utf8_empty = true; terminator = 10; which_captures = all }

abbrev of_list : List Expression → Expressions
of_list [] = nil
of_list (h ∷ hs) = cons h (of_list hs)

-- literal text, `hs` in turn, one of `hs`, `h*` and `h+`
abbrev pub text : String → Expression
text s = literal (codes s)

abbrev pub turn : List Expression → Expression
turn hs = concat (of_list hs)

abbrev pub either : List Expression → Expression
either hs = alternation (of_list hs)

abbrev pub star : Expression → Expression
star h = repetition 0 None true h

abbrev pub plus : Expression → Expression
plus h = repetition 1 None true h

-- each match as pattern, start and end
abbrev pub spans : List Match → List (ℕ × ℕ × ℕ)
spans ms = map (λ (m : Match). (m.trace.pattern, m.start, m.trace.end)) ms

-- each match as its first n slots
abbrev slots_from : ℕ → ℕ → Match → List (Option ℕ)
slots_from zero k m = []
slots_from (suc n) k m = slot_value m k ∷ slots_from n (k + 1) m

abbrev pub slots : ℕ → List Match → List (List (Option ℕ))
slots n ms = map (slots_from n 0) ms
