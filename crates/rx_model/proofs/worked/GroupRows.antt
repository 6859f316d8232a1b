-- Worked rows of groups, by evaluation of the definitions.
use Rattle.std.proofs.Common.{◌≡◌, ℕ, [], ◌∷◌, Some, None, refl}
use Rattle.std.specs.Prelude.{true, codes}
use Rattle.rx_model.specs.Text.{stands_at, char_at, member_len, scalar_ranges}
use Rattle.rx_model.specs.Expression.{Expression, empty, class, repetition, capture}
use Rattle.rx_model.specs.Runs.{first_past, first_within}
use Rattle.rx_model.specs.Machine.{graph_of}
use Rattle.rx_model.specs.Graph.{build, build_pattern, runs_of}
use Rattle.rx_model.specs.Search.{implicit, first, first_of_patterns, starting_at, free, first_start, next_match, matches, matches_from, greatest_group}
use Rattle.std.specs.Str.{chars}
use Rattle.std.specs.Char.{encode_utf8}
use Rattle.rx_model.proofs.worked.RowWords.{patterns, text, turn, either, star, plus, slots}

-- the scalars from one to another
abbrev range : ℕ → ℕ → Expression
range low high = class (scalar_ranges ((low, high) ∷ []))

-- `(a*)+` on `aa`: 0..2, 1=0..2
group_in_plus : slots 4 (matches (patterns (plus (capture 1 None (star (text "a"))) ∷ [])) (codes "aa") free 2 0)
    ≡ (Some 0 ∷ Some 2 ∷ Some 0 ∷ Some 2 ∷ []) ∷ []
unfolding first first_of_patterns starting_at first_start next_match matches matches_from build_pattern build runs_of graph_of first_past first_within greatest_group stands_at
group_in_plus = refl

-- `(a*)*` on `b`: 0..0 with 1=0..0, 1..1 with 1=1..1
group_in_star : slots 4 (matches (patterns (star (capture 1 None (star (text "a"))) ∷ [])) (codes "b") free 1 0)
    ≡ (Some 0 ∷ Some 0 ∷ Some 0 ∷ Some 0 ∷ []) ∷ (Some 1 ∷ Some 1 ∷ Some 1 ∷ Some 1 ∷ []) ∷ []
unfolding first first_of_patterns starting_at first_start next_match matches matches_from build_pattern build runs_of graph_of first_past first_within greatest_group stands_at
group_in_star = refl

-- `(|a)+` on `aa`: 0..0 with 1=0..0, 1..1 with 1=1..1, 2..2 with 1=2..2
empty_alternative : slots 4 (matches (patterns (plus (capture 1 None (either (empty ∷ text "a" ∷ []))) ∷ [])) (codes "aa") free 2 0)
    ≡ (Some 0 ∷ Some 0 ∷ Some 0 ∷ Some 0 ∷ []) ∷ (Some 1 ∷ Some 1 ∷ Some 1 ∷ Some 1 ∷ []) ∷ (Some 2 ∷ Some 2 ∷ Some 2 ∷ Some 2 ∷ []) ∷ []
unfolding first first_of_patterns starting_at first_start next_match matches matches_from build_pattern build runs_of graph_of first_past first_within greatest_group stands_at
empty_alternative = refl

-- `(a|ab)(c|bcd)?` on `abcd`: 0..4, 1=0..1, 2=1..4
optional_group : slots 6 (matches (patterns (turn (capture 1 None (either (text "a" ∷ text "ab" ∷ []))
    ∷ repetition 0 (Some 1) true (capture 2 None (either (text "c" ∷ text "bcd" ∷ []))) ∷ []) ∷ [])) (codes "abcd") free 4 0)
    ≡ (Some 0 ∷ Some 4 ∷ Some 0 ∷ Some 1 ∷ Some 1 ∷ Some 4 ∷ []) ∷ []
unfolding first first_of_patterns starting_at first_start next_match matches matches_from build_pattern build runs_of graph_of first_past first_within greatest_group stands_at
optional_group = refl

-- `([a-z]+)=([0-9]+)?` on `ab=12 c=`: 0..5 with 1=0..2 and 2=3..5, 6..8 with 1=6..7 and 2 unset
key_and_value : slots 6 (matches (patterns (turn (capture 1 None (plus (range 97 122)) ∷ text "="
    ∷ repetition 0 (Some 1) true (capture 2 None (plus (range 48 57))) ∷ []) ∷ [])) (codes "ab=12 c=") free 8 0)
    ≡ (Some 0 ∷ Some 5 ∷ Some 0 ∷ Some 2 ∷ Some 3 ∷ Some 5 ∷ []) ∷ (Some 6 ∷ Some 8 ∷ Some 6 ∷ Some 7 ∷ None ∷ None ∷ []) ∷ []
unfolding first first_of_patterns starting_at first_start next_match matches matches_from build_pattern build runs_of graph_of first_past first_within greatest_group stands_at char_at member_len chars encode_utf8
key_and_value = refl

-- `(a)` and `(b)` on `ba`: the slots of the whole matches come first, and then those of the groups, pattern by pattern
slots_of_two_patterns : slots 8 (matches (patterns (capture 1 None (text "a") ∷ capture 1 None (text "b") ∷ [])) (codes "ba") free 2 0)
    ≡ (None ∷ None ∷ Some 0 ∷ Some 1 ∷ None ∷ None ∷ Some 0 ∷ Some 1 ∷ []) ∷ (Some 1 ∷ Some 2 ∷ None ∷ None ∷ Some 1 ∷ Some 2 ∷ None ∷ None ∷ []) ∷ []
unfolding first first_of_patterns starting_at first_start next_match matches matches_from build_pattern build runs_of graph_of first_past first_within greatest_group stands_at
slots_of_two_patterns = refl

-- `(a)` on `a`, where only the whole match is told
only_the_match : slots 4 (matches (record (patterns (capture 1 None (text "a") ∷ [])) { which_captures = implicit }) (codes "a") free 1 0)
    ≡ (Some 0 ∷ Some 1 ∷ None ∷ None ∷ []) ∷ []
unfolding first first_of_patterns starting_at first_start next_match matches matches_from build_pattern build runs_of graph_of first_past first_within greatest_group stands_at
only_the_match = refl
