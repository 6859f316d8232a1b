-- Worked rows of spans, by evaluation of the definitions.
use Rattle.std.proofs.Common.{◌≡◌, [], ◌∷◌, Some, refl}
use Rattle.std.specs.Prelude.{false, codes}
use Rattle.rx_model.specs.Text.{stands_at, char_at, member_len, scalar_ranges, byte_ranges}
use Rattle.rx_model.specs.Expression.{Expression, empty, class, repetition}
use Rattle.rx_model.specs.Runs.{first_past, first_within}
use Rattle.rx_model.specs.Machine.{graph_of}
use Rattle.rx_model.specs.Graph.{build, build_pattern, runs_of}
use Rattle.rx_model.specs.Search.{first, first_of_patterns, starting_at, free, anchored, anchored_to, first_start, next_match, matches, matches_from, greatest_group}
use Rattle.rx_model.proofs.worked.RowWords.{patterns, text, turn, either, star, spans}
use Rattle.std.specs.Str.{chars}
use Rattle.std.specs.Char.{encode_utf8}

-- any scalar but the line feed
abbrev dot : Expression
dot = class (scalar_ranges ((0, 9) ∷ (11, 0xD7FF) ∷ (0xE000, 0x10FFFF) ∷ []))

-- `a*` on `ba`: 0..0, 1..2
star_on_ba : spans (matches (patterns (star (text "a") ∷ [])) (codes "ba") free 2 0) ≡ (0, 0, 0) ∷ (0, 1, 2) ∷ []
unfolding first first_of_patterns starting_at first_start next_match matches matches_from build_pattern build runs_of graph_of first_past first_within greatest_group stands_at
star_on_ba = refl

-- the empty expression on the three bytes of U+2603: no match starts inside the character
empty_on_snowman : spans (matches (patterns (empty ∷ [])) (0xE2 ∷ 0x98 ∷ 0x83 ∷ []) free 3 0) ≡ (0, 0, 0) ∷ (0, 3, 3) ∷ []
unfolding first first_of_patterns starting_at first_start next_match matches matches_from build_pattern build runs_of graph_of first_past first_within greatest_group stands_at
empty_on_snowman = refl

-- `a|ab` on `ab`: 0..1
first_alternative : spans (matches (patterns (either (text "a" ∷ text "ab" ∷ []) ∷ [])) (codes "ab") free 2 0) ≡ (0, 0, 1) ∷ []
unfolding first first_of_patterns starting_at first_start next_match matches matches_from build_pattern build runs_of graph_of first_past first_within greatest_group stands_at
first_alternative = refl

-- `b` and `ab` on `ab`: the second pattern, 0..2
least_start_first : spans (matches (patterns (text "b" ∷ text "ab" ∷ [])) (codes "ab") free 2 0) ≡ (1, 0, 2) ∷ []
unfolding first first_of_patterns starting_at first_start next_match matches matches_from build_pattern build runs_of graph_of first_past first_within greatest_group stands_at
least_start_first = refl

-- `a{2,3}?` on `aaaa`: 0..2, 2..4
lazy_counts : spans (matches (patterns (repetition 2 (Some 3) false (text "a") ∷ [])) (codes "aaaa") free 4 0) ≡ (0, 0, 2) ∷ (0, 2, 4) ∷ []
unfolding first first_of_patterns starting_at first_start next_match matches matches_from build_pattern build runs_of graph_of first_past first_within greatest_group stands_at
lazy_counts = refl

-- `(?:a??)*b` on `aab`: 0..3
lazy_option_in_star : spans (matches (patterns (turn (star (repetition 0 (Some 1) false (text "a")) ∷ text "b" ∷ []) ∷ [])) (codes "aab") free 3 0)
    ≡ (0, 0, 3) ∷ []
unfolding first first_of_patterns starting_at first_start next_match matches matches_from build_pattern build runs_of graph_of first_past first_within greatest_group stands_at
lazy_option_in_star = refl

-- `.abb|b` on `xabb`: 0..4
dot_before_literal : spans (matches (patterns (either (turn (dot ∷ text "abb" ∷ []) ∷ text "b" ∷ []) ∷ [])) (codes "xabb") free 4 0) ≡ (0, 0, 4) ∷ []
unfolding first first_of_patterns starting_at first_start next_match matches matches_from build_pattern build runs_of graph_of first_past first_within greatest_group stands_at char_at member_len chars encode_utf8
dot_before_literal = refl

-- `[\x80-\xBF]` of bytes on the bytes 41 98 83: 1..2, 2..3, where matches may start anywhere
byte_class : spans (matches (record (patterns (class (byte_ranges ((0x80, 0xBF) ∷ [])) ∷ [])) { utf8_empty = false }) (0x41 ∷ 0x98 ∷ 0x83 ∷ []) free 3 0)
    ≡ (0, 1, 2) ∷ (0, 2, 3) ∷ []
unfolding first first_of_patterns starting_at first_start next_match matches matches_from build_pattern build runs_of graph_of first_past first_within greatest_group stands_at member_len
byte_class = refl

-- the empty expression on the three bytes of U+2603, where matches may start anywhere: 0..0, 1..1, 2..2, 3..3
empty_anywhere : spans (matches (record (patterns (empty ∷ [])) { utf8_empty = false }) (0xE2 ∷ 0x98 ∷ 0x83 ∷ []) free 3 0)
    ≡ (0, 0, 0) ∷ (0, 1, 1) ∷ (0, 2, 2) ∷ (0, 3, 3) ∷ []
unfolding first first_of_patterns starting_at first_start next_match matches matches_from build_pattern build runs_of graph_of first_past first_within greatest_group stands_at
empty_anywhere = refl

-- `a` anchored on `aaba`: 0..1, 1..2, and no match at the `b`
anchored_search : spans (matches (patterns (text "a" ∷ [])) (codes "aaba") anchored 4 0) ≡ (0, 0, 1) ∷ (0, 1, 2) ∷ []
unfolding first first_of_patterns starting_at first_start next_match matches matches_from build_pattern build runs_of graph_of first_past first_within greatest_group stands_at
anchored_search = refl

-- `a` and `ab` on `ab`, anchored to the second pattern: 0..2
anchored_to_second : spans (matches (patterns (text "a" ∷ text "ab" ∷ [])) (codes "ab") (anchored_to 1) 2 0) ≡ (1, 0, 2) ∷ []
unfolding first first_of_patterns starting_at first_start next_match matches matches_from build_pattern build runs_of graph_of first_past first_within greatest_group stands_at
anchored_to_second = refl

-- there is no third pattern
anchored_to_none : spans (matches (patterns (text "a" ∷ text "ab" ∷ [])) (codes "ab") (anchored_to 2) 2 0) ≡ []
unfolding first first_of_patterns starting_at first_start next_match matches matches_from build_pattern build runs_of graph_of first_past first_within greatest_group stands_at
anchored_to_none = refl

-- a class without members matches nothing
no_members : spans (matches (patterns (class (byte_ranges []) ∷ [])) (codes "ab") free 2 0) ≡ []
unfolding first first_of_patterns starting_at first_start next_match matches matches_from build_pattern build runs_of graph_of first_past first_within greatest_group stands_at member_len
no_members = refl

-- `a*` in 1..3 of `aaaa`: 1..3
star_in_span : spans (matches (patterns (star (text "a") ∷ [])) (codes "aaaa") free 3 1) ≡ (0, 1, 3) ∷ []
unfolding first first_of_patterns starting_at first_start next_match matches matches_from build_pattern build runs_of graph_of first_past first_within greatest_group stands_at
star_in_span = refl
