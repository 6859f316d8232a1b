-- Worked rows: look-around is judged in the whole text, also where a part of it alone is searched.
use Rattle.std.proofs.Common.{◌≡◌, [], ◌∷◌, refl}
use Rattle.std.specs.Prelude.{codes}
use Rattle.rx_model.specs.Text.{stands_at}
use Rattle.rx_model.specs.Look.{holds, start_text, end_text, start_lf, end_lf, word_ascii}
use Rattle.rx_model.specs.Expression.{look}
use Rattle.rx_model.specs.Runs.{first_past, first_within}
use Rattle.rx_model.specs.Machine.{graph_of}
use Rattle.rx_model.specs.Graph.{build, build_pattern, runs_of}
use Rattle.rx_model.specs.Search.{first, first_of_patterns, starting_at, free, first_start, next_match, matches, matches_from, greatest_group}
use Rattle.rx_model.proofs.worked.RowWords.{patterns, text, turn, spans}

-- `\bab` in 1..3: none in `xab`, and one in ` ab`
words_before_the_span :
    (spans (matches (patterns (turn (look word_ascii ∷ text "ab" ∷ []) ∷ [])) (codes "xab") free 3 1) ≡ [])
    × (spans (matches (patterns (turn (look word_ascii ∷ text "ab" ∷ []) ∷ [])) (codes " ab") free 3 1) ≡ (0, 1, 3) ∷ [])
unfolding first first_of_patterns starting_at first_start next_match matches matches_from build_pattern build runs_of graph_of first_past first_within greatest_group stands_at holds
words_before_the_span = (refl, refl)

-- `ab\b` in 0..2: none in `abx`, and one in `ab `
words_after_the_span :
    (spans (matches (patterns (turn (text "ab" ∷ look word_ascii ∷ []) ∷ [])) (codes "abx") free 2 0) ≡ [])
    × (spans (matches (patterns (turn (text "ab" ∷ look word_ascii ∷ []) ∷ [])) (codes "ab ") free 2 0) ≡ (0, 0, 2) ∷ [])
unfolding first first_of_patterns starting_at first_start next_match matches matches_from build_pattern build runs_of graph_of first_past first_within greatest_group stands_at holds
words_after_the_span = (refl, refl)

-- `^a` in 1..2: none in `xa`
the_start_of_the_text :
    (spans (matches (patterns (turn (look start_text ∷ text "a" ∷ []) ∷ [])) (codes "xa") free 2 1) ≡ [])
    × (spans (matches (patterns (turn (look start_text ∷ text "a" ∷ []) ∷ [])) (codes "aa") free 2 0) ≡ (0, 0, 1) ∷ [])
unfolding first first_of_patterns starting_at first_start next_match matches matches_from build_pattern build runs_of graph_of first_past first_within greatest_group stands_at holds
the_start_of_the_text = (refl, refl)

-- `a$` in 0..1: none in `ax`, and one in `a`
the_end_of_the_text :
    (spans (matches (patterns (turn (text "a" ∷ look end_text ∷ []) ∷ [])) (codes "ax") free 1 0) ≡ [])
    × (spans (matches (patterns (turn (text "a" ∷ look end_text ∷ []) ∷ [])) (codes "a") free 1 0) ≡ (0, 0, 1) ∷ [])
unfolding first first_of_patterns starting_at first_start next_match matches matches_from build_pattern build runs_of graph_of first_past first_within greatest_group stands_at holds
the_end_of_the_text = (refl, refl)

-- `(?m)^a` in 1..2: none in `xa`, and one after a line feed
lines_before_the_span :
    (spans (matches (patterns (turn (look start_lf ∷ text "a" ∷ []) ∷ [])) (codes "xa") free 2 1) ≡ [])
    × (spans (matches (patterns (turn (look start_lf ∷ text "a" ∷ []) ∷ [])) (10 ∷ codes "a") free 2 1) ≡ (0, 1, 2) ∷ [])
unfolding first first_of_patterns starting_at first_start next_match matches matches_from build_pattern build runs_of graph_of first_past first_within greatest_group stands_at holds
lines_before_the_span = (refl, refl)

-- `(?m)a$` in 0..1: none in `ax`, and one before a line feed
lines_after_the_span :
    (spans (matches (patterns (turn (text "a" ∷ look end_lf ∷ []) ∷ [])) (codes "ax") free 1 0) ≡ [])
    × (spans (matches (patterns (turn (text "a" ∷ look end_lf ∷ []) ∷ [])) (97 ∷ 10 ∷ []) free 1 0) ≡ (0, 0, 1) ∷ [])
unfolding first first_of_patterns starting_at first_start next_match matches matches_from build_pattern build runs_of graph_of first_past first_within greatest_group stands_at holds
lines_after_the_span = (refl, refl)
