-- Rows of `gen`, by evaluation of the definitions.
use Rattle.std.proofs.Common.{◌≡◌, ℕ, List, [], ◌∷◌, ◌++◌, length, Some, None, refl, ap, ◌∙◌, lit<, lit≤, codes, decimal, true}
use Rattle.std.specs.Prelude.{Ok, map}
use Rattle.std.specs.Str.{chars}
use Rattle.std.specs.Char.{encode_utf8}
use Rattle.std.proofs.lemmas.Fmt.{decimal_digit, decimal_step}
use Rattle.rx_model.specs.Expression.{Expression, literal, repetition, class, concat, capture, nil, cons}
use Rattle.rx_model.specs.Text.{stands_at, char_at, member_len, scalar_ranges}
use Rattle.rx_model.specs.Runs.{first_past, first_within}
use Rattle.rx_model.specs.Machine.{graph_of}
use Rattle.rx_model.specs.Graph.{build, build_pattern, runs_of}
use Rattle.rx_model.specs.Search.{first, first_of_patterns, starting_at, first_start, next_match, matches, matches_from, greatest_group, free}
use Rattle.rx_class.specs.Ranges.{insert, fewest}
use Rattle.rx_gen.specs.Generated.{state_at, numbers, draws_before, generated}
use Rattle.rx_gen.specs.Totals.{totals_of, totals_text}
use Rattle.rx_gen.specs.declared.totals.Counts.{Counts}
use Rattle.rx_reader.specs.Config.{default}
use Rattle.rx_reader.specs.Reading.{past_while}
use Rattle.rx_reader.specs.Ahead.{past_n, blank_len}
use Rattle.rx_reader.specs.Flags.{letters_after, read_flags}
use Rattle.rx_reader.specs.Names.{read_name}
use Rattle.rx_reader.specs.Openings.{named, flagged, opening}
use Rattle.rx_reader.specs.Counts.{read_number, read_max, read_counts, operator}
use Rattle.rx_reader.specs.Escapes.{digits, hex_digits, hex_in_braces, hex, octal_digits, property_in_braces, property, one_letter, boundary, lettered, escape}
use Rattle.rx_reader.specs.Classes.{posix_name, posix, member, class_range, item_at, class_item, class_items}
use Rattle.rx_reader.specs.Classes as classes
use Rattle.rx_reader.specs.Grammar.{opens, escaped, bracketed, token_of, token, repetitions, branches, read}
use Rattle.rx_syntax.specs.Patterns.{all_of, all_syntaxes, all_translated, all_read}
use Rattle.rx_scan.specs.Answer.{AnswerValue, gen_patterns, gen_expressions, gen_counts, generated_answer, counts_in, read_or_none}
use Rattle.rx_scan.specs.Patterns.{patterns_of}
use Rattle.rx_scan.specs.declared.status.Status.TheVariants.{Generated}

-- `gen 1 0`
none_row : generated_answer 1 0 ≡ record { status = Generated; text = codes "haystacks 0 bytes 0 matches 0 covered 0\n" }
unfolding numbers
none_row =
    let zero : decimal 0 ≡ codes "0" = decimal_digit 0 (lit< tt) in
    λ i. record {
      status = Generated;
      text = codes "haystacks " ++ zero i ++ codes " bytes " ++ zero i ++ codes " matches " ++ zero i ++ codes " covered " ++ zero i ++ codes "\n";
    }

-- what the two patterns read as
abbrev first_pattern : Expression
first_pattern = concat (cons (capture 1 None (repetition 1 None true (class (scalar_ranges ((97, 99) ∷ []))))) (cons (literal (codes "d")) nil))

abbrev second_pattern : Expression
second_pattern = repetition 2 (Some 3) true (class (scalar_ranges ((101, 104) ∷ [])))

read_row : all_read default gen_patterns ≡ Ok (first_pattern ∷ second_pattern ∷ [])
unfolding all_of all_syntaxes all_translated insert fewest read branches repetitions token token_of opens escaped bracketed opening named flagged read_flags letters_after read_name operator read_counts read_number read_max past_n blank_len past_while escape lettered boundary one_letter property property_in_braces octal_digits hex hex_in_braces hex_digits digits classes.class class_items class_item item_at class_range member posix posix_name chars encode_utf8
read_row = refl

-- the first two haystacks of seed 1
abbrev texts : List (List ℕ)
texts = codes "gbdddc" ∷ codes "egfheebhbhb" ∷ []

texts_row : generated 1 2 ≡ texts
unfolding state_at numbers draws_before
texts_row = refl

-- what is found in each
abbrev found : List Counts
found = record { matches = 1; covered = 2 } ∷ record { matches = 2; covered = 6 } ∷ []

found_row : map (λ text. counts_in (matches (patterns_of (first_pattern ∷ second_pattern ∷ [])) text free (length text) 0)) texts ≡ found
unfolding first first_of_patterns starting_at first_start next_match matches matches_from build_pattern build runs_of graph_of first_past first_within greatest_group stands_at char_at member_len chars encode_utf8
found_row = refl

counts_row : map gen_counts texts ≡ found
unfolding gen_expressions
counts_row =
    ap (λ (hs : List Expression). map (λ text. counts_in (matches (patterns_of hs) text free (length text) 0)) texts) (ap read_or_none read_row) ∙ found_row

-- `gen 1 2`
two_row : generated_answer 1 2 ≡ record { status = Generated; text = codes "haystacks 2 bytes 17 matches 3 covered 8\n" }
two_row =
    let told : List (List ℕ) → List Counts → AnswerValue = λ ts cs. record { status = Generated; text = totals_text (totals_of ts cs) } in
    let two : decimal 2 ≡ codes "2" = decimal_digit 2 (lit< tt) in
    let seventeen : decimal 17 ≡ codes "17" = decimal_step 17 (lit≤ tt) (lit< tt) ∙ ap (λ ds. ds ++ 55 ∷ []) (decimal_digit 1 (lit< tt)) in
    let three : decimal 3 ≡ codes "3" = decimal_digit 3 (lit< tt) in
    let eight : decimal 8 ≡ codes "8" = decimal_digit 8 (lit< tt) in
    ap (λ ts. told ts (map gen_counts ts)) texts_row ∙ ap (told texts) counts_row
    ∙ (λ i. record {
      status = Generated;
      text = codes "haystacks " ++ two i ++ codes " bytes " ++ seventeen i ++ codes " matches " ++ three i ++ codes " covered " ++ eight i ++ codes "\n";
    })
