-- What opening parentheses read as, by evaluation of the definitions. The answers were worked out from the rules
-- by hand.
use Rattle.std.proofs.Common.{◌≡◌, ℕ, List, [], ◌∷◌, refl}
use Rattle.std.specs.Prelude.{true, false, Result, Ok, Err, codes}
use Rattle.unicode.proofs.DerivedComputing.{ucd_derived}
use Rattle.rx_reader.specs.declared.flags.Flags.{Flags}
use Rattle.rx_reader.specs.declared.error.SyntaxError.{SyntaxError}
use Rattle.rx_reader.specs.declared.error.SyntaxErrorKind.{SyntaxErrorKind}
use Rattle.rx_reader.specs.declared.error.SyntaxErrorKind.TheVariants.{UnclosedGroup, GroupName, GroupNameTwice, Flag, Unsupported}
use Rattle.rx_reader.specs.Reading.{◌>>=◌}
use Rattle.rx_reader.specs.Ahead.{past_n}
use Rattle.rx_reader.specs.Flags.{letters_after, read_flags}
use Rattle.rx_reader.specs.Names.{read_name}
use Rattle.rx_reader.specs.declared.group_kind.GroupKind.TheVariants.{NonCapturing, CaptureIndex, CaptureName}
use Rattle.rx_reader.specs.declared.opening.Opening.{Opening}
use Rattle.rx_reader.specs.declared.opening.Opening.TheVariants.{Group, Directive}
use Rattle.rx_reader.specs.Groups.{number_after}
use Rattle.rx_reader.specs.Openings.{named, flagged, opening}

unfoldable defaults : Flags
defaults = record {
  case_insensitive = false;
  multi_line = false;
  dot_matches_new_line = false;
  swap_greed = false;
  unicode = true;
  crlf = false;
  ignore_whitespace = false;
}

unfoldable folding : Flags
folding = record {
  case_insensitive = true;
  multi_line = false;
  dot_matches_new_line = false;
  swap_greed = false;
  unicode = true;
  crlf = false;
  ignore_whitespace = false;
}

-- what this text begins, where groups with these names were opened: that, the bytes before the place after it,
-- the groups, and the names
unfoldable found_after : List (List ℕ) → List ℕ → Result (Opening × (ℕ × (ℕ × List (List ℕ)))) SyntaxError
found_after names text = opening defaults (record { text = text; at = 0; groups = 4; names = names }) >>= λ (o, q). Ok (o, (q.at, (q.groups, q.names)))

unfoldable found : List ℕ → Result (Opening × (ℕ × (ℕ × List (List ℕ)))) SyntaxError
found text = found_after [] text

unfoldable refused : SyntaxErrorKind → ℕ → ℕ → Result (Opening × (ℕ × (ℕ × List (List ℕ)))) SyntaxError
refused kind start end = Err (record { kind = kind; start = start; end = end })

openings_rows :
    (found (codes "(a)") ≡ Ok (Group (CaptureIndex (number_after 4)) defaults, (1, (5, [])))) ×
    (found (codes "(") ≡ Ok (Group (CaptureIndex (number_after 4)) defaults, (1, (5, [])))) ×
    (found (codes "(?:a)") ≡ Ok (Group NonCapturing defaults, (3, (4, [])))) ×
    (found (codes "(?i-s:a)") ≡ Ok (Group NonCapturing folding, (6, (4, [])))) ×
    (found (codes "(?i)a") ≡ Ok (Directive folding, (4, (4, []))))
unfolding defaults folding found_after found refused past_n letters_after read_flags read_name named flagged opening
openings_rows = (refl, refl, refl, refl, refl)

unsupported_rows :
    (found (codes "(?=a)") ≡ refused Unsupported 0 3) ×
    (found (codes "(?!a)") ≡ refused Unsupported 0 3) ×
    (found (codes "(?<=a)") ≡ refused Unsupported 0 4) ×
    (found (codes "(?<!a)") ≡ refused Unsupported 0 4) ×
    (found (codes "(?P=n)") ≡ refused Unsupported 0 4) ×
    (found (codes "(?P>n)") ≡ refused Unsupported 0 4)
unfolding defaults folding found_after found refused past_n letters_after read_flags read_name named flagged opening
unsupported_rows = (refl, refl, refl, refl, refl, refl)

refused_openings_rows :
    (found (codes "(?") ≡ refused UnclosedGroup 0 1) ×
    (found (codes "(?i") ≡ refused UnclosedGroup 0 1) ×
    (found (codes "(?-") ≡ refused UnclosedGroup 0 1) ×
    (found (codes "(?)") ≡ refused Flag 2 3) ×
    (found (codes "(?P") ≡ refused Flag 2 3) ×
    -- `(?é)`
    (found (40 ∷ 63 ∷ 233 ∷ 41 ∷ []) ≡ refused Flag 2 4)
unfolding defaults folding found_after found refused past_n letters_after read_flags read_name named flagged opening
refused_openings_rows = (refl, refl, refl, refl, refl, refl)

names_rows :
    (found (codes "(?P<n>a)") ≡ Ok (Group (CaptureName (number_after 4) (codes "n")) defaults, (6, (5, codes "n" ∷ [])))) ×
    (found (codes "(?<n1>a)") ≡ Ok (Group (CaptureName (number_after 4) (codes "n1")) defaults, (6, (5, codes "n1" ∷ [])))) ×
    (found (codes "(?P<a.b[0]>x)") ≡ Ok (Group (CaptureName (number_after 4) (codes "a.b[0]")) defaults, (11, (5, codes "a.b[0]" ∷ [])))) ×
    (found (codes "(?<_>x)") ≡ Ok (Group (CaptureName (number_after 4) (codes "_")) defaults, (5, (5, codes "_" ∷ [])))) ×
    -- `(?<é>x)`
    (found (40 ∷ 63 ∷ 60 ∷ 233 ∷ 62 ∷ 120 ∷ 41 ∷ []) ≡ Ok (Group (CaptureName (number_after 4) (233 ∷ [])) defaults, (6, (5, (233 ∷ []) ∷ [])))) ×
    (found_after (codes "b" ∷ []) (codes "(?<a>x)") ≡ Ok (Group (CaptureName (number_after 4) (codes "a")) defaults, (5, (5, codes "a" ∷ codes "b" ∷ []))))
unfolding ucd_derived defaults folding found_after found refused past_n letters_after read_flags read_name named flagged opening
names_rows = (refl, refl, refl, refl, refl, refl)

refused_names_rows :
    (found (codes "(?P<") ≡ refused GroupName 4 4) ×
    (found (codes "(?<") ≡ refused GroupName 3 3) ×
    (found (codes "(?P<n") ≡ refused GroupName 4 5) ×
    (found (codes "(?P<>a)") ≡ refused GroupName 4 4) ×
    (found (codes "(?P<1>a)") ≡ refused GroupName 4 4) ×
    (found (codes "(?<a-b>)") ≡ refused GroupName 3 4) ×
    (found (codes "(?<.>)") ≡ refused GroupName 3 3) ×
    -- `(?<é`
    (found (40 ∷ 63 ∷ 60 ∷ 233 ∷ []) ≡ refused GroupName 3 5)
unfolding ucd_derived defaults folding found_after found refused past_n letters_after read_flags read_name named flagged opening
refused_names_rows = (refl, refl, refl, refl, refl, refl, refl, refl)

names_used_twice_rows :
    (found_after (codes "n" ∷ []) (codes "(?P<n>a)") ≡ refused GroupNameTwice 4 5) ×
    (found_after (codes "a" ∷ codes "n1" ∷ []) (codes "(?<n1>b)") ≡ refused GroupNameTwice 3 5) ×
    (found_after (codes "a" ∷ codes "n1" ∷ []) (codes "(?<a>") ≡ refused GroupNameTwice 3 4) ×
    (found_after (codes "n" ∷ []) (codes "(?P<n") ≡ refused GroupName 4 5)
unfolding ucd_derived defaults folding found_after found refused past_n letters_after read_flags read_name named flagged opening
names_used_twice_rows = (refl, refl, refl, refl)
