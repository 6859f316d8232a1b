-- What flags read as, by evaluation of the definitions. The answers were worked out from the rules by hand.
use Rattle.std.proofs.Common.{◌≡◌, ℕ, List, [], refl}
use Rattle.std.specs.Prelude.{Bool, true, false, Result, Ok, Err, codes}
use Rattle.rx_reader.specs.declared.flags.Flags.{Flags}
use Rattle.rx_reader.specs.declared.error.SyntaxError.{SyntaxError}
use Rattle.rx_reader.specs.declared.error.SyntaxErrorKind.{SyntaxErrorKind}
use Rattle.rx_reader.specs.declared.error.SyntaxErrorKind.TheVariants.{UnclosedGroup, Flag}
use Rattle.rx_reader.specs.Reading.{Place, ◌>>=◌}
use Rattle.rx_reader.specs.Ahead.{past_n}
use Rattle.rx_reader.specs.Flags.{letters_after, read_flags}
use Prim.Native.String.{String}

unfoldable start : List ℕ → Place
start text = record { text = text; at = 0; groups = 0; names = [] }

-- the flags i, m, s, U, u, R, x
unfoldable flags : (i m s U u R x : Bool) → Flags
flags i m s U u R x = record { case_insensitive = i; multi_line = m; dot_matches_new_line = s; swap_greed = U; unicode = u; crlf = R; ignore_whitespace = x }

unfoldable defaults : Flags
defaults = flags false false false false true false false

-- the flags of a group with this text, and the bytes before the place after them
unfoldable found : Flags → String → Result (Flags × ℕ) SyntaxError
found before text = read_flags (start (codes text)) before (past_n 2 (start (codes text))) >>= λ (after, q). Ok (after, q.at)

unfoldable refused : SyntaxErrorKind → ℕ → ℕ → Result (Flags × ℕ) SyntaxError
refused kind start end = Err (record { kind = kind; start = start; end = end })

flags_rows :
    (found defaults "(?:a)" ≡ Ok (defaults, 2)) ×
    (found defaults "(?i:a)" ≡ Ok (flags true false false false true false false, 3)) ×
    (found defaults "(?i-s:a)" ≡ Ok (flags true false false false true false false, 5)) ×
    (found (flags false false true false true false false) "(?i-s:a)" ≡ Ok (flags true false false false true false false, 5)) ×
    (found defaults "(?-u)" ≡ Ok (flags false false false false false false false, 4)) ×
    (found defaults "(?imsURux)" ≡ Ok (flags true true true true true true true, 9)) ×
    (found (flags true true true true true true true) "(?-imsURux:)" ≡ Ok (flags false false false false false false false, 10)) ×
    (found (flags true true true true true true true) "(?Rx-mU)" ≡ Ok (flags true false true false true true true, 7))
unfolding start flags defaults found refused past_n letters_after read_flags
flags_rows = (refl, refl, refl, refl, refl, refl, refl, refl)

-- unknown, twice, or none where there is to be one
refused_flags_rows :
    (found defaults "(?)" ≡ refused Flag 2 3) ×
    (found defaults "(?a)" ≡ refused Flag 2 3) ×
    (found defaults "(?ii)" ≡ refused Flag 3 4) ×
    (found defaults "(?i-i)" ≡ refused Flag 4 5) ×
    (found defaults "(?i-)" ≡ refused Flag 4 5) ×
    (found defaults "(?-:a)" ≡ refused Flag 3 4) ×
    (found defaults "(?-i-s)" ≡ refused Flag 4 5) ×
    (found defaults "(?Pa)" ≡ refused Flag 2 3) ×
    (found defaults "(?i s)" ≡ refused Flag 3 4)
unfolding start flags defaults found refused past_n letters_after read_flags
refused_flags_rows = (refl, refl, refl, refl, refl, refl, refl, refl, refl)

cut_off_flags_rows :
    (found defaults "(?" ≡ refused UnclosedGroup 0 1) ×
    (found defaults "(?i" ≡ refused UnclosedGroup 0 1) ×
    (found defaults "(?i-" ≡ refused UnclosedGroup 0 1)
unfolding start flags defaults found refused past_n letters_after read_flags
cut_off_flags_rows = (refl, refl, refl)
