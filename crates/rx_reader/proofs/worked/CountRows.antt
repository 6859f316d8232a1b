-- What operators of repetition read as, by evaluation of the definitions. The answers were worked out from the
-- rules by hand.
use Rattle.std.proofs.Common.{◌≡◌, ℕ, List, [], refl}
use Rattle.std.specs.Prelude.{Bool, true, false, Option, Some, None, Result, Ok, Err, codes}
use Rattle.rx_reader.specs.declared.flags.Flags.{Flags}
use Rattle.rx_reader.specs.declared.error.SyntaxError.{SyntaxError}
use Rattle.rx_reader.specs.declared.error.SyntaxErrorKind.{SyntaxErrorKind}
use Rattle.rx_reader.specs.declared.error.SyntaxErrorKind.TheVariants.{RepeatCount, Unsupported}
use Rattle.rx_reader.specs.Reading.{Place, ◌>>=◌, past_while}
use Rattle.rx_reader.specs.Ahead.{past_n, blank_len}
use Rattle.rx_reader.specs.declared.operator.Operator.{Operator}
use Rattle.rx_reader.specs.Counts.{read_number, read_max, read_counts, operator}
use Prim.Native.String.{String}

unfoldable start : List ℕ → Place
start text = record { text = text; at = 0; groups = 0; names = [] }

unfoldable flags : (U x : Bool) → Flags
flags U x =
    record { case_insensitive = false; multi_line = false; dot_matches_new_line = false; swap_greed = U; unicode = true; crlf = false; ignore_whitespace = x }

unfoldable found_with : (U x : Bool) → String → Result (Operator × ℕ) SyntaxError
found_with U x text = operator (flags U x) (start (codes text)) >>= λ (o, q). Ok (o, q.at)

-- the operator of this text, and the bytes before the place after it
unfoldable found : String → Result (Operator × ℕ) SyntaxError
found text = found_with false false text

-- under the flag x
unfoldable found_spaced : String → Result (Operator × ℕ) SyntaxError
found_spaced text = found_with false true text

unfoldable is : ℕ → Option ℕ → Bool → ℕ → Result (Operator × ℕ) SyntaxError
is min max greedy end = Ok (record { min = min; max = max; greedy = greedy }, end)

unfoldable refused : SyntaxErrorKind → ℕ → ℕ → Result (Operator × ℕ) SyntaxError
refused kind start end = Err (record { kind = kind; start = start; end = end })

operators_rows :
    (found "*b" ≡ is 0 None true 1) ×
    (found "+" ≡ is 1 None true 1) ×
    (found "?" ≡ is 0 (Some 1) true 1) ×
    (found "*?" ≡ is 0 None false 2) ×
    (found "??" ≡ is 0 (Some 1) false 2) ×
    (found "**" ≡ is 0 None true 1) ×
    (found_with true false "+" ≡ is 1 None false 1) ×
    (found_with true false "+?" ≡ is 1 None true 2) ×
    (found_spaced "* ?" ≡ is 0 None true 1)
unfolding start flags found_with found found_spaced is refused past_while past_n blank_len read_number read_max read_counts operator
operators_rows = (refl, refl, refl, refl, refl, refl, refl, refl, refl)

counts_rows :
    (found "{2}" ≡ is 2 (Some 2) true 3) ×
    (found "{2,}a" ≡ is 2 None true 4) ×
    (found "{2,3}?" ≡ is 2 (Some 3) false 6) ×
    (found "{0,0}" ≡ is 0 (Some 0) true 5) ×
    (found "{007}" ≡ is 7 (Some 7) true 5) ×
    (found "{4294967295}" ≡ is 4294967295 (Some 4294967295) true 12) ×
    (found "{2} ?" ≡ is 2 (Some 2) true 3) ×
    (found_with true false "{2,}?" ≡ is 2 None true 5)
unfolding start flags found_with found found_spaced is refused past_while past_n blank_len read_number read_max read_counts operator
counts_rows = (refl, refl, refl, refl, refl, refl, refl, refl)

spaced_counts_rows :
    (found_spaced "{ 2 , 3 }" ≡ is 2 (Some 3) true 9) ×
    (found_spaced "{2, }" ≡ is 2 None true 5) ×
    (found_spaced "{2} ?" ≡ is 2 (Some 2) false 5) ×
    (found_spaced "{2} # c\n?" ≡ is 2 (Some 2) false 9) ×
    (found_spaced "{2} b" ≡ is 2 (Some 2) true 3)
unfolding start flags found_with found found_spaced is refused past_while past_n blank_len read_number read_max read_counts operator
spaced_counts_rows = (refl, refl, refl, refl, refl)

refused_counts_rows :
    (found "{" ≡ refused RepeatCount 0 1) ×
    (found "{2" ≡ refused RepeatCount 0 2) ×
    (found "{2," ≡ refused RepeatCount 0 3) ×
    (found "{x" ≡ refused RepeatCount 0 1) ×
    (found "{2x}" ≡ refused RepeatCount 0 2) ×
    (found "{2,1}" ≡ refused RepeatCount 0 5) ×
    (found "{4294967296}" ≡ refused RepeatCount 0 11) ×
    (found "{ 2}" ≡ refused RepeatCount 0 1) ×
    (found_spaced "{ x" ≡ refused RepeatCount 0 2) ×
    (found_spaced "{2#\n}" ≡ refused RepeatCount 0 2)
unfolding start flags found_with found found_spaced is refused past_while past_n blank_len read_number read_max read_counts operator
refused_counts_rows = (refl, refl, refl, refl, refl, refl, refl, refl, refl, refl)

counts_without_min_rows :
    (found "{,3}" ≡ refused Unsupported 0 2) ×
    (found "{,}" ≡ refused Unsupported 0 2) ×
    (found_spaced "{," ≡ refused Unsupported 0 2)
unfolding start flags found_with found found_spaced is refused past_while past_n blank_len read_number read_max read_counts operator
counts_without_min_rows = (refl, refl, refl)
