-- What escapes read as, by evaluation of the definitions. The answers were worked out from the rules by hand.
use Rattle.std.proofs.Common.{◌≡◌, ℕ, List, [], ◌∷◌, refl}
use Rattle.std.specs.Prelude.{Bool, true, false, Result, Ok, Err, codes}
use Rattle.rx_sets.specs.declared.perl.ClassPerlKind.TheVariants.{Digit, Space, Word}
use Rattle.rx_reader.specs.declared.error.SyntaxError.{SyntaxError}
use Rattle.rx_reader.specs.declared.error.SyntaxErrorKind.{SyntaxErrorKind}
use Rattle.rx_reader.specs.declared.error.SyntaxErrorKind.TheVariants.{Escape, Unsupported}
use Rattle.rx_reader.specs.declared.assertion.AssertionKind.TheVariants.{StartText, EndText, WordBoundary, NotWordBoundary, WordBoundaryStart, WordBoundaryEnd, WordBoundaryStartHalf, WordBoundaryEndHalf}
use Rattle.rx_reader.specs.declared.escape.Escaped.{Escaped}
use Rattle.rx_reader.specs.declared.escape.Escaped.TheVariants.{Assertion, Perl, Property}
use Rattle.rx_reader.specs.Reading.{◌>>=◌, past_while}
use Rattle.rx_reader.specs.Ahead.{past_n}
use Rattle.rx_reader.specs.Escapes.{character, digits, hex_digits, hex_in_braces, hex, octal_digits, property_in_braces, property, one_letter, boundary, lettered, escape}

-- what stands at the start of this text, and the bytes before the place after it
unfoldable found_where : (octal : Bool) → List ℕ → Result (Escaped × ℕ) SyntaxError
found_where octal text = escape octal (record { text = text; at = 0; groups = 0; names = [] }) >>= λ (e, q). Ok (e, q.at)

unfoldable found : List ℕ → Result (Escaped × ℕ) SyntaxError
found text = found_where false text

unfoldable refused : SyntaxErrorKind → ℕ → ℕ → Result (Escaped × ℕ) SyntaxError
refused kind start end = Err (record { kind = kind; start = start; end = end })

characters_rows :
    (found (codes "\\ab") ≡ Ok (character false 0x07, 2)) ×
    (found (codes "\\n") ≡ Ok (character false 0x0A, 2)) ×
    (found (codes "\\.") ≡ Ok (character false 46, 2)) ×
    (found (codes "\\ ") ≡ Ok (character false 32, 2)) ×
    (found (codes "\\-") ≡ Ok (character false 45, 2)) ×
    (found (codes "\\x412") ≡ Ok (character true 0x41, 4)) ×
    (found (codes "\\xFf") ≡ Ok (character true 0xFF, 4)) ×
    (found (codes "\\x{ff}") ≡ Ok (character false 0xFF, 6)) ×
    (found (codes "\\x{1F600}") ≡ Ok (character false 0x1F600, 9)) ×
    (found (codes "\\u26033") ≡ Ok (character false 0x2603, 6)) ×
    (found (codes "\\u{2603}") ≡ Ok (character false 0x2603, 8)) ×
    (found (codes "\\U0001f600") ≡ Ok (character false 0x1F600, 10)) ×
    (found (codes "\\U{00000041}") ≡ Ok (character false 0x41, 12))
unfolding found_where found past_n past_while digits hex_digits hex_in_braces hex octal_digits property_in_braces property one_letter boundary lettered escape
characters_rows = (refl, refl, refl, refl, refl, refl, refl, refl, refl, refl, refl, refl, refl)

octal_rows :
    (found_where true (codes "\\141b") ≡ Ok (character false 97, 4)) ×
    (found_where true (codes "\\1411") ≡ Ok (character false 97, 4)) ×
    (found_where true (codes "\\18") ≡ Ok (character false 1, 2)) ×
    (found_where true (codes "\\777") ≡ Ok (character false 511, 4)) ×
    (found_where true (codes "\\8") ≡ refused Escape 0 1) ×
    (found (codes "\\0") ≡ refused Unsupported 0 2) ×
    (found (codes "\\141") ≡ refused Unsupported 0 2) ×
    (found (codes "\\9") ≡ refused Unsupported 0 2)
unfolding found_where found refused past_n past_while digits hex_digits hex_in_braces hex octal_digits property_in_braces property one_letter boundary lettered escape
octal_rows = (refl, refl, refl, refl, refl, refl, refl, refl)

sets_rows :
    (found (codes "\\d") ≡ Ok (Perl Digit false, 2)) ×
    (found (codes "\\S") ≡ Ok (Perl Space true, 2)) ×
    (found (codes "\\W") ≡ Ok (Perl Word true, 2)) ×
    (found (codes "\\pLu") ≡ Ok (Property (codes "L") false, 3)) ×
    (found (codes "\\PL") ≡ Ok (Property (codes "L") true, 3)) ×
    (found (codes "\\p{Greek}") ≡ Ok (Property (codes "Greek") false, 9)) ×
    (found (codes "\\p{^x}") ≡ Ok (Property (codes "x") true, 6)) ×
    (found (codes "\\P{^x}") ≡ Ok (Property (codes "x") false, 6)) ×
    (found (codes "\\p{a=b }}") ≡ Ok (Property (codes "a=b ") false, 8))
unfolding found_where found past_n past_while digits hex_digits hex_in_braces hex octal_digits property_in_braces property one_letter boundary lettered escape
sets_rows = (refl, refl, refl, refl, refl, refl, refl, refl, refl)

assertions_rows :
    (found (codes "\\A") ≡ Ok (Assertion StartText, 2)) ×
    (found (codes "\\z") ≡ Ok (Assertion EndText, 2)) ×
    (found (codes "\\b") ≡ Ok (Assertion WordBoundary, 2)) ×
    (found (codes "\\B{start}") ≡ Ok (Assertion NotWordBoundary, 2)) ×
    (found (codes "\\b{start}") ≡ Ok (Assertion WordBoundaryStart, 9)) ×
    (found (codes "\\b{end}") ≡ Ok (Assertion WordBoundaryEnd, 7)) ×
    (found (codes "\\b{start-half}") ≡ Ok (Assertion WordBoundaryStartHalf, 14)) ×
    (found (codes "\\b{end-half}") ≡ Ok (Assertion WordBoundaryEndHalf, 12)) ×
    (found (codes "\\<") ≡ Ok (Assertion WordBoundaryStart, 2)) ×
    (found (codes "\\>") ≡ Ok (Assertion WordBoundaryEnd, 2)) ×
    (found (codes "\\b{2}") ≡ Ok (Assertion WordBoundary, 2)) ×
    (found (codes "\\b{start") ≡ Ok (Assertion WordBoundary, 2))
unfolding found_where found past_n past_while digits hex_digits hex_in_braces hex octal_digits property_in_braces property one_letter boundary lettered escape
assertions_rows = (refl, refl, refl, refl, refl, refl, refl, refl, refl, refl, refl, refl)

refused_rows :
    (found (codes "\\") ≡ refused Escape 0 1) ×
    (found (codes "\\y") ≡ refused Escape 0 1) ×
    -- `\é`
    (found (92 ∷ 233 ∷ []) ≡ refused Escape 0 1) ×
    (found (codes "\\x") ≡ refused Escape 0 2) ×
    (found (codes "\\xg0") ≡ refused Escape 0 2) ×
    (found (codes "\\x4") ≡ refused Escape 0 3) ×
    (found (codes "\\u26") ≡ refused Escape 0 4) ×
    (found (codes "\\x{}") ≡ refused Escape 0 3) ×
    (found (codes "\\x{4") ≡ refused Escape 0 4) ×
    (found (codes "\\x{4 }") ≡ refused Escape 0 4) ×
    (found (codes "\\x{123456789}") ≡ refused Escape 0 11) ×
    (found (codes "\\x{110000}") ≡ refused Escape 0 10) ×
    (found (codes "\\uD800") ≡ refused Escape 0 6) ×
    (found (codes "\\UFFFFFFFF") ≡ refused Escape 0 10) ×
    (found (codes "\\p") ≡ refused Escape 0 2) ×
    (found (codes "\\p{Greek") ≡ refused Escape 0 8)
unfolding found_where found refused past_n past_while digits hex_digits hex_in_braces hex octal_digits property_in_braces property one_letter boundary lettered escape
refused_rows = (refl, refl, refl, refl, refl, refl, refl, refl, refl, refl, refl, refl, refl, refl, refl, refl)
