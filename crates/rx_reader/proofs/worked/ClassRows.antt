-- What classes in brackets read as, by evaluation of the definitions. The answers were worked out from the rules
-- by hand.
use Rattle.std.proofs.Common.{◌≡◌, ℕ, List, [], ◌∷◌, refl}
use Rattle.std.specs.Prelude.{Bool, true, false, Result, Ok, Err, codes}
use Rattle.rx_sets.specs.declared.perl.ClassPerlKind.TheVariants as perl
use Rattle.rx_sets.specs.declared.ascii.ClassAsciiKind.TheVariants as ascii
use Rattle.rx_reader.specs.declared.error.SyntaxError.{SyntaxError}
use Rattle.rx_reader.specs.declared.error.SyntaxErrorKind.{SyntaxErrorKind}
use Rattle.rx_reader.specs.declared.error.SyntaxErrorKind.TheVariants.{UnclosedClass, ClassRange, Escape, Unsupported}
use Rattle.rx_reader.specs.declared.atom.Atom.{Atom}
use Rattle.rx_reader.specs.declared.atom.Atom.TheVariants.{Bracketed}
use Rattle.rx_reader.specs.declared.class_item.ClassItem.{ClassItem}
use Rattle.rx_reader.specs.declared.class_item.ClassItem.TheVariants.{Range, Perl, Posix, Property}
use Rattle.rx_reader.specs.Reading.{◌>>=◌, past_while}
use Rattle.rx_reader.specs.Ahead.{past_n}
use Rattle.rx_reader.specs.Escapes.{digits, hex_digits, hex_in_braces, hex, octal_digits, property_in_braces, property, one_letter, boundary, lettered, escape}
use Rattle.rx_reader.specs.Classes.{posix_name, posix, member, class_range, item_at, class_item, class_items, class}

-- what stands at the start of this text, and the bytes before the place after it
unfoldable found_where : (skips : Bool) → List ℕ → Result (Atom × ℕ) SyntaxError
found_where skips text = class false skips (record { text = text; at = 0; groups = 0; names = [] }) >>= λ (a, q). Ok (a, q.at)

unfoldable found : List ℕ → Result (Atom × ℕ) SyntaxError
found text = found_where false text

unfoldable refused : SyntaxErrorKind → ℕ → ℕ → Result (Atom × ℕ) SyntaxError
refused kind start end = Err (record { kind = kind; start = start; end = end })

unfoldable span : ℕ → ℕ → ClassItem
span low high = Range (record { character = low; is_hex_byte = false }) (record { character = high; is_hex_byte = false })

unfoldable single : ℕ → ClassItem
single c = span c c

-- from a byte to a byte
unfoldable bytes : ℕ → ℕ → ClassItem
bytes low high = Range (record { character = low; is_hex_byte = true }) (record { character = high; is_hex_byte = true })

items_rows :
    (found (codes "[a-c]d") ≡ Ok (Bracketed false (span 97 99 ∷ []), 5)) ×
    (found (codes "[^ab]") ≡ Ok (Bracketed true (single 97 ∷ single 98 ∷ []), 5)) ×
    (found (codes "[]a]") ≡ Ok (Bracketed false (single 93 ∷ single 97 ∷ []), 4)) ×
    (found (codes "[]-a]") ≡ Ok (Bracketed false (single 93 ∷ single 45 ∷ single 97 ∷ []), 5)) ×
    (found (codes "[^]-a]") ≡ Ok (Bracketed true (single 93 ∷ single 45 ∷ single 97 ∷ []), 6)) ×
    (found (codes "[-a-]") ≡ Ok (Bracketed false (single 45 ∷ single 97 ∷ single 45 ∷ []), 5)) ×
    (found (codes "[a-z-9]") ≡ Ok (Bracketed false (span 97 122 ∷ single 45 ∷ single 57 ∷ []), 7)) ×
    (found (codes "[!-&&]") ≡ Ok (Bracketed false (span 33 38 ∷ single 38 ∷ []), 6)) ×
    (found (codes "[\\x00-\\xff]") ≡ Ok (Bracketed false (bytes 0 255 ∷ []), 11)) ×
    (found (codes "[\\]-\\x{7e}]") ≡ Ok (Bracketed false (span 93 126 ∷ []), 11)) ×
    -- `[α-ω☃]`
    (found (91 ∷ 945 ∷ 45 ∷ 969 ∷ 9731 ∷ 93 ∷ []) ≡ Ok (Bracketed false (span 945 969 ∷ single 9731 ∷ []), 10))
unfolding found_where found span single bytes past_n past_while digits hex_digits hex_in_braces hex octal_digits property_in_braces property one_letter boundary lettered escape posix_name posix member class_range item_at class_item class_items class
items_rows = (refl, refl, refl, refl, refl, refl, refl, refl, refl, refl, refl)

sets_rows :
    (found (codes "[[:^alpha:]\\d-]") ≡ Ok (Bracketed false (Posix ascii.Alpha true ∷ Perl perl.Digit false ∷ single 45 ∷ []), 15)) ×
    (found (codes "[[:alpha:]-z]") ≡ Ok (Bracketed false (Posix ascii.Alpha false ∷ single 45 ∷ single 122 ∷ []), 13)) ×
    (found (codes "[^[:xdigit:]]") ≡ Ok (Bracketed true (Posix ascii.Xdigit false ∷ []), 13)) ×
    (found (codes "[a\\p{^Lu}]") ≡ Ok (Bracketed false (single 97 ∷ Property true (record { start = 2; end = 9 }) (codes "Lu") ∷ []), 10)) ×
    (found (codes "[\\W\\pL]") ≡ Ok (Bracketed false (Perl perl.Word true ∷ Property false (record { start = 3; end = 6 }) (codes "L") ∷ []), 7))
unfolding found_where found span single past_n past_while digits hex_digits hex_in_braces hex octal_digits property_in_braces property one_letter boundary lettered escape posix_name posix member class_range item_at class_item class_items class
sets_rows = (refl, refl, refl, refl, refl)

white_space_rows :
    (found_where true (codes "[ a - z # ]") ≡ Ok (Bracketed false (span 97 122 ∷ single 35 ∷ []), 11)) ×
    (found_where true (codes "[ ^ ] a - ]") ≡ Ok (Bracketed true (single 93 ∷ single 97 ∷ single 45 ∷ []), 11)) ×
    (found_where true (codes "[\\  ]") ≡ Ok (Bracketed false (single 32 ∷ []), 5)) ×
    (found_where true (codes "[ a ") ≡ refused UnclosedClass 0 1) ×
    (found (codes "[ ]") ≡ Ok (Bracketed false (single 32 ∷ []), 3)) ×
    (found (codes "[ ^]") ≡ Ok (Bracketed false (single 32 ∷ single 94 ∷ []), 4))
unfolding found_where found refused span single past_n past_while digits hex_digits hex_in_braces hex octal_digits property_in_braces property one_letter boundary lettered escape posix_name posix member class_range item_at class_item class_items class
white_space_rows = (refl, refl, refl, refl, refl, refl)

unclosed_rows :
    (found (codes "[") ≡ refused UnclosedClass 0 1) ×
    (found (codes "[^") ≡ refused UnclosedClass 0 1) ×
    (found (codes "[]") ≡ refused UnclosedClass 0 1) ×
    (found (codes "[]a") ≡ refused UnclosedClass 0 1) ×
    (found (codes "[a-") ≡ refused UnclosedClass 0 1) ×
    (found (codes "[\\d-") ≡ refused UnclosedClass 0 1)
unfolding found_where found refused past_n past_while digits hex_digits hex_in_braces hex octal_digits property_in_braces property one_letter boundary lettered escape posix_name posix member class_range item_at class_item class_items class
unclosed_rows = (refl, refl, refl, refl, refl, refl)

ranges_rows :
    (found (codes "[z-a]") ≡ refused ClassRange 1 4) ×
    -- `[é-a]`
    (found (91 ∷ 233 ∷ 45 ∷ 97 ∷ 93 ∷ []) ≡ refused ClassRange 1 5) ×
    (found (codes "[xa-\\d]") ≡ refused ClassRange 2 6) ×
    (found (codes "[\\d-z]") ≡ refused ClassRange 1 5) ×
    (found (codes "[a-[:alpha:]]") ≡ refused ClassRange 1 12) ×
    (found (codes "[a-\\pL") ≡ refused ClassRange 1 6)
unfolding found_where found refused past_n past_while digits hex_digits hex_in_braces hex octal_digits property_in_braces property one_letter boundary lettered escape posix_name posix member class_range item_at class_item class_items class
ranges_rows = (refl, refl, refl, refl, refl, refl)

unsupported_rows :
    (found (codes "[a&&b]") ≡ refused Unsupported 2 4) ×
    (found (codes "[a~~b]") ≡ refused Unsupported 2 4) ×
    (found (codes "[--a]") ≡ refused Unsupported 1 3) ×
    (found (codes "[+--]") ≡ refused Unsupported 2 4) ×
    (found (codes "[[a]]") ≡ refused Unsupported 1 2) ×
    (found (codes "[a-[b]]") ≡ refused Unsupported 3 4) ×
    (found (codes "[[:foo:]]") ≡ refused Unsupported 1 2) ×
    (found (codes "[[:alpha]]") ≡ refused Unsupported 1 2) ×
    (found (codes "[[:Alpha:]]") ≡ refused Unsupported 1 2) ×
    (found (codes "[\\1]") ≡ refused Unsupported 1 3)
unfolding found_where found refused past_n past_while digits hex_digits hex_in_braces hex octal_digits property_in_braces property one_letter boundary lettered escape posix_name posix member class_range item_at class_item class_items class
unsupported_rows = (refl, refl, refl, refl, refl, refl, refl, refl, refl, refl)

escapes_rows :
    (found (codes "[\\b]") ≡ refused Escape 1 3) ×
    (found (codes "[\\b") ≡ refused Escape 1 3) ×
    (found (codes "[a\\") ≡ refused Escape 2 3) ×
    (found (codes "[\\b{start}]") ≡ refused Escape 1 10) ×
    (found (codes "[a-\\z]") ≡ refused Escape 3 5) ×
    (found (codes "[\\y]") ≡ refused Escape 1 2)
unfolding found_where found refused past_n past_while digits hex_digits hex_in_braces hex octal_digits property_in_braces property one_letter boundary lettered escape posix_name posix member class_range item_at class_item class_items class
escapes_rows = (refl, refl, refl, refl, refl, refl)
