-- What a backslash and the characters after it stand for.
use Rattle.std.specs.Prelude.{ℕ, Bool, true, false, not, ◌&&◌, ◌||◌, ◌==◌, List, [], ◌∷◌, take, length, Option, Some, None, Ok, if◌then◌else◌}
use Rattle.std.specs.List.{prefix_len}
use Rattle.std.specs.Char.{is_ascii, is_ascii_alphabetic, is_ascii_digit, is_ascii_lowercase, is_digit}
use Rattle.std.specs.Str.Parse.{digits_value}
use lib.Utf8.{scalar}
use Rattle.rx_sets.specs.declared.perl.ClassPerlKind.{ClassPerlKind}
use Rattle.rx_sets.specs.declared.perl.ClassPerlKind.TheVariants.{Digit, Space, Word}
use Rattle.rx_reader.specs.declared.error.SyntaxErrorKind.TheVariants.{Escape, Unsupported}
use Rattle.rx_reader.specs.declared.assertion.AssertionKind.{AssertionKind}
use Rattle.rx_reader.specs.declared.assertion.AssertionKind.TheVariants.{StartText, EndText, WordBoundary, NotWordBoundary, WordBoundaryStart, WordBoundaryEnd, WordBoundaryStartHalf, WordBoundaryEndHalf}
use Rattle.rx_reader.specs.declared.escape.Escaped.{Escaped}
use Rattle.rx_reader.specs.declared.escape.NameIn.{NameIn}
use Rattle.rx_reader.specs.declared.escape.NameIn.TheVariants.{Braces, Brackets}
use Rattle.rx_reader.specs.declared.escape.Escaped.TheVariants.{Character, Assertion, Perl, Property}
use Rattle.rx_reader.specs.Ahead.{past_n}
use Rattle.rx_reader.specs.Reading.{Place, Read, refuse, at_end, first, past, ◌∈◌, is_at, begins, past_all}

-- a character; written as `\x` and two digits it stands for a byte where Unicode is off
abbrev pub character : (is_hex_byte : Bool) → ℕ → Escaped
character is_hex_byte c = Character (record { character = c; is_hex_byte = is_hex_byte })

-- the characters at the place that pass the test, up to the first that doesn't
abbrev pub leading : (ℕ → Bool) → List ℕ → List ℕ
leading test text = take (prefix_len test text) text

-- Characters by their numbers.

-- the digits of the radix at the place, so many at most
unfoldable pub digits : (radix most : ℕ) → Place → List ℕ
digits radix most p = leading (λ c. is_digit c radix) (take most p.text)

-- the character of the number, in an escape from the place `from` to the place q
abbrev pub numbered : (from : Place) → (is_hex_byte : Bool) → ℕ → (q : Place) → Read Escaped
numbered from is_hex_byte code q = if scalar code then Ok (character is_hex_byte code, q) else refuse Escape from q

-- so many digits of base 16
unfoldable pub hex_digits : (from : Place) → (count : ℕ) → Place → Read Escaped
hex_digits from count p =
    let ds = digits 16 count p in
    let q = past_n (length ds) p in
    if length ds == count then numbered from (count == 2) (digits_value 16 ds) q else refuse Escape from q

-- one to eight digits of base 16 and the closing brace
unfoldable pub hex_in_braces : (from : Place) → Place → Read Escaped
hex_in_braces from p =
    let ds = digits 16 8 p in
    let q = past_n (length ds) p in
    if length ds == 0 || not (is_at "}" q) then refuse Escape from q else numbered from false (digits_value 16 ds) (past q)

-- what stands after `\x`, `\u` or `\U`, with so many digits where there are no braces
unfoldable pub hex : (from : Place) → (count : ℕ) → Place → Read Escaped
hex from count p = if is_at "{" p then hex_in_braces from (past p) else hex_digits from count p

-- one to three digits of base 8
unfoldable pub octal_digits : (from : Place) → Place → Read Escaped
octal_digits from p = let ds = digits 8 3 p in numbered from false (digits_value 8 ds) (past_n (length ds) p)

-- Sets by their names.

-- the characters of a name: all up to the closing brace, or small letters
abbrev pub in_name : NameIn → ℕ → Bool
in_name Braces c = not (c ∈ "}")
in_name Brackets c = is_ascii_lowercase c

-- the name up to the closing brace
unfoldable pub property_in_braces : (from : Place) → (negated : Bool) → Place → Read Escaped
property_in_braces from negated p =
    let q = past_all (in_name Braces) p in
    if at_end q then refuse Escape from q else Ok (Property (leading (in_name Braces) p.text) negated, past q)

-- What stands after `\p` or `\P`: a name of one character, or one in braces. A `^` that begins it complements, once more
-- after `\P`.
unfoldable pub property : (from : Place) → (negated : Bool) → Place → Read Escaped
property from negated p =
    let q = past p in
    if at_end p then refuse Escape from p
    else if not (is_at "{" p) then Ok (Property (first p ∷ []) negated, q)
    else if is_at "^" q then property_in_braces from (not negated) (past q)
    else property_in_braces from negated q

-- Escapes of one letter.

-- the set, and whether it is complemented
abbrev pub perl_class : ℕ → Option (ClassPerlKind × Bool)
perl_class c =
    if c ∈ "d" then Some (Digit, false)
    else if c ∈ "D" then Some (Digit, true)
    else if c ∈ "s" then Some (Space, false)
    else if c ∈ "S" then Some (Space, true)
    else if c ∈ "w" then Some (Word, false)
    else if c ∈ "W" then Some (Word, true)
    else None

abbrev pub assertion : ℕ → Option AssertionKind
assertion c =
    if c ∈ "A" then Some StartText
    else if c ∈ "z" then Some EndText
    else if c ∈ "B" then Some NotWordBoundary
    else if c ∈ "<" then Some WordBoundaryStart
    else if c ∈ ">" then Some WordBoundaryEnd
    else None

-- what stands for itself after a backslash
abbrev pub is_escapable : ℕ → Bool
is_escapable c = is_ascii c && not (is_ascii_alphabetic c || is_ascii_digit c || c ∈ "<>")

abbrev pub escaped_character : ℕ → Option ℕ
escaped_character c =
    if c ∈ "a" then Some 0x07
    else if c ∈ "f" then Some 0x0C
    else if c ∈ "t" then Some 0x09
    else if c ∈ "n" then Some 0x0A
    else if c ∈ "r" then Some 0x0D
    else if c ∈ "v" then Some 0x0B
    else if is_escapable c then Some c
    else None

-- what the backslash and this one character stand for
abbrev pub by_letter : Option (ClassPerlKind × Bool) → Option AssertionKind → Option ℕ → Option Escaped
by_letter (Some set) found char = Some (Perl set.0 set.1)
by_letter None (Some kind) char = Some (Assertion kind)
by_letter None None (Some c) = Some (character false c)
by_letter None None None = None

unfoldable pub one_letter : ℕ → Option Escaped
one_letter c = by_letter (perl_class c) (assertion c) (escaped_character c)

-- What stands after `\b`. Any other brace than these begins a repetition.
unfoldable pub boundary : Place → AssertionKind × Place
boundary p =
    if begins "{start}" p then (WordBoundaryStart, past_n 7 p)
    else if begins "{end}" p then (WordBoundaryEnd, past_n 5 p)
    else if begins "{start-half}" p then (WordBoundaryStartHalf, past_n 12 p)
    else if begins "{end-half}" p then (WordBoundaryEndHalf, past_n 10 p)
    else (WordBoundary, p)

-- The whole escape.

-- the escape of one letter from p to q, if it is one; else it ends before the letter
abbrev pub known : (p q : Place) → Option Escaped → Read Escaped
known p q (Some e) = Ok (e, past q)
known p q None = refuse Escape p q

-- the escape from p on whose letter stands at q
unfoldable pub lettered : (p q : Place) → Read Escaped
lettered p q =
    let c = first q in
    if c ∈ "x" then hex p 2 (past q)
    else if c ∈ "u" then hex p 4 (past q)
    else if c ∈ "U" then hex p 8 (past q)
    else if c ∈ "p" then property p false (past q)
    else if c ∈ "P" then property p true (past q)
    else if c ∈ "b" then (let (kind, r) = boundary (past q) in Ok (Assertion kind, r))
    else known p q (one_letter c)

-- from the backslash on; digits of base 8 are read where `octal` is set, else no digit is
unfoldable pub escape : (octal : Bool) → Place → Read Escaped
escape octal p =
    let q = past p in
    if at_end q then refuse Escape p q
    else if octal && is_digit (first q) 8 then octal_digits p q
    else if not octal && is_ascii_digit (first q) then refuse Unsupported p (past q)
    else lettered p q
