-- Worked rows of least lengths, by evaluation of the definition.
use Rattle.std.proofs.Common.{◌≡◌, [], ◌∷◌, Some, None, refl}
use Rattle.std.specs.Prelude.{true, false}
use Rattle.rx_model.specs.Text.{scalar_ranges, byte_ranges}
use Rattle.rx_model.specs.Expression.{class, repetition, capture}
use Rattle.rx_model.specs.Length.{minimum_len, is_positive}
use Rattle.rx_model.proofs.worked.RowWords.{text, turn, either, star, plus}

-- `.` takes one byte at least, and the characters from U+0080 on take two
dot : minimum_len (class (scalar_ranges ((0, 9) ∷ (11, 0xD7FF) ∷ (0xE000, 0x10FFFF) ∷ []))) ≡ Some 1
dot = refl

above_ascii : minimum_len (class (scalar_ranges ((0x10000, 0x10FFFF) ∷ (0x80, 0xFF) ∷ []))) ≡ Some 2
above_ascii = refl

-- no scalar lies among the surrogates
surrogates : minimum_len (class (scalar_ranges ((0xD800, 0xDFFF) ∷ []))) ≡ None
surrogates = refl

after_surrogates : minimum_len (class (scalar_ranges ((0xD800, 0x10FFFF) ∷ []))) ≡ Some 3
after_surrogates = refl

bytes : minimum_len (class (byte_ranges ((0x80, 0xFF) ∷ []))) ≡ Some 1
bytes = refl

no_bytes : minimum_len (class (byte_ranges [])) ≡ None
no_bytes = refl

-- `(ab|c)d{2,3}`
some_of_each : minimum_len (turn (capture 1 None (either (text "ab" ∷ text "c" ∷ [])) ∷ repetition 2 (Some 3) true (text "d") ∷ [])) ≡ Some 3
some_of_each = refl

-- one alternative without a bound leaves none, and so does one part
alternatives : minimum_len (either (text "ab" ∷ class (byte_ranges []) ∷ [])) ≡ None
alternatives = refl

parts : minimum_len (turn (text "ab" ∷ star (class (byte_ranges [])) ∷ [])) ≡ None
parts = refl

no_alternatives : minimum_len (either []) ≡ None
no_alternatives = refl

no_parts : minimum_len (turn []) ≡ Some 0
no_parts = refl

-- only what is known and above 0 is positive
star_is_not : is_positive (minimum_len (star (text "a"))) ≡ false
star_is_not = refl

plus_is : is_positive (minimum_len (plus (text "a"))) ≡ true
plus_is = refl

unknown_is_not : is_positive (minimum_len (class (byte_ranges []))) ≡ false
unknown_is_not = refl
