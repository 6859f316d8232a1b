-- Worked rows of look-around, by evaluation of the definitions: the places of a text where a kind holds.
use Rattle.std.proofs.Common.{◌≡◌, ℕ, zero, suc, ◌+◌, List, [], ◌∷◌, length, refl, if◌then◌else◌}
use Rattle.std.specs.Str.{chars}
use Rattle.std.specs.Char.{encode_utf8}
use Rattle.unicode.proofs.PerlComputing.{ucd_perl}
use Rattle.rx_model.specs.Text.{stands_at, char_at}
use Rattle.rx_model.specs.Look.{Look, holds, char_before, start_text, end_text, start_lf, end_lf, start_crlf, end_crlf, word_ascii, word_ascii_negate, word_unicode, word_unicode_negate, word_start_ascii, word_end_ascii, word_start_unicode, word_end_unicode, word_start_half_ascii, word_end_half_ascii, word_start_half_unicode, word_end_half_unicode}

abbrev places_from : (terminator : ℕ) (text : List ℕ) → Look → (i n : ℕ) → List ℕ
places_from terminator text kind i zero = []
places_from terminator text kind i (suc n) =
    let rest = places_from terminator text kind (i + 1) n in
    if holds terminator text kind i then i ∷ rest else rest

-- all places of the text where the kind holds
abbrev places : (terminator : ℕ) (text : List ℕ) → Look → List ℕ
places terminator text kind = places_from terminator text kind 0 (suc (length text))

-- `a\r\nb`
abbrev lines : List ℕ
lines = 97 ∷ 13 ∷ 10 ∷ 98 ∷ []

ends_of_lines :
    (places 10 lines start_text ≡ 0 ∷ [])
    × (places 10 lines end_text ≡ 4 ∷ [])
    × (places 10 lines start_lf ≡ 0 ∷ 3 ∷ [])
    × (places 10 lines end_lf ≡ 2 ∷ 4 ∷ [])
    × (places 97 lines start_lf ≡ 0 ∷ 1 ∷ [])
    × (places 97 lines end_lf ≡ 0 ∷ 4 ∷ [])
    × (places 10 lines start_crlf ≡ 0 ∷ 3 ∷ [])
    × (places 10 lines end_crlf ≡ 1 ∷ 4 ∷ [])
unfolding holds
ends_of_lines = (refl, refl, refl, refl, refl, refl, refl, refl)

-- `a b_`
abbrev words : List ℕ
words = 97 ∷ 32 ∷ 98 ∷ 95 ∷ []

ends_of_ascii_words :
    (places 10 words word_ascii ≡ 0 ∷ 1 ∷ 2 ∷ 4 ∷ [])
    × (places 10 words word_ascii_negate ≡ 3 ∷ [])
    × (places 10 words word_start_ascii ≡ 0 ∷ 2 ∷ [])
    × (places 10 words word_end_ascii ≡ 1 ∷ 4 ∷ [])
    × (places 10 words word_start_half_ascii ≡ 0 ∷ 2 ∷ [])
    × (places 10 words word_end_half_ascii ≡ 1 ∷ 4 ∷ [])
unfolding holds
ends_of_ascii_words = (refl, refl, refl, refl, refl, refl)

-- `éa ` and `é `, and after it a byte that is no character
abbrev accented : List ℕ
accented = 0xC3 ∷ 0xA9 ∷ 97 ∷ 32 ∷ []

abbrev broken : List ℕ
broken = 0xC3 ∷ 0xA9 ∷ 32 ∷ 0xFF ∷ []

ends_of_unicode_words :
    (places 10 accented word_unicode ≡ 0 ∷ 3 ∷ [])
    × (places 10 accented word_unicode_negate ≡ 2 ∷ 4 ∷ [])
    × (places 10 broken word_unicode ≡ 0 ∷ 2 ∷ [])
    × (places 10 broken word_unicode_negate ≡ [])
    × (places 10 broken word_start_unicode ≡ 0 ∷ [])
    × (places 10 broken word_end_unicode ≡ 2 ∷ [])
    × (places 10 broken word_start_half_unicode ≡ 0 ∷ 3 ∷ [])
    × (places 10 broken word_end_half_unicode ≡ 2 ∷ 4 ∷ [])
unfolding holds char_before char_at stands_at chars encode_utf8 ucd_perl
ends_of_unicode_words = (refl, refl, refl, refl, refl, refl, refl, refl)
