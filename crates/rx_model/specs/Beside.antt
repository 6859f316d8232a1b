-- Which look-arounds the bytes beside a place tell, and which bytes no look-around of a kind tells apart.
use Rattle.std.specs.Prelude.{◌≡◌, ℕ, ◌<◌, Bool, true, false, ◌==◌, Option, Some, None, IfSome, IsTrue, ⊤, nat_lt}
use Rattle.unicode.specs.Perl.{is_word_byte}
use Rattle.rx_model.specs.Look.{Look, start_text, end_text, start_lf, end_lf, start_crlf, end_crlf, word_ascii, word_ascii_negate, word_unicode, word_unicode_negate, word_start_ascii, word_end_ascii, word_start_unicode, word_end_unicode, word_start_half_ascii, word_end_half_ascii, word_start_half_unicode, word_end_half_unicode}

-- the kind asks for words of Unicode
abbrev pub is_unicode_word : Look → Bool
is_unicode_word start_text = false
is_unicode_word end_text = false
is_unicode_word start_lf = false
is_unicode_word end_lf = false
is_unicode_word start_crlf = false
is_unicode_word end_crlf = false
is_unicode_word word_ascii = false
is_unicode_word word_ascii_negate = false
is_unicode_word word_unicode = true
is_unicode_word word_unicode_negate = true
is_unicode_word word_start_ascii = false
is_unicode_word word_end_ascii = false
is_unicode_word word_start_unicode = true
is_unicode_word word_end_unicode = true
is_unicode_word word_start_half_ascii = false
is_unicode_word word_end_half_ascii = false
is_unicode_word word_start_half_unicode = true
is_unicode_word word_end_half_unicode = true

-- the byte is ASCII, if there is one
abbrev pub IsAsciiOrNone : Option ℕ → Type 0
IsAsciiOrNone byte = IfSome byte (λ b. b < 0x80)

-- The bytes before and after a place tell whether a look-around of the kind holds there: of words of Unicode where both
-- bytes are ASCII, since a longer character has more than one byte, and of every other kind always.
abbrev pub IsTold : Look → (before after : Option ℕ) → Type 0
IsTold kind before after = IsTrue (is_unicode_word kind) → IsAsciiOrNone before × IsAsciiOrNone after

-- both are line terminators, or neither is
abbrev pub EndLinesAlike : (terminator b c : ℕ) → Type 0
EndLinesAlike terminator b c = (b == terminator) ≡ (c == terminator)

-- both are `\r` or neither is, and both are `\n` or neither is
abbrev pub EndCrlfAlike : (b c : ℕ) → Type 0
EndCrlfAlike b c = ((b == 13) ≡ (c == 13)) × ((b == 10) ≡ (c == 10))

-- both are one of `0-9A-Za-z_`, or neither is
abbrev pub AreWordBytesAlike : (b c : ℕ) → Type 0
AreWordBytesAlike b c = is_word_byte b ≡ is_word_byte c

-- the same, and both are above 7F, or neither is
abbrev pub AreCharBytesAlike : (b c : ℕ) → Type 0
AreCharBytesAlike b c = AreWordBytesAlike b c × (nat_lt 127 b ≡ nat_lt 127 c)

-- a look-around of the kind tells nothing of one byte that it does not tell of the other
abbrev pub AreAlike : (terminator : ℕ) → Look → (b c : ℕ) → Type 0
AreAlike terminator start_text b c = ⊤
AreAlike terminator end_text b c = ⊤
AreAlike terminator start_lf b c = EndLinesAlike terminator b c
AreAlike terminator end_lf b c = EndLinesAlike terminator b c
AreAlike terminator start_crlf b c = EndCrlfAlike b c
AreAlike terminator end_crlf b c = EndCrlfAlike b c
AreAlike terminator word_ascii b c = AreWordBytesAlike b c
AreAlike terminator word_ascii_negate b c = AreWordBytesAlike b c
AreAlike terminator word_unicode b c = AreCharBytesAlike b c
AreAlike terminator word_unicode_negate b c = AreCharBytesAlike b c
AreAlike terminator word_start_ascii b c = AreWordBytesAlike b c
AreAlike terminator word_end_ascii b c = AreWordBytesAlike b c
AreAlike terminator word_start_unicode b c = AreCharBytesAlike b c
AreAlike terminator word_end_unicode b c = AreCharBytesAlike b c
AreAlike terminator word_start_half_ascii b c = AreWordBytesAlike b c
AreAlike terminator word_end_half_ascii b c = AreWordBytesAlike b c
AreAlike terminator word_start_half_unicode b c = AreCharBytesAlike b c
AreAlike terminator word_end_half_unicode b c = AreCharBytesAlike b c

-- both are there and stand so to each other, or neither is there
abbrev pub BothOrNone : (ℕ → ℕ → Type 0) → (b c : Option ℕ) → Type 0
BothOrNone R None None = ⊤
BothOrNone R None (Some c) = ⊥
BothOrNone R (Some b) None = ⊥
BothOrNone R (Some b) (Some c) = R b c
