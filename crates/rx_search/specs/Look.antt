-- Look-around: the kinds as the model has them, and sets of kinds.
use Rattle.std.specs.Prelude.{Bool, ◌==◌}
use Rattle.rx_model.specs.Look as model
use Rattle.rx_model.specs.Look.{holds, kinds, look_number, start_text, end_text, start_lf, end_lf, start_crlf, end_crlf, word_ascii, word_ascii_negate, word_unicode, word_unicode_negate, word_start_ascii, word_end_ascii, word_start_unicode, word_end_unicode, word_start_half_ascii, word_end_half_ascii, word_start_half_unicode, word_end_half_unicode}
use Rattle.rx_search.specs.declared.look.Look.{Look}
use Rattle.rx_search.specs.declared.look.Look.TheVariants.{Start, End, StartLF, EndLF, StartCRLF, EndCRLF, WordAscii, WordAsciiNegate, WordUnicode, WordUnicodeNegate, WordStartAscii, WordEndAscii, WordStartUnicode, WordEndUnicode, WordStartHalfAscii, WordEndHalfAscii, WordStartHalfUnicode, WordEndHalfUnicode}

-- a kind, as the model has it
abbrev pub kind_of : Look → model.Look
kind_of Start = start_text
kind_of End = end_text
kind_of StartLF = start_lf
kind_of EndLF = end_lf
kind_of StartCRLF = start_crlf
kind_of EndCRLF = end_crlf
kind_of WordAscii = word_ascii
kind_of WordAsciiNegate = word_ascii_negate
kind_of WordUnicode = word_unicode
kind_of WordUnicodeNegate = word_unicode_negate
kind_of WordStartAscii = word_start_ascii
kind_of WordEndAscii = word_end_ascii
kind_of WordStartUnicode = word_start_unicode
kind_of WordEndUnicode = word_end_unicode
kind_of WordStartHalfAscii = word_start_half_ascii
kind_of WordEndHalfAscii = word_end_half_ascii
kind_of WordStartHalfUnicode = word_start_half_unicode
kind_of WordEndHalfUnicode = word_end_half_unicode

-- two kinds are one
abbrev pub is_same_kind : model.Look → model.Look → Bool
is_same_kind a b = look_number a == look_number b
