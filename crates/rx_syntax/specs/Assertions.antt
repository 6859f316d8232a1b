-- Which look-around an assertion stands for.
use Rattle.std.specs.Prelude.{if◌then◌else◌}
use Rattle.rx_model.specs.Look.{Look, start_text, end_text, start_lf, end_lf, start_crlf, end_crlf, word_ascii, word_ascii_negate, word_unicode, word_unicode_negate, word_start_ascii, word_end_ascii, word_start_unicode, word_end_unicode, word_start_half_ascii, word_end_half_ascii, word_start_half_unicode, word_end_half_unicode}
use Rattle.rx_reader.specs.declared.flags.Flags.{Flags}
use Rattle.rx_reader.specs.declared.assertion.AssertionKind.{AssertionKind}
use Rattle.rx_reader.specs.declared.assertion.AssertionKind.TheVariants.{StartLine, EndLine, StartText, EndText, WordBoundary, NotWordBoundary, WordBoundaryStart, WordBoundaryEnd, WordBoundaryStartHalf, WordBoundaryEndHalf}

-- of the text; under `m` of a line, which `\r`, `\n` and both end under `R`, and else the terminator
abbrev pub by_line : Flags → (text line crlf : Look) → Look
by_line flags text line crlf = if flags.multi_line then (if flags.crlf then crlf else line) else text

-- of Unicode's words under `u`, and else of ASCII's
abbrev pub by_word : Flags → (unicode ascii : Look) → Look
by_word flags unicode ascii = if flags.unicode then unicode else ascii

abbrev pub look_of : Flags → AssertionKind → Look
look_of flags StartLine = by_line flags start_text start_lf start_crlf
look_of flags EndLine = by_line flags end_text end_lf end_crlf
look_of flags StartText = start_text
look_of flags EndText = end_text
look_of flags WordBoundary = by_word flags word_unicode word_ascii
look_of flags NotWordBoundary = by_word flags word_unicode_negate word_ascii_negate
look_of flags WordBoundaryStart = by_word flags word_start_unicode word_start_ascii
look_of flags WordBoundaryEnd = by_word flags word_end_unicode word_end_ascii
look_of flags WordBoundaryStartHalf = by_word flags word_start_half_unicode word_start_half_ascii
look_of flags WordBoundaryEndHalf = by_word flags word_end_half_unicode word_end_half_ascii
