-- What the escapes `\d`, `\s` and `\w` stand for.
use Rattle.std.specs.Prelude.{ℕ, Bool}
use Rattle.unicode.specs.Perl.{is_digit_char, is_space_char, is_word_char}
use Rattle.rx_sets.specs.declared.perl.ClassPerlKind.{ClassPerlKind}
use Rattle.rx_sets.specs.declared.perl.ClassPerlKind.TheVariants as perl
use Rattle.rx_sets.specs.declared.ascii.ClassAsciiKind.{ClassAsciiKind}
use Rattle.rx_sets.specs.declared.ascii.ClassAsciiKind.TheVariants as ascii

-- Unicode's: the decimal numbers, white space, word characters
abbrev pub is_perl_char : ClassPerlKind → ℕ → Bool
is_perl_char perl.Digit = is_digit_char
is_perl_char perl.Space = is_space_char
is_perl_char perl.Word = is_word_char

-- the set of ASCII characters of that name
abbrev pub ascii_kind : ClassPerlKind → ClassAsciiKind
ascii_kind perl.Digit = ascii.Digit
ascii_kind perl.Space = ascii.Space
ascii_kind perl.Word = ascii.Word
