-- What a configuration asks for.
use Rattle.std.specs.Prelude.{ℕ, Bool, true, false}
use Rattle.rx_reader.specs.declared.config.Config.{Config}
use Rattle.rx_reader.specs.declared.flags.Flags.{Flags}

-- the flags that stand at the start of a pattern
abbrev pub flags_of : Config → Flags
flags_of c = c.flags

-- the byte that ends a line
abbrev pub terminator_of : Config → ℕ
terminator_of c = c.line_terminator

-- all that is matched is to be UTF-8
abbrev pub utf8_of : Config → Bool
utf8_of c = c.utf8

-- how deep groups and repetitions nest at most
abbrev pub limit_of : Config → ℕ
limit_of c = c.nest_limit

-- a backslash and octal digits are a character
abbrev pub octal_of : Config → Bool
octal_of c = c.octal

-- no flag but `u`
abbrev pub unicode_alone : Flags
unicode_alone = record {
  case_insensitive = false;
  multi_line = false;
  dot_matches_new_line = false;
  swap_greed = false;
  unicode = true;
  crlf = false;
  ignore_whitespace = false;
}

abbrev pub default : Config
default = record { flags = unicode_alone; line_terminator = 10; utf8 = true; nest_limit = 250; octal = false }
