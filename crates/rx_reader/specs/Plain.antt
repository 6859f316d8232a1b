-- Characters that stand for themselves, and those that do so after a backslash.
use Rattle.std.specs.Prelude.{ℕ, Bool, ◌&&◌, List, [], ◌∷◌, ◌++◌, map, flat_map, codes, if◌then◌else◌}
use Rattle.std.specs.List.{list_any}
use Rattle.std.specs.Char.{is_whitespace}
use Rattle.rx_reader.specs.declared.flags.Flags.{Flags}
use Rattle.rx_reader.specs.Reading.{◌∈◌}
use Rattle.rx_reader.specs.Syntax.{Syntax, literal, cat, alt, syntaxes}

-- the characters that mean something else than themselves somewhere in a pattern
abbrev pub is_meta : ℕ → Bool
is_meta c = c ∈ "\\.+*?()|[]{}^$#&-~"

-- the character, after a backslash if it is such a one
abbrev pub escaped_one : ℕ → List ℕ
escaped_one c = if is_meta c then codes "\\" ++ c ∷ [] else c ∷ []

-- the text in which each such character stands after a backslash
abbrev pub escaped_text : List ℕ → List ℕ
escaped_text cs = flat_map escaped_one cs

-- white space stands in the text, and is skipped
abbrev pub has_skipped : Flags → List ℕ → Bool
has_skipped flags cs = flags.ignore_whitespace && list_any is_whitespace cs

-- these characters one after another under these flags, and nothing else
abbrev pub characters : Flags → List ℕ → Syntax
characters flags cs = alt (syntaxes (cat (syntaxes (map (literal flags) cs)) ∷ []))
