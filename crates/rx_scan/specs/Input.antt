-- The lines of an input, and which of them are patterns and which are haystacks.
use Rattle.std.specs.Prelude.{◌≡◌, ℕ, Bool, true, false, List, [], ◌∷◌, Ok, ◌==◌}
use Rattle.std.specs.List.{All}
use Rattle.std.specs.Str.{IsUtf8}
use Rattle.rx_reader.specs.Config.{default}
use Rattle.rx_reader.specs.Syntax.{Syntax}
use Rattle.rx_syntax.specs.Patterns.{all_syntaxes}

-- the lines of what follows, with a byte before it, which is a newline or not
abbrev pub line_byte : Bool → ℕ → List (List ℕ) → List (List ℕ)
line_byte true b lines = [] ∷ lines
line_byte false b [] = (b ∷ []) ∷ []
line_byte false b (line ∷ lines) = (b ∷ line) ∷ lines

-- The pieces between newlines. A last newline begins no line.
unfoldable pub lines : List ℕ → List (List ℕ)
lines [] = []
lines (b ∷ bytes) = line_byte (b == 10) b (lines bytes)

-- the lines before the first empty one
unfoldable pub patterns : List (List ℕ) → List (List ℕ)
patterns [] = []
patterns ([] ∷ lines) = []
patterns ((b ∷ bytes) ∷ lines) = (b ∷ bytes) ∷ patterns lines

-- the lines after the first empty one
unfoldable pub haystacks : List (List ℕ) → List (List ℕ)
haystacks [] = []
haystacks ([] ∷ lines) = lines
haystacks ((b ∷ bytes) ∷ lines) = haystacks lines

-- the syntaxes of the text's patterns, and the text of its haystacks
pub record ReadsSections (ss : List Syntax) (rest text : List ℕ) : Type 0 where
  pub syntaxes : all_syntaxes default (patterns (lines text)) ≡ Ok ss
  pub patterns : All IsUtf8 (patterns (lines text))
  pub haystacks : lines rest ≡ haystacks (lines text)
  pub utf8 : IsUtf8 rest
