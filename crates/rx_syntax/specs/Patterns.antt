-- What a list of patterns reads as: where one is translated before the next is read, and where all are read first.
use Rattle.std.specs.Prelude.{◌≡◌, ℕ, ◌+◌, ◌<◌, List, [], ◌∷◌, map, chars, Result, Ok, Err}
use Rattle.rx_model.specs.Expression.{Expression}
use Rattle.rx_reader.specs.Grammar.{read}
use Rattle.rx_reader.specs.Syntax.{Syntax}
use Rattle.rx_reader.specs.declared.config.Config.{Config}
use Rattle.rx_reader.specs.declared.error.SyntaxError.{SyntaxError}
use Rattle.rx_reader.specs.declared.error.ParseError.{ParseError}
use Rattle.rx_reader.specs.declared.error.ParseError.TheVariants.{Syntax as OneRefused, Memory as OneMemory}
use Rattle.rx_syntax.specs.Pattern.{reads}
use Rattle.rx_syntax.specs.Translation.{translated}
use Rattle.rx_syntax.specs.declared.patterns.PatternsError.{PatternsError}
use Rattle.rx_syntax.specs.declared.patterns.PatternsError.TheVariants.{Syntax as Refused, Memory}

-- the number of the first pattern that is refused, and its refusal
pub record Refusal : Type 0 where
  pub pattern : ℕ
  pub error : SyntaxError

-- what pattern p gives, before what those after it give
abbrev pub before : {A : Type 0} → (p : ℕ) → Result A SyntaxError → Result (List A) Refusal → Result (List A) Refusal
before p (Err e) others = Err (record { pattern = p; error = e })
before p (Ok a) (Err refusal) = Err refusal
before p (Ok a) (Ok others) = Ok (a ∷ others)

-- what the patterns from number p on give, or the first refusal
unfoldable pub all_of : {A : Type 0} → (p : ℕ) → List (Result A SyntaxError) → Result (List A) Refusal
all_of p [] = Ok []
all_of p (r ∷ rs) = before p r (all_of (p + 1) rs)

-- the expression of each pattern, or the first refusal: a pattern is translated before the next one is read
unfoldable pub each_read : Config → List (List ℕ) → Result (List Expression) Refusal
each_read config texts = all_of 0 (map (λ text. reads config (chars text)) texts)

-- the syntax of each pattern
unfoldable pub all_syntaxes : Config → List (List ℕ) → Result (List Syntax) Refusal
all_syntaxes config texts = all_of 0 (map (λ text. read config (chars text)) texts)

-- the expression of each syntax
unfoldable pub all_translated : Config → List Syntax → Result (List Expression) Refusal
all_translated config syntaxes = all_of 0 (map (translated config) syntaxes)

abbrev pub translated_if : Config → Result (List Syntax) Refusal → Result (List Expression) Refusal
translated_if config (Err refusal) = Err refusal
translated_if config (Ok syntaxes) = all_translated config syntaxes

-- the expression of each pattern, or the first refusal: of reading, and else of translation, where all are read first
abbrev pub all_read : Config → List (List ℕ) → Result (List Expression) Refusal
all_read config texts = translated_if config (all_syntaxes config texts)

-- the same without the pattern's number
abbrev pub unnumbered : {A : Type 0} → Result A Refusal → Result A SyntaxError
unnumbered (Ok a) = Ok a
unnumbered (Err refusal) = Err refusal.error

-- the error is the refusal that was read, unless memory ran out
abbrev pub RefusesAll : {A : Type 0} → PatternsError → Result A Refusal → Type 0
RefusesAll (Refused pattern error) reading = reading ≡ Err (record { pattern = pattern; error = error })
RefusesAll Memory reading = Unit {0}

-- the error of a pattern, with its number
abbrev pub error_at : (pattern : ℕ) → ParseError → PatternsError
error_at pattern (OneRefused error) = Refused pattern error
error_at pattern OneMemory = Memory

-- the refusal is that of one of so many patterns
abbrev pub IsWithin : PatternsError → ℕ → Type 0
IsWithin (Refused pattern error) count = pattern < count
IsWithin Memory count = Unit {0}
