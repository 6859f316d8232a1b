-- How a refusal stands to what a pattern reads as, and how its kind is written.
use Rattle.std.specs.Prelude.{◌≡◌, ℕ, List, Result, Err, codes}
use Rattle.rx_reader.specs.declared.error.SyntaxError.{SyntaxError}
use Rattle.rx_reader.specs.declared.error.SyntaxErrorKind.{SyntaxErrorKind}
use Rattle.rx_reader.specs.declared.error.SyntaxErrorKind.TheVariants.{UnclosedGroup, UnopenedGroup, UnclosedClass, ClassRange, RepeatNothing, RepeatCount, Escape, GroupName, GroupNameTwice, Flag, NestLimit, Unsupported, Utf8, Property, UnicodeOff, LineTerminator}
use Rattle.rx_reader.specs.declared.error.ParseError.{ParseError}
use Rattle.rx_reader.specs.declared.error.ParseError.TheVariants.{Syntax as Refused, Memory}

-- the error is the refusal that was read, unless memory ran out
abbrev pub Refuses : {A : Type 0} → ParseError → Result A SyntaxError → Type 0
Refuses (Refused e) reading = reading ≡ Err e
Refuses Memory reading = Unit {0}

abbrev pub text_of : SyntaxErrorKind → List ℕ
text_of UnclosedGroup = codes "unclosed group"
text_of UnopenedGroup = codes "unopened group"
text_of UnclosedClass = codes "unclosed class"
text_of ClassRange = codes "bad class range"
text_of RepeatNothing = codes "repetition of nothing"
text_of RepeatCount = codes "bad repetition count"
text_of Escape = codes "bad escape"
text_of GroupName = codes "bad group name"
text_of GroupNameTwice = codes "group name used twice"
text_of Flag = codes "bad flag"
text_of NestLimit = codes "nesting too deep"
text_of Unsupported = codes "unsupported syntax"
text_of Utf8 = codes "pattern can match invalid UTF-8"
text_of Property = codes "unknown property"
text_of UnicodeOff = codes "Unicode not allowed here"
text_of LineTerminator = codes "line terminator is not ASCII"
