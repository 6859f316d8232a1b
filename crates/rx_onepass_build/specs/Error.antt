-- The texts of refusals.
use Rattle.std.specs.Prelude.{ℕ, List, ◌++◌, codes, decimal}
use Rattle.rx_search.specs.declared.look.Look.{Look}
use Rattle.rx_search.specs.declared.look.Look.TheVariants.{Start, End, StartLF, EndLF, StartCRLF, EndCRLF, WordAscii, WordAsciiNegate, WordUnicode, WordUnicodeNegate, WordStartAscii, WordEndAscii, WordStartUnicode, WordEndUnicode, WordStartHalfAscii, WordEndHalfAscii, WordStartHalfUnicode, WordEndHalfUnicode}
use Rattle.rx_onepass_build.specs.declared.build_error.NotOnePass.{NotOnePass}
use Rattle.rx_onepass_build.specs.declared.build_error.NotOnePass.TheVariants.{Slots, State, Match, Transition}
use Rattle.rx_onepass_build.specs.declared.build_error.BuildError.{BuildError}
use Rattle.rx_onepass_build.specs.declared.build_error.BuildError.TheVariants.{UnsupportedLook, TooManyPatterns, TooManyStates, ExceededSizeLimit, NotOnePass as Ambiguous, Memory}

-- the name of a kind of look-around
abbrev pub name_of : Look → List ℕ
name_of Start = codes "Start"
name_of End = codes "End"
name_of StartLF = codes "StartLF"
name_of EndLF = codes "EndLF"
name_of StartCRLF = codes "StartCRLF"
name_of EndCRLF = codes "EndCRLF"
name_of WordAscii = codes "WordAscii"
name_of WordAsciiNegate = codes "WordAsciiNegate"
name_of WordUnicode = codes "WordUnicode"
name_of WordUnicodeNegate = codes "WordUnicodeNegate"
name_of WordStartAscii = codes "WordStartAscii"
name_of WordEndAscii = codes "WordEndAscii"
name_of WordStartUnicode = codes "WordStartUnicode"
name_of WordEndUnicode = codes "WordEndUnicode"
name_of WordStartHalfAscii = codes "WordStartHalfAscii"
name_of WordEndHalfAscii = codes "WordEndHalfAscii"
name_of WordStartHalfUnicode = codes "WordStartHalfUnicode"
name_of WordEndHalfUnicode = codes "WordEndHalfUnicode"

-- why an NFA is not one-pass
abbrev pub cause_text : NotOnePass → List ℕ
cause_text (Slots given) = codes "too many explicit capturing groups (max is 16)"
cause_text (State state) = codes "multiple epsilon transitions to same state"
cause_text (Match first second) = codes "multiple epsilon transitions to match state"
cause_text (Transition state byte) = codes "conflicting transition"

-- the text of a refusal
abbrev pub text_of : BuildError → List ℕ
text_of (UnsupportedLook look) = codes "one-pass DFA does not support the " ++ name_of look ++ codes " assertion"
text_of (TooManyPatterns limit) = codes "one-pass DFA exceeded a limit of " ++ decimal limit ++ codes " for number of patterns"
text_of (TooManyStates limit) = codes "one-pass DFA exceeded a limit of " ++ decimal limit ++ codes " for number of states"
text_of (ExceededSizeLimit limit size) = codes "one-pass DFA exceeded size limit of " ++ decimal limit ++ codes " during building"
text_of (Ambiguous cause) = codes "one-pass DFA could not be built because pattern is not one-pass: " ++ cause_text cause
text_of Memory = codes "out of memory"
