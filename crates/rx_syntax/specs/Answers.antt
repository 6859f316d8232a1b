-- How an answer stands to what is asked for.
use Rattle.std.specs.Prelude.{◌≡◌, Result, Ok, MatchResult}
use Rattle.rx_reader.specs.Refusal.{Refuses}
use Rattle.rx_reader.specs.declared.error.ParseError.{ParseError}
use Rattle.rx_reader.specs.declared.error.SyntaxError.{SyntaxError}

-- the answer is what is asked for, or the refusal, or memory ran out
abbrev pub Answers : {A : Type 0} → Result A ParseError → Result A SyntaxError → Type 0
Answers result asked = MatchResult result (λ a. asked ≡ Ok a) (λ e. Refuses e asked)

-- the same, of what is seen of the answer
abbrev pub AnswersAs : {V A : Type 0} → (V → A) → Result V ParseError → Result A SyntaxError → Type 0
AnswersAs view result asked = MatchResult result (λ v. asked ≡ Ok (view v)) (λ e. Refuses e asked)
