-- Refusals of what was read, from left to right.
use Rattle.std.specs.Prelude.{List, [], ◌∷◌, ◌++◌, Result, Ok, Err}
use Rattle.rx_reader.specs.Reading.{◌>>=◌}
use Rattle.rx_reader.specs.declared.error.SyntaxError.{SyntaxError}
use Rattle.rx_reader.specs.declared.error.SyntaxErrorKind.{SyntaxErrorKind}
use Rattle.rx_reader.specs.declared.piece.Piece.{Piece}

abbrev pub error_at : SyntaxErrorKind → Piece → SyntaxError
error_at kind piece = record { kind = kind; start = piece.start; end = piece.end }

-- the piece is refused
abbrev pub refused : {A : Type 0} → SyntaxErrorKind → Piece → Result A SyntaxError
refused kind piece = Err (error_at kind piece)

-- what each gives, one after another, or the first refusal
abbrev pub gathered : {I A : Type 0} → (I → Result (List A) SyntaxError) → List I → Result (List A) SyntaxError
gathered f [] = Ok []
gathered f (i ∷ is) = f i >>= λ first. gathered f is >>= λ others. Ok (first ++ others)

-- some before what is still to come
abbrev pub before : {A : Type 0} → List A → Result (List A) SyntaxError → Result (List A) SyntaxError
before xs rest = rest >>= λ ys. Ok (xs ++ ys)
