-- How the values of the parser stand to those of the grammar.
use Rattle.std.specs.Prelude.{◌≡◌, ℕ, ◌<◌, List, [], Result, Ok, MatchResult, chars, length}
use Rattle.rx_reader.specs.declared.cursor.Cursor.{Cursor}
use Rattle.rx_reader.specs.declared.piece.Piece.{Piece}
use Rattle.rx_reader.specs.declared.error.SyntaxError.{SyntaxError}
use Rattle.rx_reader.specs.declared.error.ParseError.{ParseError}
use Rattle.rx_reader.specs.Reading.{Place, past}
pub use Rattle.rx_reader.specs.Refusal.{Refuses}

abbrev pub place : Cursor → Place
place c = record { text = chars c.rest.now; at = c.at; groups = c.groups; names = c.names }

abbrev pub unread : Cursor → ℕ
unread c = length (chars c.rest.now)

abbrev pub start_of : List ℕ → Place
start_of text = record { text = text; at = 0; groups = 0; names = [] }

-- what was read is this and ends there, unless memory ran out
abbrev pub Reads : {A : Type 0} → Result A ParseError → Result (A × Place) SyntaxError → Place → Type 0
Reads result reading p = MatchResult result (λ a. reading ≡ Ok (a, p)) (λ e. Refuses e reading)

-- the same through a view of the value
abbrev pub ReadsAs : {A B : Type 0} → (A → B) → Result A ParseError → Result (B × Place) SyntaxError → Place → Type 0
ReadsAs view result reading p = MatchResult result (λ a. reading ≡ Ok (view a, p)) (λ e. Refuses e reading)

-- the piece of the character at a place
abbrev pub IsPieceAt : Piece → Place → Type 0
IsPieceAt piece p = (piece.start ≡ p.at) × (piece.end ≡ (past p).at)

-- a group more can be counted
abbrev pub HasRoom : Cursor → Type 0
HasRoom c = c.groups < c.at
