-- What `.`, an escape for a class and a class in brackets mean: under `u` a class of scalars, and else of bytes.
use Rattle.std.specs.Prelude.{ℕ, Bool, false, not, ◌&&◌, ◌||◌, nat_le, List, [], ◌∷◌, Option, Some, None, Result, Ok, if◌then◌else◌}
use Rattle.rx_model.specs.Text.{scalar_ranges, byte_ranges}
use Rattle.rx_model.specs.Expression.{Expression}
use Rattle.rx_class.specs.Ranges.{next_scalar, next_byte, fewest, is_ascii}
use Rattle.rx_class.specs.Scalars.{complement}
use Rattle.rx_class.specs.Bytes.{byte_complement, byte_folded}
use Rattle.rx_class.specs.Folding.{folded}
use Rattle.rx_sets.specs.Members.{scalars_where}
use Rattle.rx_sets.specs.Perl.{is_perl_char, ascii_kind}
use Rattle.rx_sets.specs.Ascii.{ascii_ranges}
use Rattle.rx_sets.specs.Property.{property}
use Rattle.rx_hir.specs.Normal.{class_of}
use Rattle.rx_reader.specs.Config.{terminator_of, utf8_of}
use Rattle.rx_reader.specs.Reading.{◌>>=◌}
use Rattle.rx_reader.specs.declared.config.Config.{Config}
use Rattle.rx_reader.specs.declared.flags.Flags.{Flags}
use Rattle.rx_reader.specs.declared.piece.Piece.{Piece}
use Rattle.rx_reader.specs.declared.error.SyntaxError.{SyntaxError}
use Rattle.rx_reader.specs.declared.error.SyntaxErrorKind.TheVariants as kind
use Rattle.rx_reader.specs.declared.class_item.ClassCharacter.{ClassCharacter}
use Rattle.rx_reader.specs.declared.class_item.ClassItem.{ClassItem}
use Rattle.rx_reader.specs.declared.class_item.ClassItem.TheVariants.{Range, Perl, Posix, Property}
use Rattle.rx_syntax.specs.Refused.{refused, gathered}
use Rattle.rx_sets.specs.declared.perl.ClassPerlKind.{ClassPerlKind}

-- Scalars.

-- with each character that shares a simple folding with one, where `i` is on; and then those that are left,
-- where the class is negated
abbrev pub scalars_under : Flags → (negated : Bool) → List (ℕ × ℕ) → List (ℕ × ℕ)
scalars_under flags negated members =
    let all = if flags.case_insensitive then folded members else members in
    if negated then complement all else all

-- the set, if Unicode has one of that name
abbrev pub scalars_named : Flags → Piece → (negated : Bool) → Option (List (ℕ × ℕ)) → Result (List (ℕ × ℕ)) SyntaxError
scalars_named flags piece negated None = refused kind.Property piece
scalars_named flags piece negated (Some members) = Ok (scalars_under flags negated members)

-- the scalars of an item
abbrev pub item_scalars : Flags → ClassItem → Result (List (ℕ × ℕ)) SyntaxError
item_scalars flags (Range low high) = Ok ((low.character, high.character) ∷ [])
item_scalars flags (Perl kind negated) = Ok (scalars_under flags negated (scalars_where (is_perl_char kind)))
item_scalars flags (Posix kind negated) = Ok (scalars_under flags negated (fewest next_scalar (ascii_ranges kind)))
item_scalars flags (Property negated piece name) = scalars_named flags piece negated (property name)

-- those of all items
abbrev pub all_scalars : Flags → List ClassItem → Result (List (ℕ × ℕ)) SyntaxError
all_scalars flags items = gathered (item_scalars flags) items

abbrev pub scalar_class : List (ℕ × ℕ) → Expression
scalar_class members = class_of (scalar_ranges members)

-- Bytes.

-- with the other case of each ASCII letter, where `i` is on; and then those of the 256 that are left, where the
-- class is negated
abbrev pub bytes_under : Flags → (negated : Bool) → List (ℕ × ℕ) → List (ℕ × ℕ)
bytes_under flags negated members =
    let all = if flags.case_insensitive then byte_folded members else members in
    if negated then byte_complement all else all

-- a character of a class stands for a byte: an ASCII character, or a byte that is written by two digits
abbrev pub is_byte : ClassCharacter → Bool
is_byte c = nat_le c.character (if c.is_hex_byte then 0xFF else 0x7F)

-- the bytes of an item of the class that is the piece
abbrev pub item_bytes : Flags → Piece → ClassItem → Result (List (ℕ × ℕ)) SyntaxError
item_bytes flags piece (Range low high) =
    if is_byte low && is_byte high then Ok ((low.character, high.character) ∷ []) else refused kind.UnicodeOff piece
item_bytes flags piece (Perl kind negated) = Ok (bytes_under flags negated (fewest next_byte (ascii_ranges (ascii_kind kind))))
item_bytes flags piece (Posix kind negated) = Ok (bytes_under flags negated (fewest next_byte (ascii_ranges kind)))
item_bytes flags piece (Property negated own name) = refused kind.UnicodeOff piece

-- those of all items
abbrev pub all_bytes : Flags → Piece → List ClassItem → Result (List (ℕ × ℕ)) SyntaxError
all_bytes flags piece items = gathered (item_bytes flags piece) items

-- the class of these bytes, which is refused where matches are to be UTF-8 and one is above 7F
abbrev pub byte_class : Config → Piece → List (ℕ × ℕ) → Result Expression SyntaxError
byte_class config piece members =
    if utf8_of config && not (is_ascii members) then refused kind.Utf8 piece else Ok (class_of (byte_ranges members))

-- The atoms.

-- `\d` and its like
abbrev pub perl_class : Config → Flags → Piece → ClassPerlKind → (negated : Bool) → Result Expression SyntaxError
perl_class config flags piece kind negated =
    let scalars = Ok (scalar_class (scalars_under flags negated (scalars_where (is_perl_char kind)))) in
    let bytes = byte_class config piece (bytes_under flags negated (fewest next_byte (ascii_ranges (ascii_kind kind)))) in
    if flags.unicode then scalars else bytes

-- `\p{name}` and its like
abbrev pub property_class : Flags → Piece → (name : List ℕ) → (negated : Bool) → Result Expression SyntaxError
property_class flags piece name negated =
    let scalars = scalars_named flags piece negated (property name) >>= λ members. Ok (scalar_class members) in
    if flags.unicode then scalars else refused kind.UnicodeOff piece

-- the items between brackets
abbrev pub bracketed : Config → Flags → Piece → (negated : Bool) → List ClassItem → Result Expression SyntaxError
bracketed config flags piece negated items =
    let scalars = all_scalars flags items >>= λ ranges. Ok (scalar_class (scalars_under flags negated (fewest next_scalar ranges))) in
    let bytes = all_bytes flags piece items >>= λ ranges. byte_class config piece (bytes_under flags negated (fewest next_byte ranges)) in
    if flags.unicode then scalars else bytes

-- what `.` leaves out: nothing under `s`, `\r` and `\n` under `R`, and else the line terminator
abbrev pub line_ends : Config → Flags → List (ℕ × ℕ)
line_ends config flags =
    if flags.dot_matches_new_line then [] else
    if flags.crlf then (13, 13) ∷ (10, 10) ∷ [] else (terminator_of config, terminator_of config) ∷ []

-- the line terminator counts, and is no ASCII character
abbrev pub has_odd_terminator : Config → Flags → Bool
has_odd_terminator config flags =
    not (flags.dot_matches_new_line || flags.crlf) && not (nat_le (terminator_of config) 0x7F)

-- `.`
abbrev pub dot : Config → Flags → Piece → Result Expression SyntaxError
dot config flags piece =
    let ends = line_ends config flags in
    let scalars = Ok (scalar_class (complement (fewest next_scalar ends))) in
    let bytes = byte_class config piece (byte_complement (fewest next_byte ends)) in
    if flags.unicode then (if has_odd_terminator config flags then refused kind.LineTerminator piece else scalars) else bytes

-- `\x` with two digits: the character under `u`, and else the byte
abbrev pub hex_byte : Config → Flags → Piece → (c : ℕ) → Result Expression SyntaxError
hex_byte config flags piece c =
    if nat_le c 0xFF then byte_class config piece (bytes_under flags false ((c, c) ∷ [])) else refused kind.UnicodeOff piece
