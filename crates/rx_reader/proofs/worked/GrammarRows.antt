-- What whole patterns read as, by evaluation of the definitions. The answers were worked out from the rules by
-- hand.
use Rattle.std.proofs.Common.{◌≡◌, ℕ, List, [], ◌∷◌, refl}
use Rattle.std.specs.Prelude.{true, false, Some, None, Result, Ok, Err, codes}
use Rattle.unicode.proofs.DerivedComputing.{ucd_derived}
use Rattle.rx_sets.specs.declared.perl.ClassPerlKind.TheVariants.{Digit}
use Rattle.rx_sets.specs.declared.ascii.ClassAsciiKind.TheVariants.{Alpha}
use Rattle.rx_reader.specs.declared.config.Config.{Config}
use Rattle.rx_reader.specs.declared.flags.Flags.{Flags}
use Rattle.rx_reader.specs.declared.piece.Piece.{Piece}
use Rattle.rx_reader.specs.declared.assertion.AssertionKind.TheVariants.{StartLine, EndLine, WordBoundaryStartHalf}
use Rattle.rx_reader.specs.declared.class_item.ClassCharacter.{ClassCharacter}
use Rattle.rx_reader.specs.declared.class_item.ClassItem.TheVariants.{Range, Perl, Posix}
use Rattle.rx_reader.specs.declared.atom.Atom.TheVariants.{HexByte, Dot, Assertion, Bracketed}
use Rattle.rx_reader.specs.declared.group_kind.GroupKind.TheVariants.{NonCapturing, CaptureIndex, CaptureName}
use Rattle.rx_reader.specs.declared.error.SyntaxError.{SyntaxError}
use Rattle.rx_reader.specs.declared.error.SyntaxErrorKind.{SyntaxErrorKind}
use Rattle.rx_reader.specs.declared.error.SyntaxErrorKind.TheVariants.{UnclosedGroup, UnopenedGroup, UnclosedClass, ClassRange, RepeatNothing, RepeatCount, Escape, GroupName, GroupNameTwice, Flag, NestLimit, Unsupported}
use Rattle.rx_reader.specs.Config.{default, unicode_alone}
use Rattle.rx_reader.specs.Syntax.{Syntax, literal, atom, repeated, group, cat, alt, syntaxes, nil, cons}
use Rattle.rx_reader.specs.Reading.{past_while}
use Rattle.rx_reader.specs.Ahead.{past_n, blank_len}
use Rattle.rx_reader.specs.Flags.{letters_after, read_flags}
use Rattle.rx_reader.specs.Names.{read_name}
use Rattle.rx_reader.specs.Groups.{number_after}
use Rattle.rx_reader.specs.Openings.{named, flagged, opening}
use Rattle.rx_reader.specs.Counts.{read_number, read_max, read_counts, operator}
use Rattle.rx_reader.specs.Escapes.{digits, hex_digits, hex_in_braces, hex, octal_digits, property_in_braces, property, one_letter, boundary, lettered, escape}
use Rattle.rx_reader.specs.Classes.{posix_name, posix, member, class_range, item_at, class_item, class_items, class}
use Rattle.rx_reader.specs.Grammar.{opens, escaped, bracketed, token_of, token, repetitions, branches, read}

-- one branch of these items
abbrev row : List Syntax → Syntax
row items = alt (cons (cat (syntaxes items)) nil)

abbrev plain : ℕ → Syntax
plain c = literal unicode_alone c

abbrev piece : ℕ → ℕ → Piece
piece start end = record { start = start; end = end }

-- these flags with `u`
abbrev folding : Flags
folding = record unicode_alone { case_insensitive = true }

abbrev spaced : Flags
spaced = record unicode_alone { ignore_whitespace = true }

abbrev swapped : Flags
swapped = record unicode_alone { swap_greed = true }

-- no flag at all
abbrev none : Flags
none = record unicode_alone { unicode = false }

abbrev limited : ℕ → Config
limited limit = record default { nest_limit = limit }

abbrev with_octal : Config
with_octal = record default { octal = true }

abbrev hyphen : ClassCharacter
hyphen = record { character = 45; is_hex_byte = false }

abbrev refused : SyntaxErrorKind → ℕ → ℕ → Result Syntax SyntaxError
refused kind start end = Err (record { kind = kind; start = start; end = end })

-- Characters and groups.

items_rows :
    (read default (codes "") ≡ Ok (row [])) ×
    (read default (codes "a|") ≡ Ok (alt (cons (cat (syntaxes (plain 97 ∷ []))) (cons (cat (syntaxes [])) nil)))) ×
    (read default (codes "(a)(?:b)") ≡ Ok (row (group (CaptureIndex (number_after 0)) (row (plain 97 ∷ [])) ∷ group NonCapturing (row (plain 98 ∷ [])) ∷ []))) ×
    (read default (codes "((a)b)(c)") ≡ Ok (row (group (CaptureIndex (number_after 0))
    (row (group (CaptureIndex (number_after 1)) (row (plain 97 ∷ [])) ∷ plain 98 ∷ []))
    ∷ group (CaptureIndex (number_after 2)) (row (plain 99 ∷ [])) ∷ []))) ×
    (read default (codes "^.$") ≡ Ok (row (atom unicode_alone (piece 0 1) (Assertion StartLine) ∷ atom unicode_alone (piece 1 2) Dot
    ∷ atom unicode_alone (piece 2 3) (Assertion EndLine) ∷ [])))
unfolding read branches repetitions token token_of opens escaped bracketed opening named flagged read_flags letters_after read_name operator read_counts read_number read_max past_n blank_len past_while escape lettered boundary one_letter property property_in_braces octal_digits hex hex_in_braces hex_digits digits class class_items class_item item_at class_range member posix posix_name
items_rows = (refl, refl, refl, refl, refl)

-- Flags.

flags_rows :
    (read default (codes "(?i-s:a)") ≡ Ok (row (group NonCapturing (row (literal folding 97 ∷ [])) ∷ []))) ×
    (read default (codes "(?i-s:a)b") ≡ Ok (row (group NonCapturing (row (literal folding 97 ∷ [])) ∷ plain 98 ∷ []))) ×
    (read default (codes "(?:(?i)a|b)c") ≡ Ok (row (group NonCapturing (alt
    (cons (cat (syntaxes (literal folding 97 ∷ []))) (cons (cat (syntaxes (literal folding 98 ∷ []))) nil))) ∷ plain 99 ∷ []))) ×
    (read default (codes "a(?i)b") ≡ Ok (row (plain 97 ∷ literal folding 98 ∷ []))) ×
    (read default (codes "(?x) a b # c") ≡ Ok (row (literal spaced 97 ∷ literal spaced 98 ∷ []))) ×
    (read default (codes "(?-u:\\xff)") ≡ Ok (row (group NonCapturing (row (atom none (piece 5 9) (HexByte 255) ∷ [])) ∷ [])))
unfolding read branches repetitions token token_of opens escaped bracketed opening named flagged read_flags letters_after read_name operator read_counts read_number read_max past_n blank_len past_while escape lettered boundary one_letter property property_in_braces octal_digits hex hex_in_braces hex_digits digits class class_items class_item item_at class_range member posix posix_name
flags_rows = (refl, refl, refl, refl, refl, refl)

-- Repetitions.

repetitions_rows :
    (read default (codes "a{2,3}?") ≡ Ok (row (repeated 2 (Some 3) false (plain 97) ∷ []))) ×
    (read default (codes "a{2}b{3,}") ≡ Ok (row (repeated 2 (Some 2) true (plain 97) ∷ repeated 3 None true (plain 98) ∷ []))) ×
    (read default (codes "(?U)a*b+?") ≡ Ok (row (repeated 0 None false (literal swapped 97) ∷ repeated 1 None true (literal swapped 98) ∷ []))) ×
    (read default (codes "(?x)a* ?") ≡ Ok (row (repeated 0 (Some 1) true (repeated 0 None true (literal spaced 97)) ∷ []))) ×
    (read default (codes "(?x)a{ 2 } ?") ≡ Ok (row (repeated 2 (Some 2) false (literal spaced 97) ∷ [])))
unfolding read branches repetitions token token_of opens escaped bracketed opening named flagged read_flags letters_after read_name operator read_counts read_number read_max past_n blank_len past_while escape lettered boundary one_letter property property_in_braces octal_digits hex hex_in_braces hex_digits digits class class_items class_item item_at class_range member posix posix_name
repetitions_rows = (refl, refl, refl, refl, refl)

-- Escapes and classes.

atoms_rows :
    (read default (codes "\\b{start-half}") ≡ Ok (row (atom unicode_alone (piece 0 14) (Assertion WordBoundaryStartHalf) ∷ []))) ×
    (read default (codes "\\x{1F600}") ≡ Ok (row (plain 128512 ∷ []))) ×
    (read with_octal (codes "\\141b") ≡ Ok (row (plain 97 ∷ plain 98 ∷ []))) ×
    (read default (codes "[[:^alpha:]\\d-]") ≡ Ok (row (atom unicode_alone (piece 0 15)
    (Bracketed false (Posix Alpha true ∷ Perl Digit false ∷ Range hyphen hyphen ∷ [])) ∷ [])))
unfolding read branches repetitions token token_of opens escaped bracketed opening named flagged read_flags letters_after read_name operator read_counts read_number read_max past_n blank_len past_while escape lettered boundary one_letter property property_in_braces octal_digits hex hex_in_braces hex_digits digits class class_items class_item item_at class_range member posix posix_name
atoms_rows = (refl, refl, refl, refl)

-- Names.

names_rows :
    (read default (codes "(?P<a.b[0]>x)") ≡ Ok (row (group (CaptureName (number_after 0) (codes "a.b[0]")) (row (plain 120 ∷ [])) ∷ []))) ×
    (read default (codes "(?<_>a)(?<_>b)") ≡ refused GroupNameTwice 10 11) ×
    (read default (codes "(?P<_") ≡ refused GroupName 4 5)
unfolding read branches repetitions token token_of opens escaped bracketed opening named flagged read_flags letters_after read_name operator read_counts read_number read_max past_n blank_len past_while escape lettered boundary one_letter property property_in_braces octal_digits hex hex_in_braces hex_digits digits class class_items class_item item_at class_range member posix posix_name ucd_derived
names_rows = (refl, refl, refl)

-- Refusals of groups.

refused_groups_rows :
    (read default (codes "(") ≡ refused UnclosedGroup 0 1) ×
    (read default (codes "a(b(c)") ≡ refused UnclosedGroup 1 2) ×
    (read default (codes "(?i") ≡ refused UnclosedGroup 0 1) ×
    (read default (codes ")") ≡ refused UnopenedGroup 0 1) ×
    (read default (codes "a)b") ≡ refused UnopenedGroup 1 2) ×
    (read default (codes "(a))(?z") ≡ refused UnopenedGroup 3 4) ×
    (read default (codes "(?z)") ≡ refused Flag 2 3) ×
    (read default (codes "a(?ii)") ≡ refused Flag 4 5) ×
    (read default (codes "(?i-)") ≡ refused Flag 4 5) ×
    (read default (codes "(?=a)") ≡ refused Unsupported 0 3)
unfolding read branches repetitions token token_of opens escaped bracketed opening named flagged read_flags letters_after read_name operator read_counts read_number read_max past_n blank_len past_while escape lettered boundary one_letter property property_in_braces octal_digits hex hex_in_braces hex_digits digits class class_items class_item item_at class_range member posix posix_name
refused_groups_rows = (refl, refl, refl, refl, refl, refl, refl, refl, refl, refl)

-- Refusals of operators.

refused_operators_rows :
    (read default (codes "*") ≡ refused RepeatNothing 0 1) ×
    (read default (codes "a|+") ≡ refused RepeatNothing 2 3) ×
    (read default (codes "(?i)?") ≡ refused RepeatNothing 4 5) ×
    (read default (codes "(?:{2})") ≡ refused RepeatNothing 3 4) ×
    (read default (codes "{,3}") ≡ refused Unsupported 0 2) ×
    (read default (codes "a{,3}") ≡ refused Unsupported 1 3) ×
    (read default (codes "a{2,1}") ≡ refused RepeatCount 1 6) ×
    (read default (codes "a{") ≡ refused RepeatCount 1 2) ×
    (read default (codes "ab{ 2}") ≡ refused RepeatCount 2 3)
unfolding read branches repetitions token token_of opens escaped bracketed opening named flagged read_flags letters_after read_name operator read_counts read_number read_max past_n blank_len past_while escape lettered boundary one_letter property property_in_braces octal_digits hex hex_in_braces hex_digits digits class class_items class_item item_at class_range member posix posix_name
refused_operators_rows = (refl, refl, refl, refl, refl, refl, refl, refl, refl)

-- Refusals of atoms.

refused_atoms_rows :
    (read default (codes "\\") ≡ refused Escape 0 1) ×
    (read default (codes "a\\q") ≡ refused Escape 1 2) ×
    (read default (codes "\\1") ≡ refused Unsupported 0 2) ×
    (read default (codes "[a") ≡ refused UnclosedClass 0 1) ×
    (read default (codes "a[^") ≡ refused UnclosedClass 1 2) ×
    (read default (codes "[b-a]") ≡ refused ClassRange 1 4) ×
    (read default (codes "a[\\d-z]") ≡ refused ClassRange 2 6) ×
    (read default (codes "[a&&b]") ≡ refused Unsupported 2 4)
unfolding read branches repetitions token token_of opens escaped bracketed opening named flagged read_flags letters_after read_name operator read_counts read_number read_max past_n blank_len past_while escape lettered boundary one_letter property property_in_braces octal_digits hex hex_in_braces hex_digits digits class class_items class_item item_at class_range member posix posix_name
refused_atoms_rows = (refl, refl, refl, refl, refl, refl, refl, refl)

-- The nest limit.

limit_rows :
    (read (limited 1) (codes "((a))") ≡ refused NestLimit 1 2) ×
    (read (limited 1) (codes "(a*)") ≡ refused NestLimit 3 4) ×
    (read (limited 1) (codes "a*{2}?") ≡ refused NestLimit 2 6) ×
    (read (limited 0) (codes "a(?i:b)") ≡ refused NestLimit 1 5) ×
    (read (limited 1) (codes "(a)b*") ≡ Ok (row (group (CaptureIndex (number_after 0)) (row (plain 97 ∷ [])) ∷ repeated 0 None true (plain 98) ∷ [])))
unfolding read branches repetitions token token_of opens escaped bracketed opening named flagged read_flags letters_after read_name operator read_counts read_number read_max past_n blank_len past_while escape lettered boundary one_letter property property_in_braces octal_digits hex hex_in_braces hex_digits digits class class_items class_item item_at class_range member posix posix_name
limit_rows = (refl, refl, refl, refl, refl)
