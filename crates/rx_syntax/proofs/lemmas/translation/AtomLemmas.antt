-- What is so of each class, each literal and each look-around is so of each atom.
use Rattle.std.proofs.Common.{ℕ, Bool, true, false, not, ◌&&◌, List, [], ◌∷◌}
use Rattle.std.specs.Prelude.{if◌then◌else◌, nat_le, encode_utf8}
use Rattle.rx_model.specs.Expression.{Expression, look}
use Rattle.rx_model.specs.Text.{Class, scalar_ranges, byte_ranges}
use Rattle.rx_model.specs.Look.{Look}
use Rattle.rx_class.specs.Ranges.{next_scalar, next_byte, fewest, is_ascii}
use Rattle.rx_class.specs.Scalars.{complement}
use Rattle.rx_class.specs.Bytes.{byte_folded, byte_complement}
use Rattle.rx_class.specs.Folding.{folded}
use Rattle.rx_sets.specs.Members.{scalars_where}
use Rattle.rx_sets.specs.Perl.{is_perl_char, ascii_kind}
use Rattle.rx_sets.specs.Ascii.{ascii_ranges}
use Rattle.rx_sets.specs.Property.{property}
use Rattle.rx_hir.specs.Normal.{class_of, literal_of}
use Rattle.rx_reader.specs.declared.config.Config.{Config}
use Rattle.rx_reader.specs.declared.flags.Flags.{Flags}
use Rattle.rx_reader.specs.declared.piece.Piece.{Piece}
use Rattle.rx_reader.specs.declared.atom.Atom.{Atom}
use Rattle.rx_reader.specs.declared.atom.Atom.TheVariants.{HexByte, Dot, Assertion, Perl, Property, Bracketed}
use Rattle.rx_reader.specs.Config.{utf8_of}
use Rattle.rx_syntax.specs.Literals.{character}
use Rattle.rx_syntax.specs.Assertions.{look_of}
use Rattle.rx_syntax.specs.Classes.{scalars_under, scalars_named, scalar_class, all_scalars, all_bytes, byte_class, bytes_under, line_ends, has_odd_terminator}
use Rattle.rx_syntax.specs.Translation.{atom_of}
use Rattle.rx_syntax.proofs.lemmas.translation.GivesLemmas.{Gives, refused, gives, bind, test, any}

module _ (P : Expression → Type 0) (classes : (members : Class) → P (class_of members)) (literals : (bytes : List ℕ) → P (literal_of bytes))
    (looks : (kind : Look) → P (look kind)) where
  either : (b : Bool) {x y : Expression} → P x → P y → P (if b then x else y)
  either true x y = x
  either false x y = y

  pub character-is : (flags : Flags) (c : ℕ) → P (character flags c)
  character-is flags c =
      let text : P (literal_of (encode_utf8 c)) = literals (encode_utf8 c) in
      either flags.case_insensitive
      (either flags.unicode (classes (scalar_ranges (folded ((c, c) ∷ [])))) (either (nat_le c 0x7F) (classes (byte_ranges (byte_folded ((c, c) ∷ [])))) text))
      text

  byte_class-is : (config : Config) (piece : Piece) (members : List (ℕ × ℕ)) → Gives P (byte_class config piece members)
  byte_class-is config piece members = test (utf8_of config && not (is_ascii members)) (λ _. refused) (λ _. gives (classes (byte_ranges members)))

  scalar_class-is : (members : List (ℕ × ℕ)) → P (scalar_class members)
  scalar_class-is members = classes (scalar_ranges members)

  pub atom-is : (config : Config) (flags : Flags) (piece : Piece) (a : Atom) → Gives P (atom_of config flags piece a)
  atom-is config flags piece (HexByte c) =
      test flags.unicode (λ _. gives (character-is flags c)) (λ _.
      test (nat_le c 0xFF) (λ _. byte_class-is config piece (bytes_under flags false ((c, c) ∷ []))) (λ _. refused))
  atom-is config flags piece Dot =
      test flags.unicode (λ _. test (has_odd_terminator config flags) (λ _. refused)
      (λ _. gives (scalar_class-is (complement (fewest next_scalar (line_ends config flags)))))) (λ _.
      byte_class-is config piece (byte_complement (fewest next_byte (line_ends config flags))))
  atom-is config flags piece (Assertion kind) = gives (looks (look_of flags kind))
  atom-is config flags piece (Perl kind negated) =
      test flags.unicode (λ _. gives (scalar_class-is (scalars_under flags negated (scalars_where (is_perl_char kind))))) (λ _.
      byte_class-is config piece (bytes_under flags negated (fewest next_byte (ascii_ranges (ascii_kind kind)))))
  atom-is config flags piece (Property name negated) =
      test flags.unicode (λ _. bind _ (any (scalars_named flags piece negated (property name))) (λ members _. gives (scalar_class-is members))) (λ _. refused)
  atom-is config flags piece (Bracketed negated items) =
      test flags.unicode (λ _. bind _ (any (all_scalars flags items))
      (λ ranges _. gives (scalar_class-is (scalars_under flags negated (fewest next_scalar ranges))))) (λ _.
      bind _ (any (all_bytes flags piece items)) (λ ranges _. byte_class-is config piece (bytes_under flags negated (fewest next_byte ranges))))
