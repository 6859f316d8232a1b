-- The expression that a pattern stands for, as it is written, or the first refusal from left to right.
use Rattle.std.specs.Prelude.{List, [], ◌∷◌, Some, None, Result, Ok, if◌then◌else◌}
use Rattle.std.specs.Int.NonZero.{non_zero_usize_get}
use lib.Utf8.{encodes}
use Rattle.rx_model.specs.Expression.{Expression, look, capture}
use Rattle.rx_hir.specs.Normal.{repetition_of, concat_of, alternation_of}
use Rattle.rx_reader.specs.Reading.{◌>>=◌}
use Rattle.rx_reader.specs.Syntax.{Syntax, Syntaxes, literal, atom, repeated, group, cat, alt, nil, cons}
use Rattle.rx_reader.specs.declared.config.Config.{Config}
use Rattle.rx_reader.specs.declared.flags.Flags.{Flags}
use Rattle.rx_reader.specs.declared.piece.Piece.{Piece}
use Rattle.rx_reader.specs.declared.error.SyntaxError.{SyntaxError}
use Rattle.rx_reader.specs.declared.atom.Atom.{Atom}
use Rattle.rx_reader.specs.declared.atom.Atom.TheVariants.{HexByte, Dot, Assertion, Perl, Property, Bracketed}
use Rattle.rx_reader.specs.declared.group_kind.GroupKind.{GroupKind}
use Rattle.rx_reader.specs.declared.group_kind.GroupKind.TheVariants.{NonCapturing, CaptureIndex, CaptureName}
use Rattle.rx_syntax.specs.Literals.{character}
use Rattle.rx_syntax.specs.Assertions.{look_of}
use Rattle.rx_syntax.specs.Classes.{perl_class, property_class, bracketed, dot, hex_byte}

-- an atom under the flags at it
abbrev pub atom_of : Config → Flags → Piece → Atom → Result Expression SyntaxError
atom_of config flags piece (HexByte c) = if flags.unicode then Ok (character flags c) else hex_byte config flags piece c
atom_of config flags piece Dot = dot config flags piece
atom_of config flags piece (Assertion kind) = Ok (look (look_of flags kind))
atom_of config flags piece (Perl kind negated) = perl_class config flags piece kind negated
atom_of config flags piece (Property name negated) = property_class flags piece name negated
atom_of config flags piece (Bracketed negated items) = bracketed config flags piece negated items

-- a group that captures has a number, and some have a name
abbrev pub group_of : GroupKind → Expression → Expression
group_of NonCapturing body = body
group_of (CaptureIndex number) body = capture (non_zero_usize_get number) None body
group_of (CaptureName number name) body = capture (non_zero_usize_get number) (Some (encodes name)) body

abbrev mutual
  pub translated : Config → Syntax → Result Expression SyntaxError
  translated config (literal flags c) = Ok (character flags c)
  translated config (atom flags piece a) = atom_of config flags piece a
  translated config (repeated min max greedy body) = translated config body >>= λ e. Ok (repetition_of min max greedy e)
  translated config (group kind body) = translated config body >>= λ e. Ok (group_of kind e)
  translated config (cat items) = all_translated config items >>= λ es. Ok (concat_of es)
  translated config (alt branches) = all_translated config branches >>= λ es. Ok (alternation_of es)

  pub all_translated : Config → Syntaxes → Result (List Expression) SyntaxError
  all_translated config nil = Ok []
  all_translated config (cons s ss) = translated config s >>= λ e. all_translated config ss >>= λ es. Ok (e ∷ es)
