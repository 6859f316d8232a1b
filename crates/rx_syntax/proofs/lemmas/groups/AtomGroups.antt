-- Atoms have no groups.
use Rattle.std.proofs.Common.{ℕ, List, Option}
use Rattle.rx_model.specs.Expression.{Expression, look}
use Rattle.rx_model.specs.Text.{Class}
use Rattle.rx_model.specs.Look.{Look}
use Rattle.rx_hir.specs.Names.{IsNamed}
use Rattle.rx_hir.specs.Normal.{class_of, literal_of}
use Rattle.rx_hir.proofs.NamedFormsLemmas.{literal-unnamed, class-unnamed}
use Rattle.rx_reader.specs.declared.config.Config.{Config}
use Rattle.rx_reader.specs.declared.flags.Flags.{Flags}
use Rattle.rx_reader.specs.declared.piece.Piece.{Piece}
use Rattle.rx_reader.specs.declared.atom.Atom.{Atom}
use Rattle.rx_syntax.specs.Literals.{character}
use Rattle.rx_syntax.specs.Translation.{atom_of}
use Rattle.rx_syntax.proofs.lemmas.translation.AtomLemmas.{character-is, atom-is}
use Rattle.rx_syntax.proofs.lemmas.translation.GivesLemmas.{Gives}

-- no group stands in the expression
pub record HasNone (h : Expression) : Type 0 where
  pub none : (g : ℕ) (n : Option (List ℕ)) → IsNamed g n h → ⊥

class-none : (members : Class) → HasNone (class_of members)
class-none members = record { none = λ g n. class-unnamed g n members }

literal-none : (bytes : List ℕ) → HasNone (literal_of bytes)
literal-none bytes = record { none = λ g n. literal-unnamed g n bytes }

look-none : (kind : Look) → HasNone (look kind)
unfolding IsNamed
look-none kind = record { none = λ g n s. s }

pub character-none : (flags : Flags) (c : ℕ) → HasNone (character flags c)
character-none = character-is HasNone class-none literal-none look-none

pub atom-none : (config : Config) (flags : Flags) (piece : Piece) (a : Atom) → Gives HasNone (atom_of config flags piece a)
atom-none = atom-is HasNone class-none literal-none look-none
