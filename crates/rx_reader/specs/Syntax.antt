-- A pattern as it is written.
use Rattle.std.specs.Prelude.{ℕ, ◌+◌, max, Bool, List, [], ◌∷◌, Option}
use Rattle.rx_reader.specs.declared.flags.Flags.{Flags}
use Rattle.rx_reader.specs.declared.piece.Piece.{Piece}
use Rattle.rx_reader.specs.declared.atom.Atom.{Atom}
use Rattle.rx_reader.specs.declared.group_kind.GroupKind.{GroupKind}

mutual
  -- each atom with the flags that stand there
  pub data Syntax : Type 0 where
    -- a character that stands for itself
    literal : Flags → ℕ → Syntax
    -- any other atom, with its piece
    atom : Flags → Piece → Atom → Syntax
    repeated : (min : ℕ) → (max : Option ℕ) → (greedy : Bool) → Syntax → Syntax
    group : GroupKind → Syntax → Syntax
    -- any number of items
    cat : Syntaxes → Syntax
    -- one or more branches
    alt : Syntaxes → Syntax

  pub data Syntaxes : Type 0 where
    nil : Syntaxes
    cons : Syntax → Syntaxes → Syntaxes

abbrev pub syntaxes : List Syntax → Syntaxes
syntaxes [] = nil
syntaxes (s ∷ ss) = cons s (syntaxes ss)

-- A repetition or a group is one deeper than its body, all else is as deep as its deepest part.
abbrev mutual
  pub depth : Syntax → ℕ
  depth (literal flags c) = 0
  depth (atom flags piece a) = 0
  depth (repeated min max greedy body) = depth body + 1
  depth (group kind body) = depth body + 1
  depth (cat items) = deepest items
  depth (alt branches) = deepest branches

  pub deepest : Syntaxes → ℕ
  deepest nil = 0
  deepest (cons s ss) = max (depth s) (deepest ss)
