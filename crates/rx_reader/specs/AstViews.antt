-- What the program's syntax stands for.
use Rattle.std.specs.Prelude.{ℕ, ◌≤◌, List, [], ◌∷◌, ◌++◌, map, IfSome}
use Rattle.rx_reader.specs.Syntax.{Syntax, literal, atom, repeated, group, cat, alt, syntaxes}
use Rattle.rx_reader.specs.declared.flags.Flags.{Flags}
use Rattle.rx_reader.specs.declared.ast.AstKind.{AstKind}
use Rattle.rx_reader.specs.declared.ast.AstKind.TheVariants.{Literal, Atom, Repetition, Group, Concat, Alternation, Branch}
use Rattle.rx_reader.specs.declared.ast.Item.{Item}
use Rattle.rx_reader.specs.declared.ast.Item.TheVariants.{Literals, One}

-- the items one after another, where each character of a run is one
abbrev pub expanded : List Item → List Syntax
expanded [] = []
expanded (Literals flags run ∷ items) = map (literal flags) run.items ++ expanded items
expanded (One item ∷ items) = item ∷ expanded items

-- the items, and then a run of characters
abbrev pub with_run : List Item → Flags → List ℕ → List Syntax
with_run items flags run = expanded items ++ map (literal flags) run

-- one branch, of these items
abbrev pub only_branch : List Item → Syntax
only_branch items = alt (syntaxes (cat (syntaxes (expanded items)) ∷ []))

abbrev pub kind_view : AstKind → Syntax
kind_view (Literal flags c) = literal flags c
kind_view (Atom flags piece a) = atom flags piece a
kind_view (Repetition min max greedy sub) = repeated min max greedy sub.value
kind_view (Group kind sub) = group kind sub.value
kind_view (Concat items) = cat (syntaxes (expanded items.items))
kind_view (Alternation branches) = alt (syntaxes branches.items)
kind_view (Branch items) = only_branch items.items

-- the counts of a repetition are in order
abbrev pub IsWellFormed : AstKind → Type 0
IsWellFormed (Repetition min max greedy sub) = IfSome max (λ m. min ≤ m)
IsWellFormed _ = Unit {0}

-- a character with its flags
abbrev pub literal_of : Flags × ℕ → Syntax
literal_of c = literal c.0 c.1
