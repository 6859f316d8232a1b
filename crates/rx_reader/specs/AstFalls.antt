-- A part is smaller than the whole.
use Rattle.std.specs.Prelude.{ℕ, max, ◌+◌, ◌≤◌, List, [], ◌∷◌, ◌++◌, map}
use Rattle.std.proofs.Common.{arith}
use denote.Param.Weighed.{most}
use Rattle.rx_reader.specs.Syntax.{Syntax, literal, syntaxes}
use Rattle.rx_reader.specs.Coded.{syntax_size, greatest_size}
use Rattle.rx_reader.specs.AstViews.{kind_view, expanded}
use Rattle.rx_reader.specs.declared.flags.Flags.{Flags}
use Rattle.rx_reader.specs.declared.ast.AstKind.{AstKind}
use Rattle.rx_reader.specs.declared.ast.AstKind.TheVariants.{Literal, Atom, Repetition, Group, Concat, Alternation, Branch}
use Rattle.rx_reader.specs.declared.ast.Item.{Item}
use Rattle.rx_reader.specs.declared.ast.Item.TheVariants.{Literals, One}
use Rattle.rx_reader.specs.declared.ast.Ast.TheDeep.{deep-AstKind, deep-Item}

pub most_le-greatest_size : (ss : List Syntax) → most (λ s. syntax_size s + 1) ss ≤ greatest_size (syntaxes ss)
most_le-greatest_size [] = omega arith
most_le-greatest_size (s ∷ ss) = omega (arith, most_le-greatest_size ss)

pub greatest_size-after : (flags : Flags) (cs : List ℕ) (ss : List Syntax)
    → greatest_size (syntaxes ss) ≤ greatest_size (syntaxes (map (literal flags) cs ++ ss))
greatest_size-after flags [] ss = omega arith
greatest_size-after flags (c ∷ cs) ss = omega (arith, greatest_size-after flags cs ss)

pub most_le-expanded : (items : List Item) → most deep-Item items ≤ greatest_size (syntaxes (expanded items))
most_le-expanded [] = omega arith
most_le-expanded (Literals flags run ∷ items) = omega (arith, most_le-expanded items, greatest_size-after flags run.items (expanded items))
most_le-expanded (One item ∷ items) = omega (arith, most_le-expanded items)

pub kind_falls : (kind : AstKind) → max (deep-AstKind kind) 0 ≤ syntax_size (kind_view kind)
kind_falls (Literal flags c) = omega arith
kind_falls (Atom flags piece a) = omega arith
kind_falls (Repetition min max greedy sub) = omega arith
kind_falls (Group kind sub) = omega arith
kind_falls (Concat items) = omega (arith, most_le-expanded items.items)
kind_falls (Alternation branches) = omega (arith, most_le-greatest_size branches.items)
kind_falls (Branch items) = omega (arith, most_le-expanded items.items)
