-- A part of a list is smaller than the list.
use Rattle.std.proofs.Common.{ℕ, zero, suc, ◌<◌, ◌≤◌, List, [], ◌∷◌, length, get_or, arith}
use Rattle.rx_reader.specs.Syntax.{Syntax, syntaxes}
use Rattle.rx_reader.specs.Coded.{syntax_size, greatest_size}
use Rattle.rx_reader.specs.AstViews.{expanded}
use Rattle.rx_reader.specs.declared.ast.Item.{Item}
use Rattle.rx_reader.specs.declared.ast.Item.TheVariants.{Literals, One}
use Rattle.rx_reader.specs.AstFalls.{greatest_size-after}
use Rattle.rx_syntax.specs.ItemViews.{item_size}

pub size-branch : (ss : List Syntax) (i : ℕ) (d : Syntax) → i < length ss → suc (syntax_size (get_or ss i d)) ≤ greatest_size (syntaxes ss)
size-branch [] i d lt = absurd (omega arith)
size-branch (s ∷ ss) zero d lt = omega arith
size-branch (s ∷ ss) (suc i) d lt = omega (arith, size-branch ss i d (omega arith))

pub size-item : (items : List Item) (i : ℕ) (d : Item) → i < length items → item_size (get_or items i d) ≤ greatest_size (syntaxes (expanded items))
size-item [] i d lt = absurd (omega arith)
size-item (Literals flags run ∷ items) zero d lt = omega arith
size-item (One item ∷ items) zero d lt = omega arith
size-item (Literals flags run ∷ items) (suc i) d lt = omega (arith, size-item items i d (omega arith), greatest_size-after flags run.items (expanded items))
size-item (One item ∷ items) (suc i) d lt = omega (arith, size-item items i d (omega arith))
