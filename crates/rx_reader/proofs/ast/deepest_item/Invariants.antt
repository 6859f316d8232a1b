use Rattle.std.proofs.Common.{◌≡◌, drop, max}
use Rattle.rx_reader.specs.Syntax.{syntaxes, deepest}
use Rattle.rx_reader.specs.AstViews.{expanded}
use Rattle.rx_reader.proofs.ast.deepest_item.Given as goal

abbrev pub invariant-loop-item : goal.invariant-loop-item
invariant-loop-item l =
    max l.most (deepest (syntaxes (expanded (drop l.item-index l.items)))) ≡ deepest (syntaxes (expanded l.items))
