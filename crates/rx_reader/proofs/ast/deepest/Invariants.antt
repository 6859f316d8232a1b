use Rattle.std.proofs.Common.{◌≡◌, drop, max}
use Rattle.rx_reader.specs.Syntax.{syntaxes, deepest}
use Rattle.rx_reader.proofs.ast.deepest.Given as goal

abbrev pub invariant-loop-ast : goal.invariant-loop-ast
invariant-loop-ast l =
    max l.most (deepest (syntaxes (drop l.ast-index l.asts))) ≡ deepest (syntaxes l.asts)
