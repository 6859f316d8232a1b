use Rattle.std.proofs.Common.{sym, ap, [], ◌∷◌}
use Rattle.rx_reader.specs.declared.ast.Item.{Item}
use Rattle.rx_reader.specs.AstViews.{expanded}
use Rattle.rx_reader.proofs.lemmas.branches.ItemLemmas.{deepest-run}
use Rattle.rx_reader.proofs.ast.Item.depth.Goals as goal

pub returns-in-Literals : goal.returns-in-Literals
returns-in-Literals c = sym (deepest-run c.args.self.now c.in-Literals.flags c.in-Literals.run'.items (ap (λ (i : Item). expanded (i ∷ [])) c.in-Literals.is))
