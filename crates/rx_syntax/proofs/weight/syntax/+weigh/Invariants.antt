use Rattle.std.proofs.Common.{◌+◌, ◌*◌}
use Rattle.rx_reader.specs.Syntax.{syntaxes}
use Rattle.rx_reader.specs.Coded.{syntax_size, greatest_size}
use Rattle.rx_reader.specs.AstViews.{expanded}
use Rattle.rx_syntax.proofs.lemmas.weights.WeighLemmas.{ItemsWeighed, BranchesWeighed}
use Rattle.rx_syntax.proofs.weight.syntax.+weigh.Given as goal

abbrev pub decreases-weigh : goal.decreases-weigh
decreases-weigh l = 2 * syntax_size l.ast.now + 1

abbrev pub decreases-weigh_branches : goal.decreases-weigh_branches
decreases-weigh_branches l = 2 * greatest_size (syntaxes l.branches.now)

abbrev pub decreases-weigh_items : goal.decreases-weigh_items
decreases-weigh_items l = 2 * greatest_size (syntaxes (expanded l.items.now))

abbrev pub invariant-weigh_branches-loop-branch : goal.invariant-weigh_branches-loop-branch
invariant-weigh_branches-loop-branch l = BranchesWeighed l.config l.branches l.branch-index l.whole

abbrev pub invariant-weigh_items-loop-item : goal.invariant-weigh_items-loop-item
invariant-weigh_items-loop-item l = ItemsWeighed l.config l.items l.item-index l.row
