use Rattle.std.proofs.Common.{◌≡◌, ◌+◌, ◌*◌, drop}
use Rattle.rx_reader.specs.Syntax.{syntaxes}
use Rattle.rx_reader.specs.Coded.{syntax_size, greatest_size}
use Rattle.rx_reader.specs.AstViews.{expanded}
use Rattle.rx_syntax.specs.Refused.{gathered, before}
use Rattle.rx_syntax.specs.ItemViews.{all_parts, branch_parts}
use Rattle.rx_syntax.proofs.translate.+translate.Given as goal

abbrev pub decreases-translate : goal.decreases-translate
decreases-translate l = 2 * syntax_size l.ast.now + 1

abbrev pub decreases-translate_branches : goal.decreases-translate_branches
decreases-translate_branches l = 2 * greatest_size (syntaxes l.branches.now)

abbrev pub decreases-translate_items : goal.decreases-translate_items
decreases-translate_items l = 2 * greatest_size (syntaxes (expanded l.items.now))

abbrev pub invariant-translate_branches-loop-branch : goal.invariant-translate_branches-loop-branch
invariant-translate_branches-loop-branch l =
    before l.subs.items (gathered (branch_parts l.config) (drop l.branch-index l.branches)) ≡ gathered (branch_parts l.config) l.branches

abbrev pub invariant-translate_items-loop-item : goal.invariant-translate_items-loop-item
invariant-translate_items-loop-item l =
    before l.subs.items (all_parts l.config (drop l.item-index l.items)) ≡ all_parts l.config l.items
