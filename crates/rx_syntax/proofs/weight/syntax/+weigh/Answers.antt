use Rattle.std.proofs.Common.{◌≡◌, ℕ, suc, ◌+◌, ◌*◌, List, ◌++◌, get_or, flat_map, ◌∙◌, ap, sym, subst, arith}
use Rattle.std.specs.Prelude.{Some, Result}
use Rattle.rx_model.specs.Expression.{Expression}
use Rattle.rx_reader.specs.Syntax.{syntaxes}
use Rattle.rx_reader.specs.Coded.{syntax_size, greatest_size}
use Rattle.rx_reader.specs.AstViews.{expanded, kind_view, IsWellFormed}
use Rattle.rx_reader.specs.declared.error.SyntaxError.{SyntaxError}
use Rattle.rx_hir.specs.Normal.{parts_of}
use Rattle.rx_syntax.specs.ItemViews.{item_size, run_parts, row_of}
use Rattle.rx_syntax.specs.Row.{IsRow}
use Rattle.rx_syntax.specs.Translation.{translated}
use Rattle.rx_syntax.specs.Weight.{IsWeightOf, Weighs}
use Rattle.rx_syntax.specs.declared.weight.Weight.{Weight}
use Rattle.rx_syntax.proofs.lemmas.translation.SizeLemmas.{size-branch, size-item}
use Rattle.rx_syntax.proofs.lemmas.weights.WeighLemmas.{ItemsWeighed, BranchesWeighed, weighs-copies, weighs-group, repetition-is, group-is, row-is, choice-is, branch-is, only-weighs, items-run, items-one, items-end, branches-more}
use Rattle.rx_syntax.proofs.weight.syntax.+weigh.Goals as goal
use Rattle.rx_syntax.proofs.weight.syntax.+weigh.Goals.{weigh_items-in-Literals+in_ok-row-in-Literals, weigh_items-in-One+in_ok-weigh-in-One}

pub weigh-returns-in_ok-body-in-Repetition : goal.weigh-returns-in_ok-body-in-Repetition
weigh-returns-in_ok-body-in-Repetition t c =
    let config = c.args.config.now in
    let r = c.in-Repetition in
    let shown = c.deref.result.now in
    let body = c.in_ok-body-in-Repetition.body in
    let order = subst IsWellFormed r.is c.kind.ensures.sound in
    let own = weighs-copies (translated config shown) body r.min r.max r.greedy c.in_ok-body-in-Repetition.ensures order in
    subst (λ (w : Weight). IsWeightOf (translated config c.args.ast.now) w) (sym c.repeated.ensures)
    (repetition-is config r.min r.max r.greedy shown r.sub.value c.args.ast.now _ c.deref.ensures (sym (ap kind_view r.is) ∙ c.kind.ensures.value) own)

pub weigh-returns-in_ok-body-in-Group : goal.weigh-returns-in_ok-body-in-Group
weigh-returns-in_ok-body-in-Group t c =
    let config = c.args.config.now in
    let r = c.in-Group in
    let shown = c.deref-in-Group.result.now in
    let body = c.in_ok-body-in-Group.body in
    let own = weighs-group (translated config shown) body r.kind c.in_ok-body-in-Group.ensures in
    subst (λ (w : Weight). IsWeightOf (translated config c.args.ast.now) w) (sym c.grouped.ensures)
    (group-is config r.kind shown r.sub.value c.args.ast.now _ c.deref-in-Group.ensures (sym (ap kind_view r.is) ∙ c.kind.ensures.value) own)

pub weigh-returns-in-Concat : goal.weigh-returns-in-Concat
weigh-returns-in-Concat t c =
    let same =
    row-is c.args.config.now c.in-Concat.items.items c.deref-in-Concat.result.now c.args.ast.now c.deref-in-Concat.ensures.value
    (sym (ap kind_view c.in-Concat.is) ∙ c.kind.ensures.value) in
    subst (λ (r : Result Expression SyntaxError). Weighs c.weigh_items.result r) same c.weigh_items.ensures

pub weigh-returns-in-Alternation : goal.weigh-returns-in-Alternation
weigh-returns-in-Alternation t c =
    let same =
    choice-is c.args.config.now c.in-Alternation.branches.items c.deref-in-Alternation.result.now c.args.ast.now c.deref-in-Alternation.ensures.value
    (sym (ap kind_view c.in-Alternation.is) ∙ c.kind.ensures.value) in
    subst (λ (r : Result Expression SyntaxError). Weighs c.weigh_branches.result r) same c.weigh_branches.ensures

pub weigh-returns-in-Branch : goal.weigh-returns-in-Branch
weigh-returns-in-Branch t c =
    let config = c.args.config.now in
    let shown = c.deref-in-Branch.result.now in
    let same =
    branch-is config c.in-Branch.items.items shown c.args.ast.now c.deref-in-Branch.ensures.value (sym (ap kind_view c.in-Branch.is) ∙ c.kind.ensures.value) in
    only-weighs c.weigh_items-in-Branch.result (row_of config shown) (translated config c.args.ast.now) same c.weigh_items-in-Branch.ensures

pub weigh_branches-weigh-requires : goal.weigh_branches-weigh-requires
weigh_branches-weigh-requires t c =
    let smaller = size-branch c.args.branches.now c.loop-branch.branch-index c.branch-item.result c.loop-branch-test.true in
    let same : syntax_size c.branch-item.result ≡ syntax_size (get_or c.args.branches.now c.loop-branch.branch-index c.branch-item.result) =
    ap syntax_size c.branch-item.is in
    let start : 2 * greatest_size (syntaxes c.args.branches.now) ≡ t = c.decreases in
    (omega arith, tt)

pub weigh_branches-loop-branch-preserved : goal.weigh_branches-loop-branch-preserved
weigh_branches-loop-branch-preserved t c =
    let config = c.args.config.now in
    let branches = c.args.branches.now in
    let k = c.loop-branch.branch-index in
    subst (λ (w : Weight). BranchesWeighed config branches (k + 1) (Some w)) (sym c.either_of.ensures)
    (branches-more config branches k c.branch-item.result c.loop-branch.whole c.in_ok-weigh.field-0 c.loop-branch.invariant c.loop-branch-test.true
    c.branch-item.is c.in_ok-weigh.ensures)

pub weigh_items-weigh-requires : goal.weigh_items-weigh-requires
weigh_items-weigh-requires t c =
    let smaller = size-item c.args.items.now c.loop-item.item-index c.item-item.result c.loop-item-test.true in
    let same : item_size c.item-item.result ≡ item_size (get_or c.args.items.now c.loop-item.item-index c.item-item.result) = ap item_size c.item-item.is in
    let own : item_size c.item-item.result ≡ suc (syntax_size c.in-One.ast) = ap item_size c.in-One.is in
    let start : 2 * greatest_size (syntaxes (expanded c.args.items.now)) ≡ t = c.decreases in
    (omega arith, tt)

pub weigh_items-loop-item-preserved : goal.weigh_items-loop-item-preserved
weigh_items-loop-item-preserved t c =
    let config = c.args.config.now in
    let items = c.args.items.now in
    let k = c.loop-item.item-index in
    let item = c.item-item.result in
    let lt = c.loop-item-test.true in
    elim c.match-item.branch as (λ _. ItemsWeighed config items (k + 1) c.match-item.row) [
      | weigh_items-in-Literals+in_ok-row-in-Literals w ↦
          let flags = w.in-Literals.flags in
          let row = w.in_ok-row-in-Literals.row in
          subst (λ (x : Weight). ItemsWeighed config items (k + 1) x) (sym w.row-is)
          (items-run config items k item c.loop-item.row row flags w.in-Literals.run' c.loop-item.invariant lt c.item-item.is w.in-Literals.is
          (λ ps so. subst (λ (xs : List ℕ). IsRow (ps ++ flat_map parts_of (run_parts flags xs)) row) w.deref.ensures.value
          (w.in_ok-row-in-Literals.ensures ps so)))
      | weigh_items-in-One+in_ok-weigh-in-One w ↦
          let own = w.in_ok-weigh-in-One.field-0 in
          subst (λ (x : Weight). ItemsWeighed config items (k + 1) x) (sym (w.row-is ∙ w.followed-row.ensures))
          (items-one config items k item c.loop-item.row own w.in-One.ast c.loop-item.invariant lt c.item-item.is w.in-One.is w.in_ok-weigh-in-One.ensures)
    ]

pub weigh_items-returns : goal.weigh_items-returns
weigh_items-returns t c = items-end c.args.config.now c.args.items.now c.loop-item.item-index c.loop-item.row c.loop-item.invariant c.loop-item-test.false
