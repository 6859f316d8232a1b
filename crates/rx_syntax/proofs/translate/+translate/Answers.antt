use Rattle.std.proofs.Common.{◌≡◌, ℕ, suc, ◌*◌, Bool, List, get_or, ◌∙◌, ap, sym, subst, arith}
use Rattle.std.proofs.lemmas.Result.{err_from_is_err_and}
use Rattle.std.specs.Prelude.{Option, Result, Ok}
use Rattle.rx_model.specs.Expression.{Expression}
use Rattle.rx_hir.specs.Normal.{repetition_of, concat_of, alternation_of}
use Rattle.rx_reader.specs.Reading.{◌>>=◌}
use Rattle.rx_reader.specs.Syntax.{Syntax, repeated, group, cat, alt, syntaxes}
use Rattle.rx_reader.specs.Coded.{syntax_size, greatest_size}
use Rattle.rx_reader.specs.AstViews.{expanded, kind_view, only_branch as written_branch}
use Rattle.rx_reader.specs.declared.config.Config.{Config}
use Rattle.rx_reader.specs.declared.ast.Item.{Item}
use Rattle.rx_reader.specs.declared.error.SyntaxError.{SyntaxError}
use Rattle.rx_reader.specs.declared.group_kind.GroupKind.{GroupKind}
use Rattle.rx_syntax.specs.Answers.{Answers}
use Rattle.rx_syntax.specs.Refused.{gathered}
use Rattle.rx_syntax.specs.Translation.{group_of, translated}
use Rattle.rx_syntax.specs.ItemViews.{all_parts, branch_parts, item_size, only_branch}
use Rattle.rx_syntax.proofs.lemmas.patterns.RefusalLemmas.{refuses-then}
use Rattle.rx_syntax.proofs.lemmas.translation.SizeLemmas.{size-branch, size-item}
use Rattle.rx_syntax.proofs.lemmas.translation.TranslationLemmas.{concat-items, branches-same, branch-items}
use Rattle.rx_syntax.proofs.translate.+translate.Goals as goal

repetition_is : (config : Config) (min : ℕ) (max : Option ℕ) (greedy : Bool) (shown sub s : Syntax) → shown ≡ sub → repeated min max greedy sub ≡ s
    → (translated config shown >>= λ e. Ok (repetition_of min max greedy e)) ≡ translated config s
repetition_is config min max greedy shown sub s same is = ap (λ x. translated config (repeated min max greedy x)) same ∙ ap (translated config) is

group_is : (config : Config) (kind : GroupKind) (shown sub s : Syntax) → shown ≡ sub → group kind sub ≡ s
    → (translated config shown >>= λ e. Ok (group_of kind e)) ≡ translated config s
group_is config kind shown sub s same is = ap (λ x. translated config (group kind x)) same ∙ ap (translated config) is

concat_is : (config : Config) (items shown : List Item) (s : Syntax) → shown ≡ items → cat (syntaxes (expanded items)) ≡ s
    → (all_parts config shown >>= λ es. Ok (concat_of es)) ≡ translated config s
concat_is config items shown s same is =
    ap (λ xs. all_parts config xs >>= λ es. Ok (concat_of es)) same ∙ concat-items config items ∙ ap (translated config) is

alternation_is : (config : Config) (branches shown : List Syntax) (s : Syntax) → shown ≡ branches → alt (syntaxes branches) ≡ s
    → (gathered (branch_parts config) shown >>= λ es. Ok (alternation_of es)) ≡ translated config s
alternation_is config branches shown s same is =
    ap (λ xs. gathered (branch_parts config) xs >>= λ es. Ok (alternation_of es)) same
    ∙ ap (λ r. r >>= λ es. Ok (alternation_of es)) (branches-same config branches) ∙ ap (translated config) is

branch_is : (config : Config) (items shown : List Item) (s : Syntax) → shown ≡ items → written_branch items ≡ s
    → (all_parts config shown >>= λ es. Ok (only_branch es)) ≡ translated config s
branch_is config items shown s same is =
    ap (λ xs. all_parts config xs >>= λ es. Ok (only_branch es)) same ∙ branch-items config items ∙ ap (translated config) is

pub translate-returns-in_ok-character-in-Literal : goal.translate-returns-in_ok-character-in-Literal
translate-returns-in_ok-character-in-Literal t c =
    let is = sym (ap kind_view c.in-Literal.is) ∙ c.kind.ensures.value in
    sym (ap (translated c.args.config.now) is) ∙ ap (λ (h : Expression). Ok h) (sym c.in_ok-character-in-Literal.ensures)

pub translate-returns-in-Atom : goal.translate-returns-in-Atom
translate-returns-in-Atom t c =
    let is = sym (ap kind_view c.in-Atom.is) ∙ c.kind.ensures.value in
    subst (λ (r : Result Expression SyntaxError). Answers c.atom.result r) (ap (translated c.args.config.now) is) c.atom.ensures

pub translate-returns-in_err-body-in-Repetition : goal.translate-returns-in_err-body-in-Repetition
translate-returns-in_err-body-in-Repetition t c =
    let r = c.in-Repetition in
    let config = c.args.config.now in
    let shown = c.deref.result.now in
    let same = repetition_is config r.min r.max r.greedy shown r.sub.value c.args.ast.now c.deref.ensures (sym (ap kind_view r.is) ∙ c.kind.ensures.value) in
    let e = err_from_is_err_and c.from_residual-in_err-body-in-Repetition.result c.from_residual-in_err-body-in-Repetition.ensures.1 in
    rw (e.1, e.2) (refuses-then _ (translated config shown) (λ h. Ok (repetition_of r.min r.max r.greedy h)) _ same c.in_err-body-in-Repetition.ensures)

pub translate-returns-in_ok-repetition-in-Repetition : goal.translate-returns-in_ok-repetition-in-Repetition
translate-returns-in_ok-repetition-in-Repetition t c =
    let r = c.in-Repetition in
    let config = c.args.config.now in
    let shown = c.deref.result.now in
    let same = repetition_is config r.min r.max r.greedy shown r.sub.value c.args.ast.now c.deref.ensures (sym (ap kind_view r.is) ∙ c.kind.ensures.value) in
    sym same ∙ ap (λ x. x >>= λ h. Ok (repetition_of r.min r.max r.greedy h)) c.in_ok-body-in-Repetition.ensures
    ∙ ap (λ (h : Expression). Ok h) (sym c.in_ok-repetition-in-Repetition.ensures)

pub translate-returns-in_err-body-in-Group : goal.translate-returns-in_err-body-in-Group
translate-returns-in_err-body-in-Group t c =
    let r = c.in-Group in
    let config = c.args.config.now in
    let shown = c.deref-in-Group.result.now in
    let same = group_is config r.kind shown r.sub.value c.args.ast.now c.deref-in-Group.ensures (sym (ap kind_view r.is) ∙ c.kind.ensures.value) in
    let e = err_from_is_err_and c.from_residual-in_err-body-in-Group.result c.from_residual-in_err-body-in-Group.ensures.1 in
    rw (e.1, e.2) (refuses-then _ (translated config shown) (λ h. Ok (group_of r.kind h)) _ same c.in_err-body-in-Group.ensures)

pub translate-returns-in_ok-group-in-Group : goal.translate-returns-in_ok-group-in-Group
translate-returns-in_ok-group-in-Group t c =
    let r = c.in-Group in
    let config = c.args.config.now in
    let shown = c.deref-in-Group.result.now in
    let same = group_is config r.kind shown r.sub.value c.args.ast.now c.deref-in-Group.ensures (sym (ap kind_view r.is) ∙ c.kind.ensures.value) in
    sym same ∙ ap (λ x. x >>= λ h. Ok (group_of r.kind h)) c.in_ok-body-in-Group.ensures
    ∙ ap (λ (h : Expression). Ok h) (sym c.in_ok-group-in-Group.ensures)

pub translate-returns-in_err-subs-in-Concat : goal.translate-returns-in_err-subs-in-Concat
translate-returns-in_err-subs-in-Concat t c =
    let shown = c.deref-in-Concat.result.now in
    let config = c.args.config.now in
    let same =
    concat_is config c.in-Concat.items.items shown c.args.ast.now c.deref-in-Concat.ensures.value (sym (ap kind_view c.in-Concat.is) ∙ c.kind.ensures.value) in
    let e = err_from_is_err_and c.from_residual-in_err-subs-in-Concat.result c.from_residual-in_err-subs-in-Concat.ensures.1 in
    rw (e.1, e.2) (refuses-then _ (all_parts config shown) (λ es. Ok (concat_of es)) _ same c.in_err-subs-in-Concat.ensures)

pub translate-returns-in_ok-concat-in-Concat : goal.translate-returns-in_ok-concat-in-Concat
translate-returns-in_ok-concat-in-Concat t c =
    let same =
    concat_is c.args.config.now c.in-Concat.items.items c.deref-in-Concat.result.now c.args.ast.now c.deref-in-Concat.ensures.value
    (sym (ap kind_view c.in-Concat.is) ∙ c.kind.ensures.value) in
    sym same ∙ ap (λ r. r >>= λ es. Ok (concat_of es)) c.in_ok-subs-in-Concat.ensures ∙ ap (λ (h : Expression). Ok h) (sym c.in_ok-concat-in-Concat.ensures)

pub translate-returns-in_err-subs-in-Alternation : goal.translate-returns-in_err-subs-in-Alternation
translate-returns-in_err-subs-in-Alternation t c =
    let shown = c.deref-in-Alternation.result.now in
    let config = c.args.config.now in
    let same =
    alternation_is config c.in-Alternation.branches.items shown c.args.ast.now c.deref-in-Alternation.ensures.value
    (sym (ap kind_view c.in-Alternation.is) ∙ c.kind.ensures.value) in
    let e = err_from_is_err_and c.from_residual-in_err-subs-in-Alternation.result c.from_residual-in_err-subs-in-Alternation.ensures.1 in
    rw (e.1, e.2) (refuses-then _ (gathered (branch_parts config) shown) (λ es. Ok (alternation_of es)) _ same c.in_err-subs-in-Alternation.ensures)

pub translate-returns-in_ok-alternation-in-Alternation : goal.translate-returns-in_ok-alternation-in-Alternation
translate-returns-in_ok-alternation-in-Alternation t c =
    let same =
    alternation_is c.args.config.now c.in-Alternation.branches.items c.deref-in-Alternation.result.now c.args.ast.now c.deref-in-Alternation.ensures.value
    (sym (ap kind_view c.in-Alternation.is) ∙ c.kind.ensures.value) in
    sym same ∙ ap (λ r. r >>= λ es. Ok (alternation_of es)) c.in_ok-subs-in-Alternation.ensures
    ∙ ap (λ (h : Expression). Ok h) (sym c.in_ok-alternation-in-Alternation.ensures)

pub translate-returns-in_err-subs-in-Branch : goal.translate-returns-in_err-subs-in-Branch
translate-returns-in_err-subs-in-Branch t c =
    let shown = c.deref-in-Branch.result.now in
    let config = c.args.config.now in
    let same =
    branch_is config c.in-Branch.items.items shown c.args.ast.now c.deref-in-Branch.ensures.value (sym (ap kind_view c.in-Branch.is) ∙ c.kind.ensures.value) in
    let e = err_from_is_err_and c.from_residual-in_err-subs-in-Branch.result c.from_residual-in_err-subs-in-Branch.ensures.1 in
    rw (e.1, e.2) (refuses-then _ (all_parts config shown) (λ es. Ok (only_branch es)) _ same c.in_err-subs-in-Branch.ensures)

pub translate-returns-in_ok-only_branch-in-Branch : goal.translate-returns-in_ok-only_branch-in-Branch
translate-returns-in_ok-only_branch-in-Branch t c =
    let same =
    branch_is c.args.config.now c.in-Branch.items.items c.deref-in-Branch.result.now c.args.ast.now c.deref-in-Branch.ensures.value
    (sym (ap kind_view c.in-Branch.is) ∙ c.kind.ensures.value) in
    sym same ∙ ap (λ r. r >>= λ es. Ok (only_branch es)) c.in_ok-subs-in-Branch.ensures
    ∙ ap (λ (h : Expression). Ok h) (sym c.in_ok-only_branch-in-Branch.ensures)

pub translate_branches-translate-requires : goal.translate_branches-translate-requires
translate_branches-translate-requires t c =
    let smaller = size-branch c.args.branches.now c.loop-branch.branch-index c.branch-item.result c.loop-branch-test.true in
    let same : syntax_size c.branch-item.result ≡ syntax_size (get_or c.args.branches.now c.loop-branch.branch-index c.branch-item.result) =
    ap syntax_size c.branch-item.is in
    let start : 2 * greatest_size (syntaxes c.args.branches.now) ≡ t = c.decreases in
    (omega arith, tt)

pub translate_items-translate-requires : goal.translate_items-translate-requires
translate_items-translate-requires t c =
    let smaller = size-item c.args.items.now c.loop-item.item-index c.item-item.result c.loop-item-test.true in
    let same : item_size c.item-item.result ≡ item_size (get_or c.args.items.now c.loop-item.item-index c.item-item.result) = ap item_size c.item-item.is in
    let own : item_size c.item-item.result ≡ suc (syntax_size c.in-One.ast) = ap item_size c.in-One.is in
    let start : 2 * greatest_size (syntaxes (expanded c.args.items.now)) ≡ t = c.decreases in
    (omega arith, tt)
