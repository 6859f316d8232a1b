use Rattle.std.proofs.Common.{◌≡◌, ℕ, List, ◌++◌, flat_map, IfOk, append-nil, ◌∙◌, ap, sym, subst}
use Rattle.std.proofs.lemmas.List.{drop_all}
use Rattle.ucd_case.specs.CaseFolding.{fold_pairs}
use Rattle.rx_class.specs.Folding.{folded}
use Rattle.rx_class.specs.Ranges.{next_scalar, fewest, HaveScalarEnds}
use Rattle.rx_class.proofs.FoldLemmas.{folded-by_ranges}
use Rattle.rx_class.proofs.JoinedLemmas.{joined_to_one}
use Rattle.rx_class.proofs.class.ClassUnicode.case_fold_simple.Goals as goal

pub returns : goal.returns
returns c =
    let rs = c.ranges-ranges.result.now in
    let found = c.loop-low.folded.items in
    let all : found ≡ rs ++ flat_map (joined_to_one fold_pairs) rs =
    sym (append-nil found) ∙ ap (λ (ys : List (ℕ × ℕ)). found ++ flat_map (joined_to_one fold_pairs) ys)
    (sym (drop_all c.loop-low.low-index rs c.loop-low-test.false)) ∙ c.loop-low.invariant in
    let same : rs ≡ c.args.self.now = c.ranges-ranges.ensures.value in
    let ends : HaveScalarEnds rs = subst HaveScalarEnds (sym same) c.ranges-ranges.ensures.fewest.1 in
    let members : fewest next_scalar c.deref-2.result.now ≡ folded c.args.self.now =
    ap (fewest next_scalar) (c.deref-2.ensures.value ∙ all) ∙ folded-by_ranges rs ends ∙ ap folded same in
    subst (λ (xs : List (ℕ × ℕ)). IfOk c.new.result (λ k. k ≡ xs)) members c.new.ensures
