use Rattle.std.proofs.Common.{◌≡◌, ℕ, List, ◌++◌, flat_map, IfOk, append-nil, ◌∙◌, ap, sym, subst}
use Rattle.std.proofs.lemmas.List.{drop_all}
use Rattle.rx_class.specs.Bytes.{other_cases, byte_folded}
use Rattle.rx_class.specs.Ranges.{next_byte, fewest}
use Rattle.rx_class.proofs.ByteLemmas.{byte_folded-is}
use Rattle.rx_class.proofs.class.ClassBytes.case_fold_simple.Goals as goal

pub returns : goal.returns
returns c =
    let rs = c.deref-low-items.result.now in
    let found = c.loop-low.folded.items in
    let all : found ≡ rs ++ flat_map other_cases rs =
    sym (append-nil found) ∙ ap (λ (ys : List (ℕ × ℕ)). found ++ flat_map other_cases ys) (sym (drop_all c.loop-low.low-index rs c.loop-low-test.false))
    ∙ c.loop-low.invariant in
    let same : rs ≡ c.args.self.now = c.deref-low-items.ensures.value ∙ c.self.view_is in
    let members : fewest next_byte c.deref-2.result.now ≡ byte_folded c.args.self.now =
    ap (fewest next_byte) (c.deref-2.ensures.value ∙ all) ∙ byte_folded-is rs ∙ ap byte_folded same in
    subst (λ (xs : List (ℕ × ℕ)). IfOk c.new.result (λ k. k ≡ xs)) members c.new.ensures
