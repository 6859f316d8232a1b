use Rattle.std.proofs.Common.{◌≡◌, ℕ, List, [], ◌∷◌, ◌++◌, ◌∙◌, ap, map}
use Rattle.std.proofs.lemmas.Result.{IfOk-weaker}
use Rattle.std.specs.Vec.{vec_items}
use Rattle.rx_prefilter.specs.Choices.{served}
use Rattle.rx_strategies.proofs.ChosenLemmas.{one-served}
use Rattle.rx_strategies.proofs.suffix.needle_search.Goals as goal

pub returns : goal.returns
returns c =
    let s = c.args.needle.now in
    let copy = c.in_ok-from_slice.field-0 in
    let list : c.deref.result.now ≡ copy ∷ [] = c.deref.ensures.value ∙ c.in_ok-push.ensures.items ∙ ap (λ xs. xs ++ copy ∷ []) c.in_ok-needles.ensures.items in
    let needles : map vec_items c.deref.result.now ≡ s ∷ [] = ap (map vec_items) list ∙ ap (λ (t : List ℕ). t ∷ []) c.in_ok-from_slice.ensures.items in
    IfOk-weaker c.new.result _ _ (λ made e. e ∙ ap served needles ∙ one-served s c.requires) c.new.ensures
