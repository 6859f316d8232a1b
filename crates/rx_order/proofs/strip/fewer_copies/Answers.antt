use Rattle.std.proofs.Common.{[], ◌∷◌, ◌++◌, ◌∙◌, ap, refl}
use Rattle.std.proofs.lemmas.Result.{err_from_is_err_and}
use Rattle.rx_hir.specs.Normal.{concat_of, repetition_of}
use Rattle.rx_order.proofs.strip.fewer_copies.Goals as goal

pub clone-requires : goal.clone-requires
clone-requires c = tt

pub concat-requires : goal.concat-requires
concat-requires c = tt

pub repetition-before-requires : goal.repetition-before-requires
repetition-before-requires c = c.requires

pub returns-in_err-clone : goal.returns-in_err-clone
returns-in_err-clone c =
    let p = err_from_is_err_and c.from_residual.result c.from_residual.ensures.1 in
    rw p.1 tt

pub returns-in_err-concat : goal.returns-in_err-concat
returns-in_err-concat c =
    let p = err_from_is_err_and c.from_residual-in_err-concat.result c.from_residual-in_err-concat.ensures.1 in
    rw p.1 tt

pub returns-in_err-new : goal.returns-in_err-new
returns-in_err-new c =
    let p = err_from_is_err_and c.from_residual-in_err-new.result c.from_residual-in_err-new.ensures.1 in
    rw p.1 tt

pub returns-in_err-parts : goal.returns-in_err-parts
returns-in_err-parts c =
    let p = err_from_is_err_and c.from_residual-in_err-parts.result c.from_residual-in_err-parts.ensures.1 in
    rw p.1 tt

pub returns-in_err-push : goal.returns-in_err-push
returns-in_err-push c =
    let p = err_from_is_err_and c.from_residual-in_err-push.result c.from_residual-in_err-push.ensures.1 in
    rw p.1 tt

pub returns-in_err-push-2 : goal.returns-in_err-push-2
returns-in_err-push-2 c =
    let p = err_from_is_err_and c.from_residual-in_err-push-2.result c.from_residual-in_err-push-2.ensures.1 in
    rw p.1 tt

pub returns : goal.returns
returns c =
    let last = c.args.last in
    let before = c.repetition-before.result in
    let items = c.in_ok-push-2.ensures.items
    ∙ ap (λ xs. xs ++ last ∷ []) (c.in_ok-push.ensures.items ∙ ap (λ xs. xs ++ before ∷ []) c.in_ok-parts.ensures.items) in
    let sub = c.in_ok-new.ensures.ok ∙ c.in_ok-clone.ensures.cases ∙ c.deref.ensures in
    let is = c.repetition-before.ensures ∙ ap (λ h. repetition_of c.args.min c.args.max c.args.copies.now.greedy h) sub in
    ((c.in_ok-concat.ensures ∙ ap concat_of (items ∙ ap (λ h. h ∷ last ∷ []) is), refl), refl)
