use Rattle.std.proofs.Common.{◌≡◌, true, [], length, ap, sym, ◌∙◌}
use Rattle.std.specs.List.{list_all}
use Rattle.rx_literal.specs.Trim.{preferred, picked}
use Rattle.rx_literal.proofs.lemmas.trimming.AloneLemmas.{picked-all}
use Rattle.rx_literal.proofs.trim.preferred.Goals as goal

pub returns-then-are_all_set : goal.returns-then-are_all_set
returns-then-are_all_set c =
    let ls = c.args.literals.items in
    let ms = c.in_ok-marks.marks.items in
    let same = c.deref.ensures.value in
    let all : list_all (λ mark. mark) ms ≡ true =
    sym (c.are_all_set.ensures ∙ ap (list_all (λ mark. mark)) c.deref-2.ensures.value) ∙ c.if-are_all_set.true in
    sym (picked-all ls ms (c.in_ok-marks.ensures.long ∙ ap length same) all)
    ∙ ap (λ ys. picked ys ms) (sym same) ∙ c.in_ok-marks.ensures.picked ∙ ap (preferred []) same
