use Rattle.std.proofs.Common.{◌≡◌, [], ◌∷◌, ◌++◌, false, length, ap, sym, ◌∙◌}
use Rattle.std.specs.Prelude.{if◌then◌else◌, slice_index_or}
use Rattle.std.proofs.lemmas.Iterator.Adapters.{YieldsList-from_vec}
use Rattle.std.proofs.lemmas.Iterator.Consumers.{YieldsList-end}
use Rattle.std.proofs.lemmas.List.{map-id}
use Rattle.std.proofs.lemmas.Result.{IfOk-from_err}
use Rattle.rx_literal.specs.Trim.{picked}
use Rattle.rx_literal.proofs.lemmas.trimming.PickedLemmas.{picked-next, longer}
use Rattle.rx_literal.proofs.trim.picked.Goals as goal

pub loop-literal-preserved : goal.loop-literal-preserved
loop-literal-preserved c =
    let marks = c.args.marks.now in
    let before = c.loop-literal.yielded in
    let l = c.in-Some.literal in
    let is : c.is_marked.result ≡ slice_index_or marks (length before) false
    = c.is_marked.ensures ∙ ap (λ n. slice_index_or marks n false) c.loop-literal.invariant.place in
    record {
      so_far = c.in_ok-keep.ensures ∙ ap (λ ks. ks ++ (if c.is_marked.result then l ∷ [] else [])) c.loop-literal.invariant.so_far
          ∙ picked-next before l marks c.is_marked.result is;
      place = longer before l c.loop-literal.i c.loop-literal.invariant.place;
    }

pub returns-in_err-kept : goal.returns-in_err-kept
returns-in_err-kept c = IfOk-from_err c.from_residual.result _ c.from_residual.ensures.0

pub returns-in_err-keep : goal.returns-in_err-keep
returns-in_err-keep c = IfOk-from_err c.from_residual-in_err-keep.result _ c.from_residual-in_err-keep.ensures.0

pub returns : goal.returns
returns c =
    let gives = c.into_iter-literal-iterator.ensures.into_iter_gives in
    let end = YieldsList-end
    (YieldsList-from_vec {s = c.into_iter-literal-iterator.result} c.args.literals.items gives.0 (gives.1 ∙ c.args.literals.ok.0))
    c.loop-literal.yielded c.loop-literal.literal-iterator c.loop-literal.yielded_by c.next.result c.next.new.self c.in-None.is c.next.ensures.steps in
    let all = sym (map-id c.loop-literal.yielded) ∙ end.0 in
    c.loop-literal.invariant.so_far ∙ ap (λ ls. picked ls c.args.marks.now) all
