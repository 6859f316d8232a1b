use Rattle.std.proofs.Common.{◌≡◌, ◌+◌, ◌∷◌, [], ◌++◌, length, take, set, get_or, sym, ◌∙◌, ap, arith, length-set}
use Rattle.std.specs.Prelude.{None}
use Rattle.std.proofs.lemmas.List.{get_or_default, take_all, take_more, take_more_set}
use Rattle.rx_engines.proofs.slots.copy.Goals as goal

pub returns-then-k-from : goal.returns-then-k-from
returns-then-k-from c =
    let k = c.loop-k.k in
    let to = c.loop-k.to in
    let from = c.args.from.now in
    let last = c.index-from-k-then-k-from.result in
    let read : last ≡ get_or from k None = c.index-from-k-then-k-from.is ∙ get_or_default from k _ _ (omega arith) in
    let size = length-set to k last in
    let same = c.loop-k.invariant.same in
    let one : k + 1 ≡ length from = omega arith in
    sym (take_all (k + 1) (set to k last) (omega arith))
    ∙ take_more_set to k last (omega arith)
    ∙ ap (λ row. row ++ last ∷ []) c.loop-k.invariant.copied
    ∙ ap (λ slot. take k from ++ slot ∷ []) read
    ∙ sym (take_more from k None (omega arith))
    ∙ take_all (k + 1) from (omega arith)
