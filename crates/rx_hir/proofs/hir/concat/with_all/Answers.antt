use Rattle.std.proofs.Common.{rules, [], ◌∷◌, ◌∙◌, sym, subst}
use Rattle.std.proofs.lemmas.Iterator.Adapters.{YieldsList-from_vec}
use Rattle.std.proofs.lemmas.Iterator.Consumers.{YieldsList-end}
use Rattle.std.proofs.lemmas.List.{map-id}
use Rattle.rx_hir.specs.Joined.{and_then_all}
use Rattle.rx_hir.specs.Rows.{Holds}
use Rattle.rx_hir.proofs.JoinedLemmas.{and_then_all-append}
use Rattle.rx_hir.proofs.hir.concat.with_all.Goals as goal

pub loop-sub-preserved : goal.loop-sub-preserved
loop-sub-preserved c = λ hs h.
    subst (Holds c.in_ok-row.row) (sym (and_then_all-append hs c.loop-sub.yielded (c.in-Some.sub ∷ [])))
    (c.in_ok-row.ensures (and_then_all hs c.loop-sub.yielded) (c.loop-sub.invariant hs h))

pub returns : goal.returns
returns c = λ hs h.
    let end = YieldsList-end (YieldsList-from_vec {s = c.into_iter-sub-iterator.result} c.args.subs.items (search rules) (search rules))
    c.loop-sub.yielded c.loop-sub.sub-iterator c.loop-sub.yielded_by c.next.result c.next.new.self c.in-None.is c.next.ensures.steps in
    subst (λ ys. Holds c.loop-sub.row (and_then_all hs ys)) (sym (map-id c.loop-sub.yielded) ∙ end.0) (c.loop-sub.invariant hs h)
