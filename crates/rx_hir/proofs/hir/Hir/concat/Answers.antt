use Rattle.std.proofs.Common.{[], ◌∷◌, ◌++◌, ◌∙◌, sym, ap, subst, flat_map}
use Rattle.std.proofs.lemmas.List.{append-nil}
use Rattle.std.proofs.lemmas.Grind.{flat_map-append}
use Rattle.rx_hir.specs.Normal.{joined, parts_of}
use Rattle.rx_hir.specs.Rows.{Holds}
use Rattle.rx_hir.proofs.JoinedLemmas.{joined-append}
use Rattle.rx_hir.proofs.hir.Hir.concat.Goals as goal

pub loop-sub-preserved : goal.loop-sub-preserved
loop-sub-preserved c =
    let before = flat_map parts_of c.loop-sub.yielded in
    let added = parts_of c.in-Some.sub in
    let grown =
    sym (joined-append before added)
    ∙ ap joined (ap (λ ys. before ++ ys) (sym (append-nil added)) ∙ sym (flat_map-append parts_of c.loop-sub.yielded (c.in-Some.sub ∷ []))) in
    subst (Holds c.in_ok-row.row) grown (c.in_ok-row.ensures (joined before) c.loop-sub.invariant)
