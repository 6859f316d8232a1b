use Rattle.std.proofs.Common.{◌+◌, ◌≤◌, ℕ, List, length, map, arith}
use Rattle.std.specs.Vec.{vec_items}
use Rattle.std.proofs.lemmas.List.Elements.{All-weaker}
use Rattle.rx_prefilter.specs.Places.{IsMarked}
use Rattle.rx_prefilter.proofs.multi.Multi.new.Goals as goal

pub of-jump-requires : goal.of-jump-requires
of-jump-requires c =
    let table = c.in_ok-table.table in
    let P = IsMarked table.places.items table.stride in
    let Q : List ℕ → Type 0 = λ n. table.stride + 1 ≤ length n in
    rw c.deref.ensures.value (All-weaker P Q (λ n m. let long = m.long in omega (arith, long)) (map vec_items table.needles.items)
    c.in_ok-table.ensures.0.marked)
