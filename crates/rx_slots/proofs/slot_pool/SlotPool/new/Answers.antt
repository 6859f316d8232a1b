use Rattle.std.proofs.Common.{arith, ◌≡◌, ℕ, List, Option, length, replicate, sym, ap, ◌∙◌, subst}
use Rattle.atomic_table.specs.Table.{opening}
use Rattle.rx_slots.specs.Slots.{Turns, new_view}
use Rattle.rx_slots.proofs.SlotLemmas.{opens_slots}
use Rattle.rx_slots.proofs.slot_pool.SlotPool.new.Goals as goal

pub new-requires : goal.new-requires
new-requires g c =
    let count : c.len.result ≡ length c.args.values.items = omega (arith, c.args.values.ok.0, c.len.ensures) in
    let zeros : c.as_slice.result.now ≡ replicate (length c.args.values.items) 0 =
    c.as_slice.ensures.value ∙ c.in_ok-turns.ensures.items_if_clones_equal (λ y h. h) ∙ ap (λ (n : ℕ). replicate n 0) count in
    subst (λ (slots : List (Option g.row.T.Denot)). Turns (opening c.as_slice.result.now slots new_view)) (sym c.in_ok-slots.ensures)
    (opens_slots c.as_slice.result.now c.args.values.items zeros)
