use Rattle.std.proofs.Common.{rules, ℕ, ◌+◌, Option, sym, subst}
use mathlib.Core.Option.{none}
use Rattle.atomic_table.specs.Table.{Me, step, rest, Allows}
use Rattle.rx_slots.specs.declared.slot_pool.SlotView.{SlotView}
use Rattle.rx_slots.specs.Slots.{Turns, Puts}
use Rattle.rx_slots.proofs.SlotLemmas.{puts_slot}
use Rattle.rx_slots.proofs.slot_pool.SlotPool.put.Goals as goal

pub store-requires : goal.store-requires
store-requires g c =
    let slots : ℕ = c.args.self.now.table.shared.table_id.slots in
    let id : ℕ = c.exchange-empty.new.seat.id in
    let before : Me (Option g.row.T.Denot) SlotView = c.args.seat.now.seat.me in (
      search rules,
      search rules,
      subst
          (λ (me : Me (Option g.row.T.Denot) SlotView). Allows Turns slots id me c.args.slot (λ _. c.args.turn + 1)
          (λ _. Puts (step slots c.args.slot (c.args.turn + 1) 0 none) me (c.args.turn + 1)))
          (sym c.exchange-empty.ensures.3)
          (puts_slot slots id c.args.slot c.args.turn before.0 c.requires.held.0 c.args.value (rest before.1) c.requires.slot c.requires.held.1),
    )
