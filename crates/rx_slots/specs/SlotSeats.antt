-- The seats of a `SlotPool`.
use Rattle.std.specs.Prelude.{◌≡◌, ℕ, ◌%◌}
use Rattle.rx_slots.specs.declared.slot_pool.SlotView.{SlotView}
use Rattle.rx_slots.specs.declared.slot_pool.SlotPool.{SlotPool}
use Rattle.rx_slots.specs.declared.slot_pool.SlotSeat.{SlotSeat}
use Rattle.rx_slots.specs.Slots.{Carries, IsNotBelow, taken, refused}

module _ {T : Type 0} where
  -- what a seat knows
  abbrev pub slot_view : SlotSeat T → SlotView
  slot_view seat = seat.seat.me.0

  -- how many slots there are
  abbrev pub slots_of : SlotPool T → ℕ
  slots_of pool = pool.table.shared.table_id.slots

  -- the seat is one of this pool
  abbrev pub IsSlotSeat : SlotPool T → SlotSeat T → Type 0
  IsSlotSeat pool seat = (seat.seat.table_id ≡ pool.table.shared.table_id) × Carries seat.seat.me

-- the slot is the seat's, at a turn that is odd and not below what it had seen of the slot
abbrev pub IsTaken : SlotView → (k turn : ℕ) → SlotView → Type 0
IsTaken v k turn w = (turn % 2 ≡ 1) × IsNotBelow turn k v.seen × (w ≡ taken v k turn)

-- the slot was found at a turn that is odd and not below what the seat had seen of it
abbrev pub IsRefused : SlotView → (k turn : ℕ) → SlotView → Type 0
IsRefused v k turn w = (turn % 2 ≡ 1) × IsNotBelow turn k v.seen × (w ≡ refused v k turn)
