-- Where a worker begins, and what it leaves.
use Rattle.std.specs.Prelude.{◌≡◌, ℕ, ◌<◌, ◌^◌, false, [], IfOk, IfSome}
use Rattle.rx_slots.specs.declared.draws.Draws.{Draws}
use Rattle.rx_slots.specs.declared.draws.DrawSeat.{DrawSeat}
use Rattle.rx_slots.specs.declared.slot_pool.SlotPool.{SlotPool}
use Rattle.rx_slots.specs.declared.slot_pool.SlotSeat.{SlotSeat}
use Rattle.rx_slots.specs.DrawSeats.{IsDrawSeat, draw_view, limit_of}
use Rattle.rx_slots.specs.SlotSeats.{IsSlotSeat, slot_view, slots_of}
use Rattle.rx_workers.specs.declared.place.Place.{Place}
use Rattle.rx_workers.specs.declared.place.Left.{Left}
use Rattle.rx_workers.specs.Answers.{AreFound}

-- so many numbers are drawn, which are fewer than 2 ^ 63
abbrev pub IsLimit : Draws → ℕ → Type 0
IsLimit draws size = (limit_of draws ≡ size) × (size < 2 ^ 63)

-- the seat may draw
abbrev pub IsDrawer : Draws → DrawSeat → Type 0
IsDrawer draws seat = IsDrawSeat draws seat × ((draw_view seat).done ≡ false)

module _ {S : Type 0} (pool : SlotPool S) where
  -- the seat holds no slot
  abbrev pub IsFree : SlotSeat S → Type 0
  IsFree seat = IsSlotSeat pool seat × ((slot_view seat).held ≡ [])

  -- there is such a slot, and the seats are of these objects
  abbrev pub IsPlace : Draws → Place S → Type 0
  IsPlace draws place = (place.slot < slots_of pool) × IsFree place.seat × IsDrawer draws place.drawer

  -- what was found are answers, and the seat is free
  abbrev pub IsLeft : {V : Type 0} → ℕ → (ℕ → ℕ → V → Type 0) → Left V S → Type 0
  IsLeft size Is left = IfOk left.found (λ found. AreFound size Is found.items) × IfSome left.seat IsFree
