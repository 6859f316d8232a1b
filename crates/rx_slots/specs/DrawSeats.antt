-- The seats of `Draws`.
use Rattle.std.specs.Prelude.{◌≡◌, ℕ}
use Rattle.rx_slots.specs.declared.draws.DrawView.{DrawView}
use Rattle.rx_slots.specs.declared.draws.Draws.{Draws}
use Rattle.rx_slots.specs.declared.draws.DrawSeat.{DrawSeat}

-- what a seat knows
abbrev pub draw_view : DrawSeat → DrawView
draw_view seat = seat.seat.me.0

-- the number at which the draws end
abbrev pub limit_of : Draws → ℕ
limit_of draws = draws.limit

-- the seat is one of this object
abbrev pub IsDrawSeat : Draws → DrawSeat → Type 0
IsDrawSeat draws seat = (seat.seat.table_id ≡ draws.table.shared.table_id) × (seat.seat.me.0.limit ≡ draws.limit)
