-- The memory of a simulation as values.
use Rattle.std.proofs.Common.{inl, inr}
use Rattle.std.specs.Prelude.{◌≡◌, ◌⊎◌, ℕ, ◌<◌, List, [], ◌∷◌, length, take, drop, Option, slice_index, slice_index_or, refl}
use Rattle.std.specs.Coded.{Coded, code_by, coded×, coded_ℕ, coded_list, coded_option, coded⊎}
use Rattle.rx_engines.specs.Walk.{Slots}
use Rattle.rx_engines.specs.declared.frame.Frame.{Frame}
use Rattle.rx_engines.specs.declared.frame.Frame.TheVariants.{Explore, Restore}

-- states in order, all below `room`
pub record StateSet : Type 0 where
  pub items : List ℕ
  pub room : ℕ
  -- how great `room` may be
  pub capacity : ℕ

abbrev pub state_set_code : Coded StateSet
state_set_code =
    code_by (List ℕ × (ℕ × ℕ)) (coded× (coded_list coded_ℕ) (coded× coded_ℕ coded_ℕ)) (λ s. (s.items, (s.room, s.capacity)))
    (λ p. record { items = p.0; room = p.1.0; capacity = p.1.1 }) (λ _. refl)

-- each item is below `room`, and its place stands at it
abbrev pub IsSparse : ℕ → List ℕ → List ℕ → Type 0
IsSparse room dense sparse = (k : ℕ) → k < length dense → (slice_index dense k < room) × (slice_index sparse (slice_index dense k) ≡ k)

-- where a match began, and its slots
abbrev pub Row : Type 0
Row = ℕ × Slots

pub record Rows : Type 0 where
  pub items : List Row
  -- how many slots a row has
  pub width : ℕ
  -- how many rows there may be, and how many slots in all
  pub capacity : ℕ
  pub cells : ℕ

abbrev pub rows_code : Coded Rows
rows_code =
    code_by (List Row × (ℕ × (ℕ × ℕ)))
    (coded× (coded_list (coded× coded_ℕ (coded_list (coded_option coded_ℕ)))) (coded× coded_ℕ (coded× coded_ℕ coded_ℕ)))
    (λ r. (r.items, (r.width, (r.capacity, r.cells))))
    (λ p. record { items = p.0; width = p.1.0; capacity = p.1.1.0; cells = p.1.1.1 }) (λ _. refl)

-- a row for each start, with the next `width` cells as its slots
unfoldable pub rows_of : ℕ → List ℕ → Slots → List Row
rows_of width [] cells = []
rows_of width (start ∷ starts) cells = (start, take width cells) ∷ rows_of width starts (drop width cells)

abbrev pub row_at : List Row → ℕ → Row
row_at rows q = slice_index_or rows q (0, [])

-- slots, within a room
pub record Cells : Type 0 where
  pub items : Slots
  pub room : ℕ

abbrev pub cells_code : Coded Cells
cells_code =
    code_by (List (Option ℕ) × ℕ) (coded× (coded_list (coded_option coded_ℕ)) coded_ℕ) (λ c. (c.items, c.room))
    (λ p. record { items = p.0; room = p.1 }) (λ _. refl)

-- frames, the top first, within a room
pub record Frames : Type 0 where
  pub items : List Frame
  pub room : ℕ

abbrev frame_parts : Frame → (ℕ × ℕ) ⊎ (ℕ × Option ℕ)
frame_parts (Explore q i) = inl (q, i)
frame_parts (Restore slot old) = inr (slot, old)

abbrev frame_of : (ℕ × ℕ) ⊎ (ℕ × Option ℕ) → Frame
frame_of (inl p) = Explore p.0 p.1
frame_of (inr p) = Restore p.0 p.1

pub frame_parts_back : (f : Frame) → frame_of (frame_parts f) ≡ f
frame_parts_back (Explore q i) = refl
frame_parts_back (Restore slot old) = refl

abbrev pub frames_code : Coded Frames
frames_code =
    code_by (List Frame × ℕ)
    (coded× (coded_list (code_by ((ℕ × ℕ) ⊎ (ℕ × Option ℕ)) (coded⊎ (coded× coded_ℕ coded_ℕ) (coded× coded_ℕ (coded_option coded_ℕ))) frame_parts frame_of
    frame_parts_back)) coded_ℕ)
    (λ s. (s.items, s.room)) (λ p. record { items = p.0; room = p.1 }) (λ _. refl)
