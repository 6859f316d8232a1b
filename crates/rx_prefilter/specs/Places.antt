-- At which places of the needles pairs of bytes stand.
use Rattle.std.specs.Prelude.{◌≡◌, ℕ, ◌+◌, ◌*◌, ◌<◌, ◌≤◌, List, All, length, map, slice_index}
use Rattle.std.specs.Int.{bit_at}
use Rattle.std.specs.Vec.{vec_items}
use Rattle.rx_prefilter.specs.declared.multi.place_table.PlaceTable.{PlaceTable}

-- the number of a pair of bytes
abbrev pub pair_number : ℕ → ℕ → ℕ
pair_number a b = a + 256 * b

-- the pair that stands in a text at place `at`
abbrev pub pair_at : List ℕ → ℕ → ℕ
pair_at text at = pair_number (slice_index text at) (slice_index text (at + 1))

-- the pairs at the needle's first places are marked in the table, each at its place
pub record IsMarked (places : List ℕ) (stride : ℕ) (needle : List ℕ) : Type 0 where
  pub long : stride < length needle
  pub marked : (j : ℕ) → j < stride → bit_at (slice_index places (pair_at needle j)) j ≡ 1

-- no mark is lost
abbrev pub Keeps : List ℕ → List ℕ → Type 0
Keeps old new = (pair j : ℕ) → bit_at (slice_index old pair) j ≡ 1 → bit_at (slice_index new pair) j ≡ 1

-- a table of all pairs, in which the needles are marked
pub record IsPlaceTable (table : PlaceTable) : Type 0 where
  pub some : 0 < table.stride
  pub few : table.stride ≤ 8
  pub whole : length table.places.items ≡ 65536
  pub marked : All (IsMarked table.places.items table.stride) (map vec_items table.needles.items)
