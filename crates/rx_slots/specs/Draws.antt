-- Numbers that are drawn: what the word, which counts the draws, and the views of the seats have to do with each other.
use Rattle.std.specs.Prelude.{◌≡◌, ℕ, ◌+◌, ◌-◌, ◌^◌, ◌<◌, ◌≤◌, ◌==◌, true, false, nat_lt, min, [], ◌∷◌, ◌++◌, length, slice_index, count_by, Contains, if◌then◌else◌}
use Rattle.std.specs.List.{sum_by}
use mathlib.Core.Option.{some}
use lib.ListN.{get_elem?}
use Rattle.atomic_table.specs.Table.{State, Me, Step}
use Rattle.rx_slots.specs.declared.draws.Bounds.{Bounds}
use Rattle.rx_slots.specs.declared.draws.DrawView.{DrawView}

-- the first seat, which may make all others
abbrev pub first_drawer : Bounds → DrawView
first_drawer b = record { limit = b.limit; numbers = []; done = false; left = b.seats - 1 }

-- a seat that has drawn nothing and makes no other
abbrev pub new_drawer : DrawView → DrawView
new_drawer v = record { limit = v.limit; numbers = []; done = false; left = 0 }

-- the seat after it made another
abbrev pub with_one_less : DrawView → DrawView
with_one_less v = record { limit = v.limit; numbers = v.numbers; done = v.done; left = v.left - 1 }

-- the seat after it drew a number
abbrev pub with_number : DrawView → ℕ → DrawView
with_number v n = record { limit = v.limit; numbers = v.numbers ++ n ∷ []; done = v.done; left = v.left }

-- the seat after it found none left
abbrev pub when_done : DrawView → DrawView
when_done v = record { limit = v.limit; numbers = v.numbers; done = true; left = v.left }

-- how often the seat drew the number
abbrev pub draws_of : ℕ → DrawView → ℕ
draws_of x v = count_by (λ y. y == x) v.numbers

-- one for a seat that is done
abbrev pub done_of : DrawView → ℕ
done_of v = if v.done then 1 else 0

abbrev pub once_below : ℕ → ℕ → ℕ
once_below x n = if nat_lt x n then 1 else 0

pub record EachOnce (b : Bounds) (s : State (Unit {0}) DrawView) : Type 0 where
  pub one_word : length s.words ≡ 1
  pub fits : b.limit + b.seats < 2 ^ 64
  -- each number below the smaller of the word and the limit stands in one view, once, and no other number in any
  pub drawn : (x : ℕ) → sum_by (draws_of x) s.views ≡ once_below x (min (slice_index s.words 0) b.limit)
  -- the word is at most the limit and the number of seats that are done
  pub bound : slice_index s.words 0 ≤ b.limit + sum_by done_of s.views
  -- where a seat is done, the word is not below the limit
  pub ended : (id : ℕ) (v : DrawView) → get_elem? s.views id ≡ some v → v.done ≡ true → b.limit ≤ slice_index s.words 0
  pub limits : (id : ℕ) (v : DrawView) → get_elem? s.views id ≡ some v → v.limit ≡ b.limit
  -- the seats and those that may still be made are no more than were asked for
  pub seats : length s.views + sum_by (λ v. v.left) s.views ≤ b.seats

-- the seat drew the number
abbrev pub HasDrawn : State (Unit {0}) DrawView → (id n : ℕ) → Type 0
HasDrawn s id n = (v : DrawView) × (get_elem? s.views id ≡ some v) × Contains v.numbers n

-- the seat found none left
abbrev pub IsDone : State (Unit {0}) DrawView → (id : ℕ) → Type 0
IsDone s id = (v : DrawView) × (get_elem? s.views id ≡ some v) × (v.done ≡ true)

-- a draw gains the number that its step found, where that is below the limit; else its seat is done
abbrev pub Draws : Step (Unit {0}) → Me (Unit {0}) DrawView → ℕ → Me (Unit {0}) DrawView → Type 0
Draws st me found me' = (found < me.0.limit → me'.0 ≡ with_number me.0 found) × (me.0.limit ≤ found → me'.0 ≡ when_done me.0)
