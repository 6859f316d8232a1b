-- The machine of one stack of a pool: the numbers that are stored, those that are lent, and the next number.
use Rattle.std.specs.Prelude.{◌≡◌, ℕ, zero, suc, ◌+◌, ◌-◌, ◌==◌, nat_lt, List, [], ◌∷◌, ◌++◌, length, take, Option, Some, None, IfSome, count_by, slice_get, slice_index, if◌then◌else◌}
use Rattle.std.specs.List.{remove}

pub record Numbers : Type 0 where
  pub stored : List ℕ
  pub lent : List ℕ
  pub next : ℕ

-- What may happen: a number is taken, made, or put back, or the one who has it drops it.
pub data Event : Type 0 where
  Take : Event
  Make : Event
  Put : (number : ℕ) → Event
  Drop : (number : ℕ) → Event

-- nothing is stored or lent, and numbers begin at 0
abbrev pub at_first : Numbers
at_first = record { stored = []; lent = []; next = 0 }

-- the last of a list
abbrev pub last_of : {X : Type 0} → List X → Option X
last_of xs = slice_get xs (length xs - 1)

-- all but the last
abbrev pub but_last : {X : Type 0} → List X → List X
but_last xs = take (length xs - 1) xs

-- how often the number stands on a list
abbrev pub times : (number : ℕ) → List ℕ → ℕ
times number xs = count_by (λ x. x == number) xs

-- the last place of a number among the first ones, so many of them
abbrev pub last_place : (number count : ℕ) → List ℕ → Option ℕ
last_place number zero xs = None
last_place number (suc count) xs = if slice_index xs count == number then Some count else last_place number count xs

-- the last place of a number
abbrev pub place_of : (number : ℕ) → List ℕ → Option ℕ
place_of number xs = last_place number (length xs) xs

-- the last number that is stored becomes lent; where nothing is stored there is no change
abbrev pub taken : Numbers → Option ℕ → Numbers
taken s None = s
taken s (Some number) = record { stored = but_last s.stored; lent = s.lent ++ number ∷ []; next = s.next }

-- the next number becomes lent and rises by one
abbrev pub made : Numbers → Numbers
made s = record { stored = s.stored; lent = s.lent ++ s.next ∷ []; next = s.next + 1 }

-- a number that is lent goes to the end of those stored; where it is not lent there is no change
abbrev pub put_from : Numbers → (number : ℕ) → (place : Option ℕ) → Numbers
put_from s number None = s
put_from s number (Some place) = record { stored = s.stored ++ number ∷ []; lent = remove s.lent place; next = s.next }

-- one event. A number that is dropped stays lent
abbrev pub happens : Numbers → Event → Numbers
happens s Take = taken s (last_of s.stored)
happens s Make = made s
happens s (Put number) = put_from s number (place_of number s.lent)
happens s (Drop number) = s

-- the number that an event lends
abbrev pub lends : Numbers → Event → Option ℕ
lends s Take = last_of s.stored
lends s Make = Some s.next
lends s (Put number) = None
lends s (Drop number) = None

-- a list of events, one after another
abbrev pub run : List Event → Numbers → Numbers
run [] s = s
run (e ∷ events) s = run events (happens s e)

-- Stored and lent together hold exactly the numbers below the next one, each once.
pub record IsSound (s : Numbers) : Type 0 where
  pub once : (number : ℕ) → times number s.stored + times number s.lent ≡ (if nat_lt number s.next then 1 else 0)
  pub count : length s.stored + length s.lent ≡ s.next

-- over every list of events no number is lent twice: one that an event lends is not lent
abbrev pub NoneIsLentTwice : Type 0
NoneIsLentTwice = (events : List Event) (event : Event) → IfSome (lends (run events at_first) event) (λ number. times number (run events at_first).lent ≡ 0)

-- and stored and lent together hold exactly the numbers below the next one
abbrev pub StaysSound : Type 0
StaysSound = (events : List Event) → IsSound (run events at_first)
