-- What a call does to the states that a cache holds: it keeps them all, or clears the cache, where one more would not fit.
use Rattle.std.specs.Prelude.{◌≡◌, ◌⊎◌, ℕ, ◌+◌, ◌-◌, ◌^◌, ◌<◌, List, [], ◌∷◌, ◌++◌, take, min, false, Option, Some}
use Rattle.rx_determinize.specs.Key.{Key, is_dead}
use Rattle.rx_dfa.specs.Lazy.{LazyValue, IsNew, state_size}
use Rattle.rx_dfa.specs.declared.lazy.rows.Rows.{Rows}
use Rattle.rx_dfa.specs.declared.step_error.StepError.{StepError}
use Rattle.rx_dfa.specs.declared.step_error.StepError.TheVariants.{Quit as QuitsAt, GaveUp as GivesUp, Memory as WantsMemory}

-- how often the cache was cleared, and how many steps the search had taken when it cleared it last
abbrev pub counts_of : Rows → ℕ × Option ℕ
counts_of r = (r.clears, r.since)

-- one clearing more, as far as a `usize` counts
abbrev pub one_more : (clears : ℕ) → ℕ
one_more clears = min (clears + 1) (2 ^ 64 - 1)

-- as many steps as a `u64` counts
abbrev pub told_of : (steps : ℕ) → ℕ
told_of steps = min steps (2 ^ 64 - 1)

-- All states are kept, and that of this key may be new.
pub record IsKept (into : Key) (since : Option ℕ) (old new : Rows) : Type 0 where
  pub keys : (new.keys ≡ old.keys) ⊎ (new.keys ≡ old.keys ++ into ∷ [])
  pub counts : counts_of new ≡ (old.clears, since)

-- This key, which is not dead, has no state, and one more for it would account above the capacity.
pub record IsFull (l : LazyValue) (into : Key) (old : Rows) : Type 0 where
  pub alive : is_dead into ≡ false
  pub is_new : IsNew old.keys into
  pub above : l.capacity < old.size + state_size l.stride into

-- The cache was cleared once, since a state of the key `into` would not fit, after so many steps. It holds the first ones of these
-- keys and that one, and all of them but for an error.
pub record IsCleared (l : LazyValue) (standing : List Key) (into : Key) (taken : Option ℕ) (old new : Rows) : Type 0 where
  pub full : IsFull l into old
  pub held : ℕ
  pub keys : new.keys ≡ take held (standing ++ into ∷ [])
  pub counts : counts_of new ≡ (one_more old.clears, taken)

-- What a call does that asks for the state of the key `into`, where a search stands in these states. Where it clears nothing it keeps
-- `since` as the count of steps, and where it does, `taken`.
abbrev pub IsGrown : LazyValue → (standing : List Key) → (into : Key) → (since taken : Option ℕ) → (old new : Rows) → Type 0
IsGrown l standing into since taken old new = IsKept into since old new ⊎ IsCleared l standing into taken old new

-- There is room for a state of the key `into` beside that of the key `from`: nothing was changed, or the cache was cleared, after so
-- many steps, and holds the latter alone.
abbrev pub IsMade : LazyValue → (from into : Key) → (taken : ℕ) → (old new : Rows) → Type 0
IsMade l from into taken old new =
    ((new.keys ≡ old.keys) × (counts_of new ≡ counts_of old))
    ⊎ (IsFull l into old × (new.keys ≡ from ∷ []) × (counts_of new ≡ (one_more old.clears, Some taken)))

-- The steps that are told since the last clearing are those that a search took which has taken so many: it noted at the clearing how
-- many they were.
pub record AreCounted (old new : Rows) (steps : ℕ) : Type 0 where
  pub since : ℕ
  pub noted : old.since ≡ Some since
  pub calls : since + new.calls ≡ steps
  pub whole : steps < 2 ^ 64 - 1

-- where it gave up
abbrev pub CountsWhereGaveUp : (old new : Rows) → (steps : ℕ) → StepError → Type 0
CountsWhereGaveUp old new steps (QuitsAt byte) = Unit {0}
CountsWhereGaveUp old new steps GivesUp = AreCounted old new steps
CountsWhereGaveUp old new steps WantsMemory = Unit {0}

-- where it gave up: the state that was asked for, of the key `into`, has no room, and all stays but the count of steps that are told
abbrev pub RowsWhereGaveUp : LazyValue → (into : Key) → (old new : Rows) → StepError → Type 0
RowsWhereGaveUp l into old new (QuitsAt byte) = Unit {0}
RowsWhereGaveUp l into old new GivesUp = IsFull l into old × (new ≡ record old { calls = new.calls })
RowsWhereGaveUp l into old new WantsMemory = Unit {0}
