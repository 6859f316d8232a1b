-- Slots that are exchanged: what the turns, the slots and the views of the seats have to do with each other.
use Rattle.std.specs.Prelude.{◌≡◌, ℕ, ◌+◌, ◌%◌, ◌<◌, ◌≤◌, ◌==◌, List, [], ◌∷◌, ◌++◌, length, map, drop, slice_index, count_by, All, Contains, Option, Some, None}
use Rattle.std.specs.List.{sum_by}
use mathlib.Core.Option.{some}
use lib.ListN.{get_elem?}
use Rattle.atomic_table.specs.Table.{State, Me, Step, rest}
use Rattle.rx_slots.specs.declared.slot_pool.SlotView.{SlotView}

-- a seat that has seen nothing
abbrev pub new_view : SlotView
new_view = record { held = []; moves = []; seen = []; refusals = 0 }

-- the seat after it took slot k at this turn
abbrev pub taken : SlotView → (k turn : ℕ) → SlotView
taken v k turn = record { held = (k, turn) ∷ v.held; moves = k ∷ v.moves; seen = (k, turn) ∷ v.seen; refusals = v.refusals }

-- the seat after it was refused slot k, which it found at this turn
abbrev pub refused : SlotView → (k turn : ℕ) → SlotView
refused v k turn = record { held = v.held; moves = v.moves; seen = (k, turn) ∷ v.seen; refusals = v.refusals + 1 }

-- the seat after it put back slot k, which it took last, at this turn
abbrev pub put_back : SlotView → (k turn : ℕ) → SlotView
put_back v k turn = record { held = drop 1 v.held; moves = k ∷ v.moves; seen = (k, turn) ∷ v.seen; refusals = v.refusals }

-- the seat with what another had
abbrev pub joined : SlotView → SlotView → SlotView
joined v w = record { held = v.held ++ w.held; moves = v.moves ++ w.moves; seen = v.seen ++ w.seen; refusals = v.refusals + w.refusals }

-- how often the seat took slot k or put it back
abbrev pub moves_of : (k : ℕ) → SlotView → ℕ
moves_of k v = count_by (λ j. j == k) v.moves

-- how often the seat holds slot k
abbrev pub holds_of : (k : ℕ) → SlotView → ℕ
holds_of k v = count_by (λ (h : ℕ × ℕ). h.0 == k) v.held

-- each slot on the list is at its turn
abbrev pub AreAt : (turns : List ℕ) → List (ℕ × ℕ) → Type 0
AreAt turns [] = Unit {0}
AreAt turns (h ∷ hs) = (slice_index turns h.0 ≡ h.1) × AreAt turns hs

-- no turn on the list is above that of its slot
abbrev pub AreNotAbove : (turns : List ℕ) → List (ℕ × ℕ) → Type 0
AreNotAbove turns [] = Unit {0}
AreNotAbove turns (h ∷ hs) = (h.1 ≤ slice_index turns h.0) × AreNotAbove turns hs

-- no turn of slot k on the list is above this one
abbrev pub IsNotBelow : (turn k : ℕ) → List (ℕ × ℕ) → Type 0
IsNotBelow turn k [] = Unit {0}
IsNotBelow turn k (h ∷ hs) = (h.0 ≡ k → h.1 ≤ turn) × IsNotBelow turn k hs

-- A word is the turn of its slot: how often the slot was taken and put back. It is odd exactly where one seat holds the slot, once.
pub record Turns {T : Type 0} (s : State (Option T) SlotView) : Type 0 where
  pub sized : length s.homes ≡ length s.words
  pub counted : (k : ℕ) → k < length s.words → sum_by (moves_of k) s.views ≡ slice_index s.words k
  pub once : (k : ℕ) → k < length s.words → sum_by (holds_of k) s.views ≡ slice_index s.words k % 2
  -- where no seat holds the slot, it is at home and holds a value
  pub home : (k : ℕ) → k < length s.words → slice_index s.words k % 2 ≡ 0 → (x : T) × (get_elem? s.homes k ≡ some (some (Some x)))
  -- a seat holds a slot at its turn, has seen that turn, and none that is still to come
  pub held : (id : ℕ) (v : SlotView) → get_elem? s.views id ≡ some v → AreAt s.words v.held
  pub known : (id : ℕ) (v : SlotView) → get_elem? s.views id ≡ some v → All (Contains v.seen) v.held
  pub seen : (id : ℕ) (v : SlotView) → get_elem? s.views id ≡ some v → AreNotAbove s.words v.seen

-- the seat holds slot k, at this turn
abbrev pub Holds : {T : Type 0} → State (Option T) SlotView → (id k turn : ℕ) → Type 0
Holds s id k turn = (v : SlotView) × (get_elem? s.views id ≡ some v) × Contains v.held (k, turn)

-- the seat has seen slot k at this turn
abbrev pub HasSeen : {T : Type 0} → State (Option T) SlotView → (id k turn : ℕ) → Type 0
HasSeen s id k turn = (v : SlotView) × (get_elem? s.views id ≡ some v) × Contains v.seen (k, turn)

-- the slots that are out with a seat are those that it holds, and hold no value
abbrev pub Carries : {T : Type 0} → Me (Option T) SlotView → Type 0
Carries me = me.1 ≡ map (λ (h : ℕ × ℕ). (h.0, None)) me.0.held

-- what the step of a take gives: found even, the slot at the next turn, with its value; found odd, that turn
pub record Takes {T : Type 0} (st : Step (Option T)) (me : Me (Option T) SlotView) (found : ℕ) (me' : Me (Option T) SlotView) : Type 0 where
  pub gives : found % 2 ≡ 0 → (x : T) × (me' ≡ (taken me.0 st.word (found + 1), (st.word, Some x) ∷ me.1))
  pub refuses : found % 2 ≡ 1 → me' ≡ (refused me.0 st.word found, me.1)
  pub not_below : IsNotBelow found st.word me.0.seen

-- what the store of a put gives
abbrev pub Puts : {T : Type 0} → Step (Option T) → Me (Option T) SlotView → ℕ → Me (Option T) SlotView → Type 0
Puts st me stored me' = me' ≡ (put_back me.0 st.word stored, rest me.1)
