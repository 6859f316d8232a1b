-- A walk over the states, depth first: what its frames lead to.
use Rattle.std.specs.Prelude.{◌≡◌, ◌<◌, ◌≤◌, ℕ, ◌⊎◌, List, [], ◌∷◌, ◌++◌, length, Option, Some, None, slice_set, slice_index_or}
use Rattle.std.specs.Option.{option_or}
use Rattle.rx_model.specs.Runs.{Configuration, PriorityGraph, Trace}
use Rattle.rx_engines.specs.declared.frame.Frame.{Frame}
use Rattle.rx_engines.specs.declared.frame.Frame.TheVariants.{Explore, Restore}

abbrev pub Slots : Type 0
Slots = List (Option ℕ)

-- what a walk answers: the pattern, where the run ends, and the slots
pub record Answer : Type 0 where
  pub pattern : ℕ
  pub end : ℕ
  pub slots : Slots

-- the slots after these writes
abbrev pub write_all : List (ℕ × ℕ) → Slots → Slots
write_all [] slots = slots
write_all (w ∷ ws) slots = write_all ws (slice_set slots w.0 (Some w.1))

abbrev pub answer : Slots → Option Trace → Option Answer
answer slots None = None
answer slots (Some t) = Some (record { pattern = t.pattern; end = t.end; slots = write_all t.writes slots })

-- the first answer that the frames lead to
unfoldable pub pending : (Configuration → Option Trace) → List Frame → Slots → Option Answer
pending go [] slots = None
pending go (Explore q i ∷ rest) slots =
    option_or (answer slots (go (record { state = q; place = i }))) (pending go rest slots)
pending go (Restore slot old ∷ rest) slots = pending go rest (slice_set slots slot old)

-- frames to explore each
abbrev pub explore_all : List Configuration → List Frame
explore_all [] = []
explore_all (d ∷ ds) = Explore d.state d.place ∷ explore_all ds

-- the frames of a walk that goes on to this state at the place, if there is one, above the rest
abbrev pub going_to : Option ℕ → (place : ℕ) → (rest : List Frame) → List Frame
going_to None i rest = rest
going_to (Some q) i rest = Explore q i ∷ rest

-- each frame to explore is a state below n at a place from first to end
abbrev pub AllWithin : (n first end : ℕ) → List Frame → Type 0
AllWithin n first end [] = Unit {0}
AllWithin n first end (Explore q i ∷ rest) = (q < n) × (first ≤ i) × (i ≤ end) × AllWithin n first end rest
AllWithin n first end (Restore slot old ∷ rest) = AllWithin n first end rest

-- the place is in the slot, and its old value on the stack, where there is room for the slot
abbrev pub Saves : (slot place : ℕ) → (frames frames' : List Frame) → (slots slots' : Slots) → Type 0
Saves slot place frames frames' slots slots' =
    ((length slots ≤ slot) × (frames' ≡ frames) × (slots' ≡ slots))
    ⊎ ((frames' ≡ Restore slot (slice_index_or slots slot None) ∷ frames) × (slots' ≡ slice_set slots slot (Some place)))

-- c, which doesn't accept, gives way to its successors. Where it writes a slot that is there, the old value is kept.
pub record Yields (g : PriorityGraph) (c : Configuration) (frames frames' : List Frame) (slots slots' : Slots) : Type 0 where
  pub accepts : g.accepted c ≡ None
  pub goes_on : (((k : ℕ) → g.written c ≡ Some k → length slots ≤ k) × (frames' ≡ explore_all (g.successors c) ++ frames) × (slots' ≡ slots))
      ⊎ ((k : ℕ) × (g.written c ≡ Some k) × (frames' ≡ explore_all (g.successors c) ++ (Restore k (slice_index_or slots k None) ∷ frames))
      × (slots' ≡ slice_set slots k (Some c.place)))
