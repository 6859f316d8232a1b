-- A depth-first search that tries each state at each place of a span once.
use Rattle.std.specs.Prelude.{◌≡◌, ℕ, zero, suc, ◌+◌, ◌-◌, ◌*◌, ◌/◌, ◌%◌, Bool, ◌&&◌, ◌==◌, List, [], ◌∷◌, length, Option, Some, None, nat_lt, nat_le, slice_index, slice_set, if◌then◌else◌}
use Rattle.std.specs.Int.{bit_at}
use Rattle.rx_model.specs.Runs.{Configuration, PriorityGraph, Passed, found, first_trace}
use Rattle.rx_model.specs.Machine.{grid}
use Rattle.rx_model.proofs.lemmas.runs.RunLemmas.{weight}
use Rattle.rx_search.specs.Matches.{HalfMatchValue}
use Rattle.rx_nfa.specs.Automaton.{state_at}
use Rattle.rx_nfa.specs.declared.state.State.{State}
use Rattle.rx_engines.specs.Simulation.{frames_of_state, frames_of_states}
use Rattle.rx_engines.specs.Walk.{Slots, Answer, AllWithin, Yields, pending}
use Rattle.rx_engines.specs.declared.frame.Frame.{Frame}
use Rattle.rx_engines.specs.declared.frame.Frame.TheVariants.{Explore, Restore}
use Rattle.rx_engines.specs.Search.{graph_for}
use Rattle.rx_engines.specs.declared.search.Search.{Search}
use Rattle.rx_engines.specs.declared.onward.Onward.{Onward}
use Rattle.rx_engines.specs.declared.onward.Onward.TheVariants.{Stop, To, Back}

-- the bit of the number is set, 64 bits to a word
abbrev pub is_set : List ℕ → ℕ → Bool
is_set words n = bit_at (slice_index words (n / 64)) (n % 64) == 1

-- how many of the words have a bit
abbrev pub words_used : List ℕ → ℕ
words_used [] = 0
words_used (w ∷ ws) = (if w == 0 then 0 else 1) + words_used ws

-- how many states at places the span has
abbrev pub extent : Search → ℕ
extent s = (s.end + 1 - s.first) * length s.states.now

-- how many frames these leave
abbrev pub frames_of_span : Search → ℕ
frames_of_span s = (s.end + 1 - s.first) * frames_of_states s.states.now (length s.states.now)

-- the configurations of the span whose bit is set: a row of n states for each place
unfoldable pub passed_in : (n first end : ℕ) → List ℕ → Passed
passed_in n first end words c =
    (nat_lt c.state n && (nat_le first c.place && nat_le c.place end)) && is_set words ((c.place - first) * n + c.state)

-- what the search has passed
abbrev pub passed_by : Search → List ℕ → Passed
passed_by s words = passed_in (length s.states.now) s.first s.end words

-- What is left to do: for each configuration that was not passed, more than the frames that it leaves.
unfoldable pub work : Search → List ℕ → ℕ
work s words = weight (λ c. length ((graph_for s).successors c) + 2) (grid (length s.states.now) (s.end + 1)) (passed_by s words)

-- The frames that may still come, in a span of which the first n numbers are looked at: of each number whose bit is not
-- set those that its state leaves. The numbers of a place are those of its states in order.
unfoldable pub frames_below : List State → List ℕ → (n : ℕ) → ℕ
frames_below states words zero = 0
frames_below states words (suc n) = (if is_set words n then 0 else frames_of_state (state_at states (n % length states))) + frames_below states words n

-- the same of the whole span
abbrev pub frames_left : Search → List ℕ → ℕ
frames_left s words = frames_below s.states.now words (extent s)

-- what was passed leads to nothing
abbrev pub IsDead : PriorityGraph → Passed → Type 0
IsDead g passed = (c : Configuration) → found g passed c ≡ first_trace g c

abbrev pub AllInside : Search → List Frame → Type 0
AllInside s frames = AllWithin (length s.states.now) s.first s.end frames

-- what the search did at c: the frames and the slots before and after
abbrev pub Stepped : PriorityGraph → Configuration → Onward ℕ → (frames frames' : List Frame) → (slots slots' : Slots) → Type 0
Stepped g c (Stop pattern) frames frames' slots slots' = (g.accepted c ≡ Some pattern) × (slots' ≡ slots)
Stepped g c (To q i) frames frames' slots slots' = Yields g c frames (Explore q i ∷ frames') slots slots'
Stepped g c Back frames frames' slots slots' = Yields g c frames frames' slots slots'

-- the slots once every write is undone
unfoldable pub undone : List Frame → Slots → Slots
undone [] slots = slots
undone (Explore q i ∷ rest) slots = undone rest slots
undone (Restore slot old ∷ rest) slots = undone rest (slice_set slots slot old)

-- The state of a search for `goal`, that began when `before` was passed.
pub record Searching (g : PriorityGraph) (before passed : Passed) (goal : Option Answer) (base : Slots) (frames : List Frame) (slots : Slots) : Type 0 where
  pub value : pending (found g passed) frames slots ≡ goal
  -- what was passed since leads to nothing, or the goal is still ahead
  pub dead : goal ≡ None → (c : Configuration) → found g passed c ≡ found g before c
  pub unwinds : undone frames slots ≡ base

-- what a run led to, with the slots
abbrev pub returned : Option HalfMatchValue → Slots → Option Answer
returned None slots = None
returned (Some r) slots = Some (record { pattern = r.pattern; end = r.offset; slots = slots })

-- the run that was followed reached the goal, or the search goes on with the stack
abbrev pub Followed : Option HalfMatchValue → PriorityGraph → (before passed : Passed) → Option Answer → (base : Slots) → List Frame → Slots → Type 0
Followed None g before passed goal base frames slots = Searching g before passed goal base frames slots
Followed (Some r) g before passed goal base frames slots = goal ≡ returned (Some r) slots
