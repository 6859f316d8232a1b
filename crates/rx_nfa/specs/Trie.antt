-- Blocks of states that read the last bytes of encodings, and the states of a class.
use Rattle.std.specs.Prelude.{◌≡◌, ℕ, zero, suc, ◌+◌, ◌*◌, ◌<◌, ◌≤◌, ◌⊎◌, Bool, true, false, List, [], ◌∷◌, length, Option, Some, None, if◌then◌else◌, slice_index}
use Rattle.rx_model.specs.Text.{is_member}
use Rattle.rx_nfa.specs.Automaton.{route}
use Rattle.rx_nfa.specs.Ranges.{size_of_block, clip}
use Rattle.rx_nfa.specs.Row.{IsReader}
use Rattle.rx_nfa.specs.declared.state.Transition.{Transition}
use Rattle.rx_nfa.specs.declared.state.State.{State}
use Rattle.rx_nfa.specs.declared.class.trie.Coverage.{Coverage}
use Rattle.rx_nfa.specs.declared.class.trie.Coverage.TheVariants.{Nothing, Everything, Part}

-- `IsAt q ts`: state q reads a byte by the transitions ts.
module _ (IsAt : ℕ → List Transition → Type 0) (next : ℕ) where
  -- The state reads `depth` continuation bytes, which pick a number from `start` on, and goes on to `next` if
  -- the number is a member. No state: none is a member.
  unfoldable pub IsBlock : (ℕ → Bool) → (depth start : ℕ) → Option ℕ → Type 0
  IsBlock member zero start target = target ≡ (if member start then Some next else None)
  IsBlock member (suc depth) start None = (c : ℕ) → start ≤ c → c < start + 64 * size_of_block depth → member c ≡ false
  IsBlock member (suc depth) start (Some q) =
      (ts : List Transition)
      × IsAt q ts
      × ((b : ℕ) → (b < 0x80) ⊎ (0xC0 ≤ b) → route ts b ≡ None)
      × ((k : ℕ) → k < 64 → IsBlock member depth (start + k * size_of_block depth) (route ts (0x80 + k)))

  -- The byte `first + k` leads to the block that is k blocks after `start`, for k below `len`; other bytes lead
  -- where they did.
  pub record IsRow (member : ℕ → Bool) (depth start first len : ℕ) (old new : List Transition) : Type 0 where
    pub elsewhere : (b : ℕ) → (b < first) ⊎ (first + len ≤ b) → route new b ≡ route old b
    pub each : (k : ℕ) → k < len → IsBlock member depth (start + k * size_of_block depth) (route new (first + k))

  -- a state for each depth that reads so many continuation bytes, whatever they are
  abbrev pub AreWhole : List ℕ → Type 0
  AreWhole ids = (depth : ℕ) → depth < length ids → (start : ℕ) → IsBlock (λ c. true) depth start (Some (slice_index ids depth))

-- The states before the base are there, and the states for whole blocks are among those from the base on.
pub record IsReady (base : ℕ) (states : List State) (next : ℕ) (ids : List ℕ) : Type 0 where
  pub based : base ≤ length states
  pub whole : AreWhole (IsReader base states) next ids

-- the first range has an end within
abbrev pub HasEnd : List (ℕ × ℕ) → ℕ → ℕ → Type 0
HasEnd [] start end = ⊥
HasEnd (r ∷ rs) start end = (r.0 < end) × (start ≤ r.1) × ((start < r.0) ⊎ (r.1 + 1 < end))

-- what is known of the numbers from `start` up to `end`
abbrev pub IsCoverage : List (ℕ × ℕ) → ℕ → ℕ → Coverage → Type 0
IsCoverage ranges start end Nothing = (c : ℕ) → start ≤ c → c < end → is_member ranges c ≡ false
IsCoverage ranges start end Everything =
    ((c : ℕ) → start ≤ c → c < end → is_member ranges c ≡ true)
    × (r : ℕ × ℕ) × (rs : List (ℕ × ℕ)) × (ranges ≡ r ∷ rs) × (r.0 ≤ start) × (end ≤ r.1 + 1)
IsCoverage ranges start end Part = HasEnd ranges start end

module _ (IsAt : ℕ → List Transition → Type 0) (next : ℕ) (ranges : List (ℕ × ℕ)) where
  -- Each of the `len` bytes from `first` on leads to its block, whose numbers it begins: the blocks follow one another
  -- from `start` on, and their members are those of the class within low..high.
  abbrev pub LeadsTo : (low high depth start first len : ℕ) → List Transition → Type 0
  LeadsTo low high depth start first len row =
      (k : ℕ) → k < len → IsBlock IsAt next (is_member (clip low high ranges)) depth (start + k * size_of_block depth) (route row (first + k))

  -- State q reads the encoding of one member of the class, and goes on to `next`.
  pub record IsClass (q : ℕ) : Type 0 where
    pub row : List Transition
    pub reads : IsAt q row
    pub of_one : LeadsTo 0 0x7F 0 0 0 0x80 row
    pub of_two : LeadsTo 0x80 0x7FF 1 0x80 0xC2 30 row
    pub of_three : LeadsTo 0x800 0xD7FF 2 0 0xE0 14 row
    pub of_three_high : LeadsTo 0xE000 0xFFFF 2 0xE000 0xEE 2 row
    pub of_four : LeadsTo 0x1_0000 0x10_FFFF 3 0 0xF0 5 row
    pub of_none : (b : ℕ) → ((0x80 ≤ b) × (b < 0xC2)) ⊎ (0xF5 ≤ b) → route row b ≡ None

  -- State q reads a byte of the class, and goes on to `next`.
  pub record IsByteClass (q : ℕ) : Type 0 where
    pub row : List Transition
    pub reads : IsAt q row
    pub each : (b : ℕ) → b < 256 → route row b ≡ (if is_member ranges b then Some next else None)
    pub of_none : (b : ℕ) → 256 ≤ b → route row b ≡ None
