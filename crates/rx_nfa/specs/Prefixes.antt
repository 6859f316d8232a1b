-- Unions of chains of byte states, and the prefix trees that take their place.
use Rattle.std.specs.Prelude.{◌≡◌, ℕ, ◌+◌, ◌≤◌, ◌<◌, ◌⊎◌, Bool, true, false, ◌&&◌, ◌==◌, nat_lt, List, [], ◌∷◌, length, map, All, ⊤, Option, Some, None, if◌then◌else◌}
use Rattle.std.specs.Option.{option_or}
use Rattle.rx_model.specs.Runs.{Passed, Sieve, sieved, first_some, first_trace, found}
use Rattle.rx_nfa.specs.Automaton.{at, state_at, Surroundings, automaton_over}
use Rattle.rx_nfa.specs.Row.{Ascends}
use Rattle.rx_nfa.specs.declared.state.Transition.{Transition}
use Rattle.rx_nfa.specs.declared.state.State.{State}
use Rattle.rx_nfa.specs.declared.state.State.TheVariants.{ByteRange, Sparse, Look, Union, Capture, Fail, Match}

-- From this state the states have the same first runs before and after, wherever acceptance is permitted and whichever way a text is read.
abbrev pub HasSameRuns : (old new : List State) → ℕ → Type 0
HasSameRuns old new q = (ok : Sieve) (around : Surroundings) (end i : ℕ)
    → first_trace (sieved ok (automaton_over around new end)) (at q i) ≡ first_trace (sieved ok (automaton_over around old end)) (at q i)

-- each state that this one goes on to is one of these
abbrev pub LeadsInto : (IsOne : ℕ → Type 0) → State → Type 0
LeadsInto IsOne (ByteRange low high next) = IsOne next
LeadsInto IsOne (Sparse transitions) = All (λ (t : Transition). IsOne t.next) transitions
LeadsInto IsOne (Look look next) = IsOne next
LeadsInto IsOne (Union alternates) = All IsOne alternates
LeadsInto IsOne (Capture next pattern slot) = IsOne next
LeadsInto IsOne Fail = ⊤
LeadsInto IsOne (Match pattern) = ⊤

-- the state reads a byte, or chooses, and goes on to these alone
abbrev pub IsBranch : (IsOne : ℕ → Type 0) → State → Type 0
IsBranch IsOne (ByteRange low high next) = IsOne next × (low ≤ high) × (high < 256)
IsBranch IsOne (Sparse transitions) = All (λ (t : Transition). IsOne t.next) transitions × Ascends 0 256 transitions
IsBranch IsOne (Look look next) = ⊥
IsBranch IsOne (Union alternates) = All IsOne alternates
IsBranch IsOne (Capture next pattern slot) = ⊥
IsBranch IsOne Fail = ⊤
IsBranch IsOne (Match pattern) = ⊥

-- the word stands at place i, before the end
abbrev pub spells : (byte : ℕ → ℕ) → (end i : ℕ) → List ℕ → Bool
spells byte end i [] = true
spells byte end i (b ∷ word) = nat_lt i end && (b == byte i) && spells byte end (i + 1) word

-- What the first of the words comes to that stands at place i and comes to something; f tells it of the place behind each.
abbrev pub lands : {A : Type 0} → (f : ℕ → Option A) → (byte : ℕ → ℕ) → (end i : ℕ) → List (List ℕ) → Option A
lands f byte end i [] = None
lands f byte end i (word ∷ words) = option_or (if spells byte end i word then f (i + length word) else None) (lands f byte end i words)

-- what is left of the words that begin with the byte
abbrev pub rests : (b : ℕ) → List (List ℕ) → List (List ℕ)
rests b [] = []
rests b ([] ∷ words) = rests b words
rests b ((x ∷ word) ∷ words) = if x == b then word ∷ rests b words else rests b words

-- from place i on nothing was passed of the states from low on, below top
abbrev pub IsClear : (low top i : ℕ) → Passed → Type 0
IsClear low top i p = (d j : ℕ) → low ≤ d → d < top → i ≤ j → p (at d j) ≡ false

-- These states of the whole, the first one preferred, lead to the state `next` by the words, in order. They lead there by states from low
-- on, below top.
unfoldable pub Reads : (whole : List State) → (low top next : ℕ) → (qs : List ℕ) → (words : List (List ℕ)) → Type 0
Reads whole low top next qs words = (ok : Sieve) (around : Surroundings) (end i : ℕ) (p : Passed) → i ≤ end → IsClear low top i p
    → first_some (found (sieved ok (automaton_over around whole end)) p) (map (λ q. at q i) qs)
    ≡ lands (λ j. found (sieved ok (automaton_over around whole end)) p (at next j)) around.byte end i words

-- the states of a tree stand in the whole from low on
abbrev pub IsPlaced : (low : ℕ) → (tree whole : List State) → Type 0
IsPlaced low tree whole = (k : ℕ) → k < length tree → (low + k < length whole) × (state_at whole (low + k) ≡ state_at tree k)

-- in each list in which the tree stands, these of its states lead to `next` by the words
abbrev pub TreeReads : (low : ℕ) → (tree : List State) → (next : ℕ) → (qs : List ℕ) → (words : List (List ℕ)) → Type 0
TreeReads low tree next qs words = (whole : List State) → IsPlaced low tree whole → Reads whole low (low + length tree) next qs words

-- a state from low on, below top, which is there
pub record Lies (low top : ℕ) (whole : List State) (q : ℕ) (state : State) : Type 0 where
  pub above : low ≤ q
  pub below : q < top
  pub inside : q < length whole
  pub is : state_at whole q ≡ state

-- states were added, and none was changed
pub record Grows (old new : List State) : Type 0 where
  pub longer : length old ≤ length new
  pub kept : (k : ℕ) → k < length old → state_at new k ≡ state_at old k

-- the state is not one of those from low on, below top
abbrev pub IsOutside : (low top : ℕ) → ℕ → Type 0
IsOutside low top q = (q < low) ⊎ (top ≤ q)

-- where the words that begin with a byte are led by it, in a tree
abbrev pub TreeGoes : (low : ℕ) → (tree : List State) → (next : ℕ) → Option ℕ → List (List ℕ) → Type 0
TreeGoes low tree next None words = words ≡ []
TreeGoes low tree next (Some r) words = TreeReads low tree next (r ∷ []) words

-- a word: bytes, at least one
pub record IsWord (word : List ℕ) : Type 0 where
  pub some : 0 < length word
  pub bytes : All (λ b. b < 256) word
