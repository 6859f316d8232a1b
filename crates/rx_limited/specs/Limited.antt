-- The search backwards that does not read again what was read before.
use Rattle.std.specs.Prelude.{◌≡◌, ℕ, ◌+◌, ◌-◌, ◌≤◌, ◌<◌, true, false, length, Option, Some, IfSome}
use Rattle.rx_model.specs.Look.{byte_after}
use Rattle.rx_model.specs.Search.{Patterns}
use Rattle.rx_search.specs.Input.{InputValue}
use Rattle.rx_search.specs.Matches.{HalfMatchValue}
use Rattle.rx_search.specs.Told.{HalfLiesIn}
use Rattle.rx_search.specs.declared.anchored.MatchKind.TheVariants.{All}
use Rattle.rx_nfa.specs.Automaton.{backwards}
use Rattle.rx_nfa.specs.Nfa.{HasReverseRuns}
use Rattle.rx_determinize.specs.Key.{Key, is_dead}
use Rattle.rx_dfa.specs.Automaton.{Dfa, first_key}
use Rattle.rx_dfa.specs.Course.{key_of}
use Rattle.rx_dfa.specs.Search.{IsReverseAnswer}
use Rattle.rx_limited.specs.Retry.{FailsAt}
use Rattle.rx_limited.specs.declared.retry_error.Quadratic.TheVariants.{Below, AtStart, Candidate}
use Rattle.rx_limited.specs.declared.retry_error.RetryError.{RetryError}
use Rattle.rx_limited.specs.declared.retry_error.RetryError.TheVariants.{Quadratic, Fail, Memory}

-- the same input, of which not just any match will do
abbrev pub each_in : InputValue → InputValue
each_in v = record v { earliest = false }

-- what the whole search backwards answers: the least start, where there is one
abbrev pub FindsStart : Dfa → InputValue → Option HalfMatchValue → Type 0
FindsStart d v found = (r : Patterns) → HasReverseRuns d.nfa r → d.kind ≡ All → IsReverseAnswer d.nfa r (each_in v) found

-- the key where a search backwards stands before the byte that ends at the place
abbrev pub key_down_to : Dfa → InputValue → (at : ℕ) → Key
key_down_to d v at =
    key_of d (backwards d.nfa.terminator v.haystack) (v.end - at) (length v.haystack - v.end) (first_key d v.anchor (byte_after v.haystack v.end))

-- it found a start and lies in the span, and its pattern is one of the automaton's
abbrev pub LiesInRange : Dfa → InputValue → Option HalfMatchValue → Type 0
LiesInRange d v found = IfSome found (HalfLiesIn v) × IfSome found (λ h. h.pattern < length d.nfa.starts)

-- The search was not over before a byte under this place, and had read one at least.
pub record IsBelow (d : Dfa) (v : InputValue) (at min_start : ℕ) : Type 0 where
  pub inside : v.start ≤ at
  pub read : at + 1 < v.end
  pub under : at < min_start
  pub alive : is_dead (key_down_to d v (at + 1)) ≡ false

-- The search was not over at the span's start, and found a later start.
pub record IsAtStart (d : Dfa) (v : InputValue) (found : HalfMatchValue) : Type 0 where
  pub alive : is_dead (key_down_to d v v.start) ≡ false
  pub later : v.start < found.offset
  pub finds : FindsStart d v (Some found)
  pub lies : LiesInRange d v (Some found)

-- Why it has no answer, where no byte under this place was to be read. A place is told that is the first one under it.
abbrev pub LimitedFails : Dfa → InputValue → (min_start : ℕ) → (gives_up wants : Type 0) → RetryError → Type 0
LimitedFails d v min_start gives_up wants (Quadratic (Below at least)) =
    (least ≡ min_start) × IsBelow d v at min_start × ((place : ℕ) → at < place → place + 1 < v.end → min_start ≤ place)
LimitedFails d v min_start gives_up wants (Quadratic (AtStart found)) = IsAtStart d v found
LimitedFails d v min_start gives_up wants (Quadratic (Candidate start stopped)) = ⊥
LimitedFails d v min_start gives_up wants (Fail offset) = FailsAt d.nfa v gives_up wants offset
LimitedFails d v min_start gives_up wants Memory = wants

-- It met nothing for which it is to refuse: it was over before any byte under this place that it came to, and at the span's start
-- where it found a later start.
pub record IsWithin (d : Dfa) (v : InputValue) (min_start : ℕ) (found : Option HalfMatchValue) : Type 0 where
  pub below : (at : ℕ) → IsBelow d v at min_start → ⊥
  pub at_start : (h : HalfMatchValue) → found ≡ Some h → v.start < h.offset → is_dead (key_down_to d v v.start) ≡ true
