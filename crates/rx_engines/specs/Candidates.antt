-- Where a match may begin, by what an engine knows before a search.
use Rattle.std.specs.Prelude.{◌≡◌, ℕ, ◌+◌, ◌≤◌, Bool, true, false, List, take, Option, None, Some, is_some, IfSome, MatchOption}
use Rattle.rx_model.specs.Runs.{first_trace}
use Rattle.rx_prefilter.specs.Needles.{span_at}
use Rattle.rx_nfa.specs.Automaton.{at, automaton, byte_at}
use Rattle.rx_nfa.specs.Nfa.{Nfa}
use Rattle.rx_nfa.specs.declared.state.State.{State}
use Rattle.rx_engines.specs.StartBytes.{has_byte}
use Rattle.rx_engines.specs.declared.candidates.start_bytes.StartBytes.{StartBytes}
use Rattle.rx_engines.specs.declared.candidates.Candidates.{Candidates}

-- Each run of the states that starts in this one begins with a byte of the set: where the byte at a place is none of them, or
-- the place is the end, there is no run.
abbrev pub AreStartBytes : List State → (start : ℕ) → StartBytes → Type 0
AreStartBytes states start set =
    (terminator : ℕ) (text : List ℕ) (end i : ℕ) → has_byte set.has (byte_at text end i) ≡ false
    → first_trace (automaton terminator states text end) (at start i) ≡ None

-- the bytes of a set of start bytes begin the runs of the NFA
abbrev pub AreOf : Nfa → Candidates → Type 0
AreOf nfa known = IfSome known.bytes (AreStartBytes nfa.states nfa.start_anchored)

-- a byte that begins a run stands at place i, before `end`, if such a set is known
abbrev pub begins_by : Option StartBytes → (text : List ℕ) → (end i : ℕ) → Bool
begins_by None text end i = true
begins_by (Some set) text end i = has_byte set.has (byte_at text end i)

-- a needle lies at place i, and ends by `end`, if there are needles; else it is as told by the bytes
abbrev pub lies_by : Option (List (List ℕ)) → Option StartBytes → (text : List ℕ) → (end i : ℕ) → Bool
lies_by None bytes text end i = begins_by bytes text end i
lies_by (Some needles) bytes text end i = is_some (span_at needles (take end text) i)

-- a run may begin at place i, by one look at the byte there
abbrev pub is_begun : Candidates → (text : List ℕ) → (end i : ℕ) → Bool
is_begun known text end i = begins_by known.bytes text end i

-- place i is a candidate, in a search up to `end`
abbrev pub is_candidate : Candidates → (text : List ℕ) → (end i : ℕ) → Bool
is_candidate known text end i = lies_by known.needles known.bytes text end i

-- the first place from i up to `end` at which the test holds, if there is one
abbrev pub IsNext : (test : ℕ → Bool) → (end i : ℕ) → Option ℕ → Type 0
IsNext test end i r = MatchOption r
    ((j : ℕ) → i ≤ j → j ≤ end → test j ≡ false)
    (λ k. (i ≤ k) × (k ≤ end) × ((j : ℕ) → i ≤ j → j + 1 ≤ k → test j ≡ false) × (test k ≡ true))
