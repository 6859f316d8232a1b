-- What a search of a one-pass DFA answers.
use Rattle.std.specs.Prelude.{◌≡◌, ℕ, ◌+◌, ◌-◌, ◌*◌, ◌<◌, ◌≤◌, ◌==◌, ◌&&◌, nat_le, nat_lt, Bool, false, List, length, Option, Some, None, option_map, replicate, IfSome, IfNone, if◌then◌else◌, slice_index, slice_index_or}
use Rattle.rx_model.specs.Runs.{Trace, everywhere, ending_at, last_write}
use Rattle.rx_model.specs.Search.{Anchor, free, anchored, anchored_to, Match, is_permitted}
use Rattle.rx_search.specs.Anchored.{anchor_of}
use Rattle.rx_search.specs.Input.{InputValue}
use Rattle.rx_search.specs.Matches.{MatchValue}
use Rattle.rx_search.specs.Told.{LiesIn}
use Rattle.rx_search.specs.declared.anchored.MatchKind.{MatchKind}
use Rattle.rx_search.specs.declared.anchored.MatchKind.TheVariants.{All, LeftmostFirst}
use Rattle.rx_search.specs.declared.match_error.MatchError.{MatchError}
use Rattle.rx_search.specs.declared.match_error.MatchError.TheVariants.{Quit, GaveUp, HaystackTooLong, UnsupportedAnchored, Memory}
use Rattle.rx_nfa.specs.Nfa.{Nfa}
use Rattle.rx_nfa.specs.NextMatch.{start_of}
use Rattle.rx_onepass_table.specs.Along.{first_from, farthest}
use Rattle.rx_onepass_table.specs.Entry.{explicit_start}
use Rattle.rx_onepass_table.specs.Rows.{IsRowOf, IsTableOf}
use Rattle.rx_onepass_build.specs.Config.{kind_of, each_of}
use Rattle.rx_onepass.specs.Dfa.{Dfa}

-- What the runs tell.

-- each search begins where the span does, one that is not anchored too
abbrev pub taken_as : Anchor → Anchor
taken_as free = anchored
taken_as anchored = anchored
taken_as (anchored_to p) = anchored_to p

-- the runs of an NFA from this state: the first, or under All the first of those of the farthest end
abbrev pub run_from : MatchKind → Nfa → List ℕ → (end q place : ℕ) → Option Trace
run_from LeftmostFirst nfa text end q place = first_from nfa everywhere text end q place
run_from All nfa text end q place = farthest (λ e. first_from nfa (ending_at e) text end q place) (end + 1 - place) place

-- the same, where there is such a state
abbrev pub run_of : MatchKind → Nfa → List ℕ → (end : ℕ) → Option ℕ → (place : ℕ) → Option Trace
run_of kind nfa text end None place = None
run_of kind nfa text end (Some q) place = run_from kind nfa text end q place

-- a match may start where the span does, and the span has a place left
abbrev pub may_start : Dfa → InputValue → Bool
may_start d v = nat_le v.start v.end && is_permitted d.nfa.utf8 v.haystack v.start

-- the bytes of the span are bytes
abbrev pub HasBytes : InputValue → Type 0
HasBytes v = (k : ℕ) → k < v.end → slice_index v.haystack k < 256

-- the run that a search tells
abbrev pub run_in : Dfa → InputValue → Option Trace
run_in d v =
    if may_start d v then run_of (kind_of d.config) d.nfa v.haystack v.end (start_of d.nfa (taken_as v.anchor)) v.start else None

-- the match of a run from this place
abbrev pub match_from : (start : ℕ) → Trace → MatchValue
match_from start t = record { pattern = t.pattern; start = start; end = t.end }

-- a run from this place, as a match of the model
abbrev pub started_at : (start : ℕ) → Trace → Match
started_at start t = record { start = start; trace = t }

-- one of the slots of explicit groups
abbrev pub is_explicit : Nfa → (slot : ℕ) → Bool
is_explicit nfa slot = nat_le (explicit_start nfa) slot && nat_lt slot nfa.slots

-- What a run leaves in a slot: in those of its pattern its start and its end, in those of explicit groups the last place that it
-- wrote there, and nothing in others.
abbrev pub slot_of : Nfa → (start : ℕ) → Trace → (slot : ℕ) → Option ℕ
slot_of nfa start t slot =
    if slot == 2 * t.pattern then Some start else if slot == 2 * t.pattern + 1 then Some t.end else if is_explicit nfa slot then last_write t.writes slot
    else None

abbrev pub AreSlotsOf : Nfa → (start : ℕ) → List (Option ℕ) → Trace → Type 0
AreSlotsOf nfa start slots t = (k : ℕ) → k < length slots → slice_index_or slots k None ≡ slot_of nfa start t k

-- What a search answers, and leaves in the slots.
pub record IsFound (d : Dfa) (v : InputValue) (found : Option MatchValue) (slots : List (Option ℕ)) : Type 0 where
  pub value : found ≡ option_map (match_from v.start) (run_in d v)
  pub slots_are : IfSome (run_in d v) (AreSlotsOf d.nfa v.start slots)
  pub none : IfNone found (slots ≡ replicate (length slots) None)
  pub within : IfSome found (LiesIn v)

-- the same of a search that tells the pattern alone
pub record IsTold (d : Dfa) (v : InputValue) (pattern : Option ℕ) (slots : List (Option ℕ)) : Type 0 where
  pub value : pattern ≡ option_map (λ t. t.pattern) (run_in d v)
  pub slots_are : IfSome (run_in d v) (AreSlotsOf d.nfa v.start slots)
  pub none : IfNone pattern (slots ≡ replicate (length slots) None)

-- Refusals.

-- the automaton does not search in this mode
abbrev pub IsUnsupported : Dfa → Anchor → Type 0
IsUnsupported d free = d.nfa.always_start_anchored ≡ false
IsUnsupported d anchored = ⊥
IsUnsupported d (anchored_to p) = each_of d.config ≡ false

-- why a search gives no answer: exactly where the span has a place left
abbrev pub IsRefusal : Dfa → InputValue → MatchError → Type 0
IsRefusal d v (Quit byte offset) = ⊥
IsRefusal d v (GaveUp offset) = ⊥
IsRefusal d v (HaystackTooLong len) = ⊥
IsRefusal d v (UnsupportedAnchored mode) = (v.start ≤ v.end) × (anchor_of mode ≡ v.anchor) × IsUnsupported d v.anchor
IsRefusal d v Memory = ⊥

-- Rows.

-- the row is that of a state at which searches begin
pub record BelongsTo (d : Dfa) (row q : ℕ) : Type 0 where
  pub entries : List ℕ
  pub table : IsTableOf d.nfa entries d.table
  pub row_of : IsRowOf entries row q
  pub inside : row < d.table.rows

-- the row in which a search of this mode begins, where its pattern is there
abbrev pub IsStartRow : Dfa → Anchor → Option ℕ → Type 0
IsStartRow d anchor None = start_of d.nfa (taken_as anchor) ≡ None
IsStartRow d anchor (Some row) = (q : ℕ) × (start_of d.nfa (taken_as anchor) ≡ Some q) × BelongsTo d row q
