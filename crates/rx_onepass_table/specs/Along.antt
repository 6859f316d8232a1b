-- The walk along the rows of a table, and what it tells.
use Rattle.std.specs.Prelude.{◌≡◌, ℕ, zero, suc, ◌+◌, Bool, true, false, not, ◌&&◌, ◌||◌, List, [], ◌∷◌, ◌++◌, Option, Some, None, if◌then◌else◌, ◌==◌, slice_index, slice_index_or}
use Rattle.std.specs.Int.{bit_at}
use Rattle.std.specs.Option.{option_or}
use Rattle.rx_model.specs.Look.{Look, holds, kinds, start_text}
use Rattle.rx_model.specs.Runs.{Trace, Sieve, sieved, sifted, first_trace, last_write}
use Rattle.rx_nfa.specs.Automaton.{at, automaton}
use Rattle.rx_nfa.specs.Nfa.{Nfa}
use Rattle.rx_onepass_table.specs.Entry.{explicit_start}
use Rattle.rx_onepass_table.specs.Rows.{TableValue, step_in, final_in}
use Rattle.rx_onepass_table.specs.Words.{Step, Final, dead, few_looks, slot_limit}

-- the kind of look-around of this number
abbrev pub kind_at : ℕ → Look
kind_at number = slice_index_or kinds number start_text

-- of the kinds below n, each that is in the set holds at the place
unfoldable pub hold_below : (terminator : ℕ) → List ℕ → (set place n : ℕ) → Bool
hold_below terminator text set place zero = true
hold_below terminator text set place (suc n) =
    (not (bit_at set n == 1) || holds terminator text (kind_at n) place) && hold_below terminator text set place n

-- each look-around of the set holds at the place
abbrev pub all_hold : (terminator : ℕ) → List ℕ → (set place : ℕ) → Bool
all_hold terminator text set place = hold_below terminator text set place few_looks

-- the explicit slots of the set below the n-th one, each written at the place
unfoldable pub written_below : (start set place n : ℕ) → List (ℕ × ℕ)
written_below start set place zero = []
written_below start set place (suc n) =
    if bit_at set n == 1 then (start + n, place) ∷ written_below start set place n else written_below start set place n

-- the explicit slots of the set, each written at the place
abbrev pub written_at : Nfa → (set place : ℕ) → List (ℕ × ℕ)
written_at nfa set place = written_below (explicit_start nfa) set place slot_limit

-- before what comes, if it comes, these writes
abbrev pub with_writes : List (ℕ × ℕ) → Option Trace → Option Trace
with_writes before None = None
with_writes before (Some t) = Some (record t { writes = before ++ t.writes })

-- what a run of the pattern tells that ends here, if there is one
abbrev pub trace_of : Option ℕ → (place : ℕ) → List (ℕ × ℕ) → Option Trace
trace_of None place writes = None
trace_of (Some p) place writes = Some (record { pattern = p; end = place; writes = writes })

-- the match that a row tells at its place, where it is permitted
abbrev pub told_here : Nfa → Sieve → List ℕ → Final → (place : ℕ) → Option Trace
told_here nfa ok text f place =
    if all_hold nfa.terminator text f.looks place then trace_of (sifted ok place f.pattern) place (written_at nfa f.slots place) else None

-- the one that is preferred first: what the row tells, where it wins, or else what comes later
abbrev pub preferred : (wins : Bool) → (here later : Option Trace) → Option Trace
preferred true here later = option_or here later
preferred false here later = option_or later here

-- a transition leads anywhere at the place
abbrev pub goes_on : Nfa → List ℕ → Step → (place : ℕ) → Bool
goes_on nfa text s place = not (s.target == dead) && all_hold nfa.terminator text s.looks place

-- what comes later, over a transition
abbrev pub told_later : Nfa → List ℕ → Step → (place : ℕ) → Option Trace → Option Trace
told_later nfa text s place later = if goes_on nfa text s place then with_writes (written_at nfa s.slots place) later else None

-- The walk over the n bytes from a place on, where the patterns may be accepted so. Where a match of a state may win, it is
-- preferred to what comes later, if its transition tells that it wins; else what comes later is preferred.
unfoldable pub walk : Nfa → TableValue → (may_win : Bool) → Sieve → List ℕ → (n place row : ℕ) → Option Trace
walk nfa t may_win ok text zero place row = told_here nfa ok text (final_in t row) place
walk nfa t may_win ok text (suc n) place row =
    let s = step_in t row (slice_index text place) in
    preferred (may_win && s.wins) (told_here nfa ok text (final_in t row) place)
    (told_later nfa text s place (walk nfa t may_win ok text n (place + 1) s.target))

-- Traces that tell the same: the pattern, the end, and what each explicit slot holds.
pub record TellSame (nfa : Nfa) (one other : Trace) : Type 0 where
  pub pattern : one.pattern ≡ other.pattern
  pub end : one.end ≡ other.end
  pub slots : (k : ℕ) → last_write one.writes (explicit_start nfa + k) ≡ last_write other.writes (explicit_start nfa + k)

-- both are nothing, or they tell the same
abbrev pub BothTellSame : Nfa → (one other : Option Trace) → Type 0
BothTellSame nfa None None = Unit {0}
BothTellSame nfa None (Some t) = ⊥
BothTellSame nfa (Some t) None = ⊥
BothTellSame nfa (Some t) (Some u) = TellSame nfa t u

-- the trace of the greatest end, of the n ends from i on
unfoldable pub farthest : (ending : ℕ → Option Trace) → (n i : ℕ) → Option Trace
farthest ending zero i = None
farthest ending (suc n) i = option_or (farthest ending n (i + 1)) (ending i)

-- the first run from a state of the NFA, where the patterns may be accepted so
abbrev pub first_from : Nfa → Sieve → List ℕ → (end q i : ℕ) → Option Trace
first_from nfa ok text end q i = first_trace (sieved ok (automaton nfa.terminator nfa.states text end)) (at q i)
