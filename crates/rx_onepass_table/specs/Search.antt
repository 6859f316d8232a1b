-- What a search along a table answers, and what it keeps on the way.
use Rattle.std.specs.Prelude.{◌≡◌, ℕ, suc, ◌+◌, ◌-◌, ◌^◌, ◌<◌, Bool, true, false, ◌&&◌, ◌||◌, List, [], ◌∷◌, length, Option, Some, None, option_map, is_some, IfSome, if◌then◌else◌, ◌==◌, slice_index_or}
use Rattle.std.specs.Int.{bit_at}
use Rattle.std.specs.Option.{option_or}
use Rattle.rx_model.specs.Runs.{Trace, everywhere, last_write}
use Rattle.rx_search.specs.Matches.{HalfMatchValue}
use Rattle.rx_nfa.specs.Nfa.{Nfa}
use Rattle.rx_nfa.specs.Ordered.{half}
use Rattle.rx_onepass_table.specs.Along.{all_hold, walk, with_writes}
use Rattle.rx_onepass_table.specs.Entry.{explicit_start}
use Rattle.rx_onepass_table.specs.Rows.{TableValue}
use Rattle.rx_onepass_table.specs.Words.{Step, Final}
use Rattle.rx_onepass_table.specs.declared.walk.Told.{Told}

-- the slots are those that were written so: slot k is the k-th of the explicit ones
abbrev pub AreWritten : Nfa → List (ℕ × ℕ) → List (Option ℕ) → Type 0
AreWritten nfa writes slots = (k : ℕ) → k < length slots → slice_index_or slots k None ≡ last_write writes (explicit_start nfa + k)

-- What a search answers, where the walk tells this: its match, with its slots; with `earliest` some match, exactly where there is
-- one.
pub record IsAnswer (nfa : Nfa) (earliest : Bool) (told : Option Trace) (result : Option HalfMatchValue) (out : List (Option ℕ)) : Type 0 where
  pub value : earliest ≡ false → result ≡ option_map half told
  pub any : is_some result ≡ is_some told
  pub slots : earliest ≡ false → IfSome told (λ t. AreWritten nfa t.writes out)

-- What the slots hold where those of the set are written at the place, and the others are what stands in these; from the k-th on.
unfoldable pub put_from : (set place k : ℕ) → List (Option ℕ) → List (Option ℕ)
put_from set place k [] = []
put_from set place k (slot ∷ slots) = (if bit_at set k == 1 then Some place else slot) ∷ put_from set place (suc k) slots

-- what the slots hold once those that are left are put
abbrev pub shown : Option Told → (places out : List (Option ℕ)) → List (Option ℕ)
shown None places out = out
shown (Some t) places out = put_from t.slots t.at 0 places

-- a slot has room for the place at which those that are left are put
abbrev pub IsSmall : Option Told → Type 0
IsSmall left = IfSome left (λ t. t.at < 2 ^ 64 - 1)

-- What it is to go on over a transition that leads somewhere: its slots are written at the place, and what is shown stays. Where its
-- look-arounds do not hold, nothing changes.
pub record IsPassed (nfa : Nfa) (text : List ℕ) (s : Step) (place : ℕ) (passes : Bool) (places places' out out' : List (Option ℕ)) : Type 0 where
  pub looks : passes ≡ all_hold nfa.terminator text s.looks place
  pub stays : passes ≡ false → (places' ≡ places) × (out' ≡ out)
  pub written : passes ≡ true → (k : ℕ) → k < length places'
      → slice_index_or places' k None ≡ (if bit_at s.slots k == 1 then Some place else slice_index_or places k None)
  pub same : passes ≡ true → (k : ℕ) → k < length out' → slice_index_or out' k None ≡ slice_index_or out k None

-- What a row tells at its place: the match, and its slots, behind those of the places; or nothing.
pub record IsTellingOf (f : Final) (place : ℕ) (told : Option Trace) (places : List (Option ℕ)) (best best' : Option HalfMatchValue)
    (out out' : List (Option ℕ)) : Type 0 where
  pub some : IfSome told (λ t. best' ≡ Some (half t))
  pub slots : IfSome told (λ t. (k : ℕ) → k < length out'
      → slice_index_or out' k None ≡ (if bit_at f.slots k == 1 then Some place else slice_index_or places k None))
  pub none : told ≡ None → (best' ≡ best) × (out' ≡ out)

-- What a search keeps, with n bytes left: the walk from here, behind what was written, and else the best before, is what the whole
-- walk tells.
pub record IsSearching (nfa : Nfa) (t : TableValue) (may_win : Bool) (text : List ℕ) (told : Option Trace) (n place row : ℕ)
    (places : List (Option ℕ)) (best : Option HalfMatchValue) (out : List (Option ℕ)) : Type 0 where
  pub writes : List (ℕ × ℕ)
  pub before : Option Trace
  pub told_is : told ≡ option_or (with_writes writes (walk nfa t may_win everywhere text n place row)) before
  pub places_are : AreWritten nfa writes places
  pub best_is : best ≡ option_map half before
  pub out_are : IfSome before (λ b. AreWritten nfa b.writes out)

-- a search stops at a match
abbrev pub stops : (told earliest may_win wins : Bool) → Bool
stops told earliest may_win wins = told && (earliest || (may_win && wins))
