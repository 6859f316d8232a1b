-- The course of one search over the keys of a DFA.
use Rattle.std.specs.Prelude.{◌≡◌, ◌⊎◌, ℕ, zero, suc, ◌-◌, ◌≤◌, ◌<◌, Bool, true, false, [], length, Option, Some, option_map, is_some}
use Rattle.rx_model.specs.Look.{byte_before, byte_after}
use Rattle.rx_model.specs.Search.{is_permitted}
use Rattle.rx_search.specs.Input.{InputValue}
use Rattle.rx_search.specs.declared.match_error.MatchError.{MatchError}
use Rattle.rx_search.specs.declared.match_error.MatchError.TheVariants.{Quit, GaveUp, Memory}
use Rattle.rx_nfa.specs.Automaton.{Surroundings, forwards, backwards}
use Rattle.rx_determinize.specs.Key.{Key, end_key, is_dead}
use Rattle.rx_determinize.specs.Span.{key_at, SeesWhileAlive}
use Rattle.rx_determinize.specs.Permitted.{Progress, fresh, run_within}
use Rattle.rx_determinize.specs.Told.{at_place}
use Rattle.rx_dfa.specs.Automaton.{Dfa, sight_of, first_key, next_key, IsReadable}
use Rattle.rx_dfa.specs.declared.step_error.StepError.{StepError}
use Rattle.rx_dfa.specs.declared.step_error.StepError.TheVariants.{Quit as QuitsAt, GaveUp as GivesUp, Memory as WantsMemory}

-- the error of a step over the byte at `beside`, in a search that is at `place`
abbrev pub placed : (beside place : ℕ) → StepError → MatchError
placed beside place (QuitsAt byte) = Quit byte beside
placed beside place GivesUp = GaveUp place
placed beside place WantsMemory = Memory

-- the progress along n bytes from place i on, where a match may end at these places alone
abbrev pub progress_of : Dfa → Surroundings → (may : ℕ → Bool) → (size n i : ℕ) → Key → Progress → Progress
progress_of d around may size n i k r = run_within d.kind d.nfa.states d.nfa.start_anchored (sight_of d) around may size n i k r

-- the key n bytes on
abbrev pub key_of : Dfa → Surroundings → (n i : ℕ) → Key → Key
key_of d around n i k = key_at d.kind d.nfa.states d.nfa.start_anchored (sight_of d) around n i k

-- the key after the byte at the end of a span, or after the end of the text
abbrev pub end_of : Dfa → Key → (after : Option ℕ) → Key
end_of d k after = end_key d.kind d.nfa.states (sight_of d) k after

-- What one search from place a on met, of a span that ends at b: all that the keys meet up to the place where it stopped, which
-- is b, or a place at which it found a match, where any will do. So far the sight told of look-around, as long as the keys live.
pub record IsMetAlong (d : Dfa) (around : Surroundings) (may : ℕ → Bool) (size b a : ℕ) (k : Key) (earliest : Bool) (r : Progress) : Type 0 where
  pub stop : ℕ
  pub low : a ≤ stop
  pub high : stop ≤ b
  pub is : r ≡ progress_of d around may size (stop - a) a k fresh
  pub sees : SeesWhileAlive d.kind (sight_of d) around size d.nfa.states d.nfa.start_anchored k stop a
  pub whole : (stop ≡ b) ⊎ ((earliest ≡ true) × (is_some r.best ≡ true))

-- one search forwards in the input's span
abbrev pub IsMetForwards : Dfa → InputValue → Progress → Type 0
IsMetForwards d v r =
    IsMetAlong d (forwards d.nfa.terminator v.haystack) (is_permitted d.nfa.utf8 v.haystack) (length v.haystack) v.end v.start
    (first_key d v.anchor (byte_before v.haystack v.start)) v.earliest r

-- what was met at distances from the end of a text of this size, at their places in the text
abbrev pub in_text : (size : ℕ) → Progress → Progress
in_text size r = record { best = option_map (at_place size) r.best; refused = option_map (λ d. size - d) r.refused }

-- one search backwards in the input's span
pub record IsMetBackwards (d : Dfa) (v : InputValue) (met : Progress) : Type 0 where
  pub at_distances : Progress
  pub is : met ≡ in_text (length v.haystack) at_distances
  pub along : IsMetAlong d (backwards d.nfa.terminator v.haystack) (λ i. is_permitted d.nfa.utf8 v.haystack (length v.haystack - i)) (length v.haystack)
      (length v.haystack - v.start) (length v.haystack - v.end) (first_key d v.anchor (byte_after v.haystack v.end)) v.earliest at_distances

-- Over plain states.

-- the key after the first n of these bytes
abbrev pub along : Dfa → (byte : ℕ → ℕ) → (n : ℕ) → Key → Key
along d byte zero k = k
along d byte (suc n) k = next_key d (along d byte n k) (byte n)

-- The keys after each of the first n of these bytes are alive and tell no match, and the bytes are read.
pub record ArePlain (d : Dfa) (byte : ℕ → ℕ) (k : Key) (n : ℕ) : Type 0 where
  pub alive : (i : ℕ) → i < n → is_dead (along d byte (suc i) k) ≡ false
  pub no_match : (i : ℕ) → i < n → (along d byte (suc i) k).matches ≡ []
  pub readable : (i : ℕ) → i < n → IsReadable d.nfa (Some (byte i))

-- A search passed n of so many bytes, and stands in this state: at the last one behind it, and before that behind one byte more, of
-- which nothing is told but that it is read.
pub record IsPassed (Held : ℕ → Key → Type 0) (d : Dfa) (byte : ℕ → ℕ) (k : Key) (n count state : ℕ) : Type 0 where
  pub within : n ≤ count
  pub plain : ArePlain d byte k n
  pub at_end : n ≡ count → Held state (along d byte n k)
  pub behind : n < count → Held state (along d byte (suc n) k) × IsReadable d.nfa (Some (byte n))
