-- What a bounded backtracker is to a contract, and what its searches answer.
use Rattle.std.specs.Prelude.{◌≡◌, ℕ, ◌+◌, ◌-◌, ◌*◌, ◌/◌, ◌<◌, ◌≤◌, List, length, Option, max, refl}
use Rattle.std.specs.Coded.{Coded, code_by, coded×, coded_ℕ}
use Rattle.rx_search.specs.Input.{InputValue, span_len}
use Rattle.rx_search.specs.declared.match_error.MatchError.{MatchError}
use Rattle.rx_search.specs.declared.match_error.MatchError.TheVariants.{Quit, GaveUp, HaystackTooLong, UnsupportedAnchored, Memory}
use Rattle.rx_nfa.specs.Nfa.{Nfa}
use Rattle.rx_engines.specs.Simulation.{frames_of_states}

pub record BacktrackerValue : Type 0 where
  pub nfa : Nfa
  -- the needles of its prefilter, if it has one
  pub pre : Option (List (List ℕ))

-- The length of the longest span that is searched: 2097152 bits have one for each accounted state at each place, of
-- which there is one more than bytes.
abbrev pub max_len : Nfa → ℕ
max_len nfa = 2097152 / max 1 nfa.accounted - 1

-- The room that a cache has.
pub record Room : Type 0 where
  pub bits : ℕ
  -- how many frames there may be
  pub stack : ℕ
  pub slots : ℕ
  -- what is accounted for it
  pub memory : ℕ
  -- how many words of bits, and how many frames, of a search are still in it
  pub held : ℕ

abbrev pub room_code : Coded Room
room_code =
    code_by (ℕ × (ℕ × (ℕ × (ℕ × ℕ)))) (coded× coded_ℕ (coded× coded_ℕ (coded× coded_ℕ (coded× coded_ℕ coded_ℕ))))
    (λ r. (r.bits, (r.stack, (r.slots, (r.memory, r.held)))))
    (λ p. record { bits = p.0; stack = p.1.0; slots = p.1.1.0; memory = p.1.1.1.0; held = p.1.1.1.1 }) (λ _. refl)

-- no part has less room than before, and so much is accounted as before
pub record HasGrown (old new : Room) : Type 0 where
  pub bits : old.bits ≤ new.bits
  pub stack : old.stack ≤ new.stack
  pub slots : old.slots ≤ new.slots
  pub memory : new.memory ≡ old.memory

-- a cache with this room serves the engine
pub record Fits (nfa : Nfa) (room : Room) : Type 0 where
  pub bits : (max_len nfa + 1) * length nfa.states ≤ room.bits
  pub stack : (max_len nfa + 1) * frames_of_states nfa.states (length nfa.states) ≤ room.stack
  pub slots : nfa.slots ≤ room.slots

-- Why a search has no answer: the span is too long.
abbrev pub IsRefusal : Nfa → InputValue → MatchError → Type 0
IsRefusal nfa v (Quit byte offset) = ⊥
IsRefusal nfa v (GaveUp offset) = ⊥
IsRefusal nfa v (HaystackTooLong len) = (len ≡ span_len v) × (max_len nfa < len)
IsRefusal nfa v (UnsupportedAnchored mode) = ⊥
IsRefusal nfa v Memory = ⊥
