-- The search forwards that tells where it stopped.
use Rattle.std.specs.Prelude.{◌≡◌, ℕ, zero, suc, ◌+◌, ◌-◌, Option, Some, None, Result, Ok, Err, false, if◌then◌else◌, nat_le}
use Rattle.rx_model.specs.Look.{byte_before}
use Rattle.rx_search.specs.Input.{InputValue}
use Rattle.rx_search.specs.Matches.{HalfMatchValue}
use Rattle.rx_nfa.specs.Automaton.{Surroundings, forwards}
use Rattle.rx_determinize.specs.Key.{Key, is_dead}
use Rattle.rx_dfa.specs.Automaton.{Dfa, first_key, next_key}
use Rattle.rx_dfa.specs.Course.{IsMetForwards}
use Rattle.rx_limited.specs.Calls.{calls_forwards}

-- Of the n bytes from place i on, the place of the first after which the key is dead; the place behind them where there is none.
unfoldable pub left_dead : Dfa → Surroundings → (n i : ℕ) → Key → ℕ
left_dead d around zero i k = i
left_dead d around (suc n) i k =
    let next = next_key d k (around.byte i) in let later = left_dead d around n (i + 1) next in if is_dead next then i else later

-- where a search forwards stops: at the byte that left it dead, or at the span's end
abbrev pub stop_forwards : Dfa → InputValue → ℕ
stop_forwards d v =
    let place = left_dead d (forwards d.nfa.terminator v.haystack) (v.end - v.start) v.start (first_key d v.anchor (byte_before v.haystack v.start)) in
    if nat_le v.start v.end then place else v.end

-- the end that was found, if there was one
abbrev pub end_found : Result HalfMatchValue ℕ → Option HalfMatchValue
end_found (Ok h) = Some h
end_found (Err place) = None

-- what one search met, where it stopped, and the number of steps before it and after
pub record IsStop (d : Dfa) (v : InputValue) (old new : ℕ) (best : Option HalfMatchValue) (place : ℕ) : Type 0 where
  pub refused : Option ℕ
  pub met : IsMetForwards d v (record { best = best; refused = refused })
  pub stop : best ≡ None → place ≡ stop_forwards d v
  pub ticks : v.earliest ≡ false → new ≡ old + calls_forwards d v

abbrev pub IsStopped : Dfa → InputValue → (old new : ℕ) → Option HalfMatchValue × ℕ → Type 0
IsStopped d v old new p = IsStop d v old new p.0 p.1
