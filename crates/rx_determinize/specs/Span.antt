-- The keys along the bytes of a span, and what they answer.
use Rattle.std.specs.Prelude.{◌≡◌, ◌≤◌, ℕ, zero, suc, ◌+◌, ◌-◌, Bool, false, List, [], ◌∷◌, not, length, Option, Some, None}
use Rattle.rx_model.specs.Search.{Anchor, is_anchored}
use Rattle.rx_search.specs.Matches.{HalfMatchValue}
use Rattle.rx_search.specs.declared.anchored.MatchKind.{MatchKind}
use Rattle.rx_search.specs.declared.anchored.MatchKind.TheVariants.{LeftmostFirst}
use Rattle.rx_nfa.specs.Automaton.{Surroundings, forwards, byte_within}
use Rattle.rx_nfa.specs.Nfa.{Nfa}
use Rattle.rx_nfa.specs.NextMatch.{start_of}
use Rattle.rx_nfa.specs.Ordered.{HoldsAt}
use Rattle.rx_nfa.specs.declared.state.State.{State}
use Rattle.rx_determinize.specs.Key.{Key, Sight, start_key, step_key, end_key}

-- The best match, where these patterns match at the place: a later one is better. Of the patterns the first counts.
abbrev pub met : (matches : List ℕ) → (place : ℕ) → Option HalfMatchValue → Option HalfMatchValue
met [] place best = best
met (p ∷ ps) place best = Some (record { pattern = p; offset = place })

-- The last match met along the n bytes from place i on, where `best` was met before. What a key after a byte tells was there
-- before that byte. The text has `size` bytes, so that the byte behind the span has its part.
unfoldable pub run_keys : MatchKind → List State → (start : ℕ) → Sight → Surroundings → (size n i : ℕ) → Key → Option HalfMatchValue → Option HalfMatchValue
run_keys kind states start sight around size zero i k best = met (end_key kind states sight k (byte_within around.byte size i)).matches i best
run_keys kind states start sight around size (suc n) i k best =
    let next = step_key kind states start sight k (around.byte i) in
    run_keys kind states start sight around size n (i + 1) next (met next.matches i best)

-- what the keys answer to a search of a..b from this state, if it is there, where `first` stands for the byte before a
abbrev pub run_from : MatchKind → List State → Sight → Surroundings → (size : ℕ) → (loops : Bool) → (first : Option ℕ) → (b a : ℕ) → Option ℕ
    → Option HalfMatchValue
run_from kind states sight around size loops first b a None = None
run_from kind states sight around size loops first b a (Some start) =
    run_keys kind states start sight around size (b - a) a (start_key kind states start loops first) None

-- the loop stands in the keys of this search
abbrev pub loops_in : Anchor → Bool
loops_in anchor = not (is_anchored anchor)

-- what the keys of the NFA answer to a search of a..b under leftmost-first, where a match may start inside a character
abbrev pub answer_of : Nfa → Sight → List ℕ → Anchor → (first : Option ℕ) → (b a : ℕ) → Option HalfMatchValue
answer_of nfa sight text anchor first b a =
    run_from LeftmostFirst nfa.states sight (forwards nfa.terminator text) (length text) (loops_in anchor) first b a (start_of nfa anchor)

-- the key n bytes after place i, where it is k at i
unfoldable pub key_at : MatchKind → List State → (start : ℕ) → Sight → Surroundings → (n i : ℕ) → Key → Key
key_at kind states start sight around zero i k = k
key_at kind states start sight around (suc n) i k = key_at kind states start sight around n (i + 1) (step_key kind states start sight k (around.byte i))

-- the patterns that the keys tell of the place n bytes after place i
abbrev pub told_at : MatchKind → List State → (start : ℕ) → Sight → Surroundings → (size n i : ℕ) → Key → List ℕ
told_at kind states start sight around size n i k =
    (end_key kind states sight (key_at kind states start sight around n i k) (byte_within around.byte size (i + n))).matches

-- a thread is left, or the loop
abbrev pub IsAlive : Key → Type 0
IsAlive k = k.threads ≡ [] → k.loops ≡ false → ⊥

-- From place a to place b, where the key is k at a, the sight tells of each look-around that a state asks for whether it holds
-- there, as long as the keys live.
pub record SeesWhileAlive (kind : MatchKind) (sight : Sight) (around : Surroundings) (size : ℕ) (states : List State) (start : ℕ) (k : Key)
    (b a : ℕ) : Type 0 where
  pub sees : (i : ℕ) → a ≤ i → i ≤ b → IsAlive (key_at kind states start sight around (i - a) a k)
      → HoldsAt around states (sight.holds (key_at kind states start sight around (i - a) a k).before (byte_within around.byte size i)) i
