-- Keys along a span where no match may start inside a character: a match that ends inside one is not recorded, and the
-- threads that live go on; only where nothing was recorded does an unanchored search begin again behind the first such end.
use Rattle.std.specs.Prelude.{◌≡◌, ℕ, zero, suc, ◌+◌, ◌-◌, ◌<◌, Bool, true, false, List, [], ◌∷◌, length, Option, Some, None, option_map, if◌then◌else◌, nat_lt}
use Rattle.std.specs.Option.{option_or}
use Rattle.rx_model.specs.Runs.{Leads}
use Rattle.rx_model.specs.Search.{Anchor, is_permitted}
use Rattle.rx_search.specs.Matches.{HalfMatchValue, half_match_value}
use Rattle.rx_search.specs.declared.anchored.MatchKind.{MatchKind}
use Rattle.rx_search.specs.declared.anchored.MatchKind.TheVariants.{LeftmostFirst}
use Rattle.rx_nfa.specs.Automaton.{at, automaton, Surroundings, forwards, byte_within}
use Rattle.rx_nfa.specs.Nfa.{Nfa}
use Rattle.rx_nfa.specs.NextMatch.{start_of, next_match_of}
use Rattle.rx_nfa.specs.declared.state.State.{State}
use Rattle.rx_determinize.specs.Key.{Key, Sight, start_key, step_key, end_key}
use Rattle.rx_determinize.specs.Span.{loops_in}

-- What was met so far.
pub record Progress : Type 0 where
  -- the last match that does not end inside a character
  pub best : Option HalfMatchValue
  -- the first place inside a character at which a match ended
  pub refused : Option ℕ

abbrev pub fresh : Progress
fresh = record { best = None; refused = None }

-- where this pattern matches at the place, which is permitted or not
abbrev pub recorded : Bool → (pattern place : ℕ) → Progress → Progress
recorded true pattern place r = record { best = Some (record { pattern = pattern; offset = place }); refused = r.refused }
recorded false pattern place r = record { best = r.best; refused = option_or r.refused (Some place) }

-- where these patterns match at the place
abbrev pub met_within : (may : ℕ → Bool) → (matches : List ℕ) → (place : ℕ) → Progress → Progress
met_within may [] place r = r
met_within may (p ∷ ps) place r = recorded (may place) p place r

-- along the n bytes from place i on, where a match may end at these places alone
unfoldable pub run_within : MatchKind → List State → (start : ℕ) → Sight → Surroundings → (may : ℕ → Bool) → (size n i : ℕ) → Key → Progress → Progress
run_within kind states start sight around may size zero i k r = met_within may (end_key kind states sight k (byte_within around.byte size i)).matches i r
run_within kind states start sight around may size (suc n) i k r =
    let next = step_key kind states start sight k (around.byte i) in
    run_within kind states start sight around may size n (i + 1) next (met_within may next.matches i r)

-- where nothing was recorded, the search that begins behind the first end that was refused, if it is not anchored
abbrev pub begin_again : (loops : Bool) → (b : ℕ) → (refused : Option ℕ) → (ℕ → Option HalfMatchValue) → Option HalfMatchValue
begin_again false b refused go = None
begin_again true b None go = None
begin_again true b (Some place) go = if nat_lt place b then go place else None

-- One search of a..b from this state, where `first` stands for the byte before a: what it recorded, and else the next match
-- behind the first end that was refused, if it is not anchored.
abbrev pub found_once : Nfa → Sight → (utf8 : Bool) → List ℕ → Anchor → (start : ℕ) → (first : Option ℕ) → (b a : ℕ) → Option HalfMatchValue
found_once nfa sight utf8 text anchor start first b a =
    let r = run_within LeftmostFirst nfa.states start sight (forwards nfa.terminator text) (is_permitted utf8 text) (length text) (b - a) a
    (start_key LeftmostFirst nfa.states start (loops_in anchor) first) fresh in
    option_or r.best (begin_again (loops_in anchor) b r.refused (λ place. option_map half_match_value (next_match_of nfa utf8 text anchor b (place + 1))))

-- what the keys answer to a search of a..b, begun again at most n times
unfoldable pub answer_within : List State → (start : ℕ) → Sight → Surroundings → (may : ℕ → Bool) → (size : ℕ) → (loops : Bool) → (b n a : ℕ)
    → (first : Option ℕ) → Option HalfMatchValue
answer_within states start sight around may size loops b zero a first = None
answer_within states start sight around may size loops b (suc n) a first =
    let r = run_within LeftmostFirst states start sight around may size (b - a) a (start_key LeftmostFirst states start loops first) fresh in
    option_or r.best
    (begin_again loops b r.refused (λ place. answer_within states start sight around may size loops b n (place + 1) (sight.class (around.byte place))))

-- the same from this state, if it is there
abbrev pub within_from : List State → Sight → Surroundings → (may : ℕ → Bool) → (size : ℕ) → (loops : Bool) → (first : Option ℕ) → (b a : ℕ) → Option ℕ
    → Option HalfMatchValue
within_from states sight around may size loops first b a None = None
within_from states sight around may size loops first b a (Some start) = answer_within states start sight around may size loops b (b + 1 - a) a first

-- what the keys of the NFA answer to a search of a..b where no match may start inside a character
abbrev pub permitted_answer_of : Nfa → Sight → List ℕ → Anchor → (first : Option ℕ) → (b a : ℕ) → Option HalfMatchValue
permitted_answer_of nfa sight text anchor first b a =
    within_from nfa.states sight (forwards nfa.terminator text) (is_permitted true text) (length text) (loops_in anchor) first b a (start_of nfa anchor)

-- every walk from the start that reads something begins and ends between characters
pub record KeepsCharacters (terminator : ℕ) (states : List State) (text : List ℕ) (end start : ℕ) : Type 0 where
  pub spans : (i e pattern n : ℕ) → Leads (automaton terminator states text end) pattern e n (at start i) → i < e
      → (is_permitted true text i ≡ true) × (is_permitted true text e ≡ true)
