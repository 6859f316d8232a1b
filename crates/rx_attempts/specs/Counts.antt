-- How many steps an attempt takes: those of the searches from each of its candidates, at none of which a guard answers.
use Rattle.std.specs.Prelude.{◌≡◌, ◌⊎◌, ℕ, ◌+◌, ◌≤◌, List, [], ◌∷◌, Option, Some, None, Result, IfSome}
use Rattle.std.specs.Result.{IfErr}
use Rattle.rx_search.specs.Input.{InputValue}
use Rattle.rx_search.specs.Matches.{MatchValue, HalfMatchValue}
use Rattle.rx_search.specs.declared.span.Span.{Span}
use Rattle.rx_dfa.specs.Automaton.{Dfa}
use Rattle.rx_limited.specs.Calls.{calls_backwards, calls_forwards}
use Rattle.rx_limited.specs.Limited.{FindsStart, IsWithin}
use Rattle.rx_limited.specs.Stopat.{stop_forwards}
use Rattle.rx_attempts.specs.Inputs.{up_to, from_start}
use Rattle.rx_attempts.specs.Candidates.{IsTaken, NoneBetween, NoneFrom, IsLastBefore}
use Rattle.rx_attempts.specs.Whole.{match_found}

-- A candidate, and the start that the search backwards from it found.
pub record Trial : Type 0 where
  pub candidate : Span
  pub start : Option HalfMatchValue

-- the steps of the search forwards from a start, if there is one
abbrev pub steps_from : Dfa → InputValue → Option HalfMatchValue → ℕ
steps_from fwd v None = 0
steps_from fwd v (Some h) = calls_forwards fwd (from_start v h)

-- where the search forwards from this start stopped; or else the last one before it
abbrev pub stop_after : Dfa → InputValue → (stopped : ℕ) → Option HalfMatchValue → ℕ
stop_after fwd v stopped None = stopped
stop_after fwd v stopped (Some h) = stop_forwards fwd (from_start v h)

-- What trials leave for the next one, the last of them first: where its candidate ends, and where the last search forwards stopped.
abbrev pub last_end : List Trial → ℕ
last_end [] = 0
last_end (t ∷ ts) = t.candidate.end

abbrev pub last_stop : Dfa → InputValue → List Trial → ℕ
last_stop fwd v [] = 0
last_stop fwd v (t ∷ ts) = stop_after fwd v (last_stop fwd v ts) t.start

-- the start that was found last is this place
abbrev pub BeginsAt : ℕ → List Trial → Type 0
BeginsAt i [] = ⊥
BeginsAt i (t ∷ ts) = (h : HalfMatchValue) × (t.start ≡ Some h) × (h.offset ≡ i)

-- In the span of an input, by searches backwards from this place of each candidate.
module _ (fwd rev : Dfa) (needles : List (List ℕ)) (v : InputValue) (place : Span → ℕ) where
  -- the steps of one trial, and of several
  abbrev pub steps_at : Span → Option HalfMatchValue → ℕ
  steps_at s start = calls_backwards rev (up_to v (place s)) + steps_from fwd v start

  abbrev pub steps_of : List Trial → ℕ
  steps_of [] = 0
  steps_of (t ∷ ts) = steps_of ts + steps_at t.candidate t.start

  -- No guard answers at a candidate from which this start was found: the search backwards met nothing for which it is to refuse, and the
  -- candidate does not lie before the place where a search forwards stopped.
  pub record IsUnguarded (now : Span) (min_start stopped : ℕ) (start : Option HalfMatchValue) : Type 0 where
    pub back : IsWithin rev (up_to v (place now)) min_start start
    pub behind : stopped ≤ now.start

  -- All candidates before a place, the last one first, each with the start that the search backwards from it finds. No guard answers.
  abbrev pub AreTried : (before : ℕ) → List Trial → Type 0
  AreTried before [] = NoneBetween needles v v.start before
  AreTried before (t ∷ ts) =
      IsLastBefore needles v t.candidate before × FindsStart rev (up_to v (place t.candidate)) t.start
      × IsUnguarded t.candidate (last_end ts) (last_stop fwd v ts) t.start × AreTried t.candidate.start ts

  -- The steps are those of all candidates before a place.
  pub record Counts (before old new : ℕ) : Type 0 where
    pub trials : List Trial
    pub tried : AreTried before trials
    pub steps : new ≡ old + steps_of trials

  -- .. and this is what these leave for the next one
  pub record Leaves (before min_start stopped old new : ℕ) : Type 0 where
    pub counts : Counts before old new
    pub least : min_start ≡ last_end counts.trials
    pub stop : stopped ≡ last_stop fwd v counts.trials

  -- The steps are those of all candidates of the span.
  abbrev pub HasCountedAll : (old new : ℕ) → Type 0
  HasCountedAll old new = (before : ℕ) × Counts before old new × NoneFrom needles v before

  -- .. or of all up to the one whose search backwards found this start
  abbrev pub HasCountedTo : (old new start : ℕ) → Type 0
  HasCountedTo old new start = (before : ℕ) × (c : Counts before old new) × BeginsAt start c.trials

  -- so many steps an answer takes: up to the candidate that begins the match; where there is none, those of all
  abbrev pub HasCounted : (old new : ℕ) → Option MatchValue → Type 0
  HasCounted old new None = HasCountedAll old new
  HasCounted old new (Some m) = HasCountedTo old new m.start

  -- .. where the first start that is found is the last one, also if no match is found from it
  abbrev pub HasCountedFirst : (old new : ℕ) → Option MatchValue → Type 0
  HasCountedFirst old new None = HasCountedAll old new ⊎ ((start : ℕ) × HasCountedTo old new start)
  HasCountedFirst old new (Some m) = HasCountedTo old new m.start

  -- those of a search backwards that found nothing, or this start of the candidate behind those before
  abbrev pub HasCountedBack : (old new : ℕ) → Option HalfMatchValue → Type 0
  HasCountedBack old new None = HasCountedAll old new
  HasCountedBack old new (Some start) =
      (now : Span) × (mid : ℕ) × (c : Counts now.start old mid) × IsTaken needles v now × FindsStart rev (up_to v (place now)) (Some start)
      × IsUnguarded now (last_end c.trials) (last_stop fwd v c.trials) (Some start) × (new ≡ mid + calls_backwards rev (up_to v (place now)))

  -- those of one candidate, for which those before it leave these
  abbrev pub HasTried : Span → (min_start stopped old new : ℕ) → Result MatchValue ℕ → Type 0
  HasTried now min_start stopped old new told =
      (start : Option HalfMatchValue) × FindsStart rev (up_to v (place now)) start × IsUnguarded now min_start stopped start
      × (new ≡ old + steps_at now start) × IfSome (match_found told) (λ m. (h : HalfMatchValue) × (start ≡ Some h) × (h.offset ≡ m.start))
      × IfErr told (λ stop. stop ≡ stop_after fwd v stopped start)
