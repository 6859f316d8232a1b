-- The next match and the successive matches, said as relations.
use Rattle.std.specs.Prelude.{◌≡◌, ℕ, ◌+◌, ◌*◌, ◌≤◌, ◌⊎◌, List, [], ◌∷◌, Option, Some, None, slice_get, IsTrue}
use Rattle.rx_model.specs.Expression.{Expression, Expressions, empty, literal, class, look, repetition, capture, concat, alternation, nil, cons}
use Rattle.rx_model.specs.Runs.{Configuration, PriorityGraph, Trace, IsRun, nowhere, trace}
use Rattle.rx_model.specs.Graph.{Part, at, build_pattern, runs_of}
use Rattle.rx_model.specs.Search.{Patterns, slot_of, first, is_permitted, Anchor, free, anchored, anchored_to, Match, next_after}

-- the place lies in a..b, and is its first one where the search is anchored
abbrev pub IsStart : Anchor → (b a place : ℕ) → Type 0
IsStart free b a place = (a ≤ place) × (place ≤ b)
IsStart anchored b a place = (place ≡ a) × (a ≤ b)
IsStart (anchored_to pattern) b a place = (place ≡ a) × (a ≤ b)

-- the search looks for the pattern
abbrev pub IsSought : Anchor → (pattern : ℕ) → Type 0
IsSought free p = Unit {0}
IsSought anchored p = Unit {0}
IsSought (anchored_to pattern) p = p ≡ pattern

-- the part that is the graph of pattern p
abbrev pub part_of : Patterns → ℕ → Expression → Part
part_of r p h = build_pattern (slot_of r p) p h

-- the runs of pattern p within `end`
abbrev pub runs_of_pattern : Patterns → (text : List ℕ) → (end p : ℕ) → Expression → PriorityGraph
runs_of_pattern r text end p h = runs_of r.terminator text end (part_of r p h).states

module _ (r : Patterns) (text : List ℕ) (anchor : Anchor) (b : ℕ) where
  -- the pattern is sought, and its first run from the place tells t
  abbrev pub HasFirstRun : (place pattern : ℕ) → Trace → Type 0
  HasFirstRun place p t = IsSought anchor p × ((h : Expression) × (slice_get r.expressions p ≡ Some h) × (first r text b p h place ≡ Some t))

  module _ (a : ℕ) where
    -- a match may start at the place
    abbrev pub MayStart : (place : ℕ) → Type 0
    MayStart place = IsStart anchor b a place × IsTrue (is_permitted r.utf8_empty text place)

    -- The next match: at the least start from which a pattern has a run, the first run of the least such pattern.
    pub record IsNextMatch (m : Match) : Type 0 where
      pub start : MayStart m.start
      -- what it tells is the first run of its pattern from its start
      pub run : HasFirstRun m.start m.trace.pattern m.trace
      -- no pattern has a run from an earlier start, nor an earlier pattern from this one
      pub least_start : (place p : ℕ) (t : Trace) → MayStart place → HasFirstRun place p t → m.start ≤ place
      pub least_pattern : (p : ℕ) (t : Trace) → HasFirstRun m.start p t → m.trace.pattern ≤ p

    -- A match: what an accepting run tells, of a pattern that is sought, from where a match may start.
    pub record IsMatch (m : Match) : Type 0 where
      pub start : MayStart m.start
      pub sought : IsSought anchor m.trace.pattern
      pub expression : Expression
      pub is_there : slice_get r.expressions m.trace.pattern ≡ Some expression
      pub run : List Configuration
      pub accepting : IsRun (runs_of_pattern r text b m.trace.pattern expression) nowhere (at (part_of r m.trace.pattern expression).start m.start) run
      pub tells : m.trace ≡ trace (runs_of_pattern r text b m.trace.pattern expression) (at (part_of r m.trace.pattern expression).start m.start) run

-- The successive matches from the next one on: each is the one after the match before it, and after the last there is none.
abbrev pub AreSuccessive : (ℕ → Option Match) → Option Match → List Match → Type 0
AreSuccessive search None [] = Unit {0}
AreSuccessive search None (n ∷ ms) = ⊥
AreSuccessive search (Some m) [] = ⊥
AreSuccessive search (Some m) (n ∷ ms) = (n ≡ m) × AreSuccessive search (next_after search m.trace.end) ms

-- a group with this number stands in
unfoldable mutual
  -- the expression
  pub StandsIn : (group : ℕ) → Expression → Type 0
  StandsIn g empty = ⊥
  StandsIn g (literal bytes) = ⊥
  StandsIn g (class members) = ⊥
  StandsIn g (look kind) = ⊥
  StandsIn g (repetition least greatest greedy sub) = StandsIn g sub
  StandsIn g (capture group name sub) = (g ≡ group) ⊎ StandsIn g sub
  StandsIn g (concat subs) = StandsAmong g subs
  StandsIn g (alternation subs) = StandsAmong g subs

  -- one of the list
  pub StandsAmong : (group : ℕ) → Expressions → Type 0
  StandsAmong g nil = ⊥
  StandsAmong g (cons sub subs) = StandsIn g sub ⊎ StandsAmong g subs

-- the slot is one of the two of an explicit group of pattern p, whose expression is h; there are none where the
-- explicit groups have no slots
abbrev pub IsExplicit : Patterns → ℕ → Expression → (slot : ℕ) → Type 0
IsExplicit r p h slot = (g : ℕ) × (first : ℕ) × StandsIn g h × (slot_of r p g ≡ Some first) × ((slot ≡ first) ⊎ (slot ≡ first + 1))

-- the slot is of pattern p: one of its whole match, or one of its explicit groups
abbrev pub IsSlotOf : Patterns → ℕ → Expression → (slot : ℕ) → Type 0
IsSlotOf r p h slot = (slot ≡ 2 * p) ⊎ (slot ≡ 2 * p + 1) ⊎ IsExplicit r p h slot
