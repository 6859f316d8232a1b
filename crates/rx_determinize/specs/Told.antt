-- What keys tell under `All`: the patterns that have a run which ends at a place, and so, of a text that is read backwards,
-- those of which a match starts there.
use Rattle.std.specs.Prelude.{◌≡◌, ℕ, ◌-◌, ◌≤◌, Bool, true, false, List, length, Option, Some, option_map, slice_get}
use Rattle.rx_model.specs.Expression.{Expression}
use Rattle.rx_model.specs.Meaning.{Means}
use Rattle.rx_model.specs.Runs.{Leads}
use Rattle.rx_model.specs.Search.{Anchor, Patterns, is_permitted}
use Rattle.rx_model.specs.Matches.{IsSought}
use Rattle.rx_search.specs.Matches.{HalfMatchValue}
use Rattle.rx_search.specs.declared.anchored.MatchKind.TheVariants.{All}
use Rattle.rx_nfa.specs.Automaton.{at, automaton_over, Surroundings, backwards}
use Rattle.rx_nfa.specs.Nfa.{Nfa}
use Rattle.rx_nfa.specs.NextMatch.{start_of}
use Rattle.rx_nfa.specs.declared.state.State.{State}
use Rattle.rx_determinize.specs.Key.{Sight, start_key}
use Rattle.rx_determinize.specs.Span.{run_from}
use Rattle.rx_determinize.specs.Permitted.{fresh, run_within}

-- A walk leads from the start, at place a, to a match of the pattern that ends at e; or at any place from a to e where the
-- search is not anchored.
pub record HasRunTo (around : Surroundings) (states : List State) (start : ℕ) (loops : Bool) (a pattern e : ℕ) : Type 0 where
  pub from : ℕ
  pub low : a ≤ from
  pub high : from ≤ e
  pub anchored : loops ≡ false → from ≡ a
  pub steps : ℕ
  pub leads : Leads (automaton_over around states e) pattern e steps (at start from)

-- It has a run that ends at its place in a..b. None ends later, and no lesser pattern has one that ends there.
pub record IsLast (around : Surroundings) (states : List State) (start : ℕ) (loops : Bool) (b a : ℕ) (h : HalfMatchValue) : Type 0 where
  pub from : a ≤ h.offset
  pub to : h.offset ≤ b
  pub runs : HasRunTo around states start loops a h.pattern h.offset
  pub latest : (pattern e : ℕ) → a ≤ e → e ≤ b → HasRunTo around states start loops a pattern e → e ≤ h.offset
  pub least : (pattern : ℕ) → HasRunTo around states start loops a pattern h.offset → h.pattern ≤ pattern

-- The same where a match may end at these places alone.
pub record IsLastWhere (may : ℕ → Bool) (around : Surroundings) (states : List State) (start : ℕ) (loops : Bool) (b a : ℕ) (h : HalfMatchValue) : Type 0 where
  pub from : a ≤ h.offset
  pub to : h.offset ≤ b
  pub ends : may h.offset ≡ true
  pub runs : HasRunTo around states start loops a h.pattern h.offset
  pub latest : (pattern e : ℕ) → a ≤ e → e ≤ b → may e ≡ true → HasRunTo around states start loops a pattern e → e ≤ h.offset
  pub least : (pattern : ℕ) → HasRunTo around states start loops a pattern h.offset → h.pattern ≤ pattern

-- the pattern is sought, and means i..b
pub record MeansUpTo (r : Patterns) (text : List ℕ) (anchor : Anchor) (b pattern i : ℕ) : Type 0 where
  pub sought : IsSought anchor pattern
  pub expression : Expression
  pub is : slice_get r.expressions pattern ≡ Some expression
  pub means : Means r.terminator text expression i b

-- Its pattern means the part of a..b from its place to b. None that is sought means a longer part, and no lesser pattern
-- means this one.
pub record IsLeastStart (r : Patterns) (text : List ℕ) (anchor : Anchor) (b a : ℕ) (h : HalfMatchValue) : Type 0 where
  pub from : a ≤ h.offset
  pub to : h.offset ≤ b
  pub means : MeansUpTo r text anchor b h.pattern h.offset
  pub longest : (pattern i : ℕ) → a ≤ i → i ≤ b → MeansUpTo r text anchor b pattern i → h.offset ≤ i
  pub least : (pattern : ℕ) → MeansUpTo r text anchor b pattern h.offset → h.pattern ≤ pattern

-- The same among the places at which a match may start.
pub record IsLeastStartWhere (r : Patterns) (utf8 : Bool) (text : List ℕ) (anchor : Anchor) (b a : ℕ) (h : HalfMatchValue) : Type 0 where
  pub from : a ≤ h.offset
  pub to : h.offset ≤ b
  pub starts : is_permitted utf8 text h.offset ≡ true
  pub means : MeansUpTo r text anchor b h.pattern h.offset
  pub longest : (pattern i : ℕ) → a ≤ i → i ≤ b → is_permitted utf8 text i ≡ true → MeansUpTo r text anchor b pattern i → h.offset ≤ i
  pub least : (pattern : ℕ) → MeansUpTo r text anchor b pattern h.offset → h.pattern ≤ pattern

-- what is told at a distance from the end of a text of this size, at its place in the text
abbrev pub at_place : (size : ℕ) → HalfMatchValue → HalfMatchValue
at_place size h = record { pattern = h.pattern; offset = size - h.offset }

-- What the keys of an NFA that reads backwards answer to a search of a..b, where `last` stands for the byte at b.
abbrev pub reverse_answer_of : Nfa → Sight → List ℕ → Anchor → (last : Option ℕ) → (b a : ℕ) → Option HalfMatchValue
reverse_answer_of nfa sight text anchor last b a =
    option_map (at_place (length text))
    (run_from All nfa.states sight (backwards nfa.terminator text) (length text) false last (length text - a) (length text - b) (start_of nfa anchor))

-- What one search of a..b records from this state, where a match may start at the places that are permitted.
abbrev pub reverse_once : Nfa → Sight → (utf8 : Bool) → List ℕ → (start : ℕ) → (last : Option ℕ) → (b a : ℕ) → Option HalfMatchValue
reverse_once nfa sight utf8 text start last b a =
    option_map (at_place (length text))
    (run_within All nfa.states start sight (backwards nfa.terminator text) (λ d. is_permitted utf8 text (length text - d)) (length text)
    (length text - a - (length text - b)) (length text - b) (start_key All nfa.states start false last) fresh).best
