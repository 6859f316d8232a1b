-- The automaton of a list of needles: the trie with a state at each place of its table at which no needle lies yet.
use Rattle.std.specs.Prelude.{◌≡◌, ◌≢◌, ◌⊎◌, ℕ, ◌+◌, ◌-◌, ◌*◌, ◌<◌, ◌≤◌, Bool, false, List, [], All, map, length, drop, slice_index, slice_index_or}
use Rattle.std.specs.Vec.{vec_items}
use Rattle.memchr.specs.Find.{OccursAt}
use Rattle.rx_prefilter.specs.Needles.{first_span}
use Rattle.rx_prefilter.specs.Tries.{stop, word_of, word_at}
use Rattle.rx_prefilter.specs.declared.aho_corasick.automaton.Automaton.{Automaton}
use Rattle.rx_prefilter.specs.declared.aho_corasick.links.Links.{Links}

-- no needle begins with these bytes
abbrev pub NoneBegins : List (List ℕ) → List ℕ → Type 0
NoneBegins needles word = All (λ needle. ¬ OccursAt needle word 0) needles

-- these bytes begin with no needle
abbrev pub NoneWithin : List (List ℕ) → List ℕ → Type 0
NoneWithin needles word = All (λ needle. ¬ OccursAt word needle 0) needles

-- Where these bytes stand in a text, a search from their start on finds what it finds from the start of their last
-- bytes on, which are `to`.
pub record Leads (needles : List (List ℕ)) (word to : List ℕ) : Type 0 where
  pub shorter : length to ≤ length word
  pub reads : (text : List ℕ) (at : ℕ) → OccursAt text word at → OccursAt text to (at + (length word - length to))
  pub keeps : (text : List ℕ) (at : ℕ) → OccursAt text word at → first_span needles text at ≡ first_span needles text (at + (length word - length to))

-- what may stand at a place of the table: no state, where no needle begins with the bytes that lead there; else a state
-- that these bytes may be left for
abbrev pub IsPlace : List (List ℕ) → List (List ℕ) → ℕ → ℕ → Type 0
IsPlace needles words place state =
    (state ≡ stop → NoneBegins needles (word_at words place))
    × (state ≢ stop → (state < length words) × Leads needles (word_at words place) (word_of words state))

-- where the bytes that lead to a state begin no longer, this state has the longest of their ends that may
abbrev pub IsFail : List (List ℕ) → List (List ℕ) → ℕ → ℕ → Type 0
IsFail needles words state fail =
    (fail < length words) × (0 < length (word_of words state)) × NoneWithin needles (word_of words state)
    × Leads needles (drop 1 (word_of words state)) (word_of words fail)

-- a table, and how many bytes lead to each of its states
pub record IsAutomatonOf (needles : List (List ℕ)) (next depths : List ℕ) : Type 0 where
  pub words : List (List ℕ)
  pub rows : length next ≡ length words * 256
  pub tall : length depths ≡ length words
  pub depths_are : (q : ℕ) → q < length words → slice_index depths q ≡ length (word_of words q)
  pub some : 0 < length words
  pub root : word_of words 0 ≡ []
  pub places : (place : ℕ) → place < length next → IsPlace needles words place (slice_index next place)

abbrev pub IsAutomaton : Automaton → Type 0
IsAutomaton a = IsAutomatonOf (map vec_items a.needles.items) a.next.items a.depths.items

-- the same while it is filled
pub record IsLinkedOf (needles : List (List ℕ)) (next depths : List ℕ) (ends : List Bool) (fails queue : List ℕ) : Type 0 where
  pub automaton : IsAutomatonOf needles next depths
  pub wide : length ends ≡ length depths
  pub narrow : length fails ≡ length depths
  pub ended : (q : ℕ) → q < length depths → slice_index_or ends q false ≡ false → All (λ needle. needle ≢ word_of automaton.words q) needles
  pub failing : (q : ℕ) → q < length depths → slice_index fails q ≢ stop → IsFail needles automaton.words q (slice_index fails q)
  pub queued : (k : ℕ) → k < length queue → slice_index queue k < length depths

abbrev pub IsLinked : Links → Type 0
IsLinked l = IsLinkedOf (map vec_items l.needles.items) l.next.items l.depths.items l.ends.items l.fails.items l.queue.items

-- where the bytes of a state and one more may be left for: nothing, or the state of no bytes, or what stands for the
-- state that its own are left for
abbrev pub IsLater : List ℕ → List Bool → List ℕ → ℕ → ℕ → ℕ → Type 0
IsLater next ends fails state byte later =
    (later ≡ stop)
    ⊎ (((state ≡ 0) × (slice_index_or ends 0 false ≡ false) × (later ≡ 0))
    ⊎ ((slice_index fails state ≢ stop) × (later ≡ slice_index next (slice_index fails state * 256 + byte))))

-- in a text before place `at`: the bytes of the state stand there, and a search finds what it finds from their start on
pub record IsReading (needles : List (List ℕ)) (next depths text : List ℕ) (from at state : ℕ) : Type 0 where
  pub automaton : IsAutomatonOf needles next depths
  pub within : state < length depths
  pub behind : length (word_of automaton.words state) ≤ at
  pub reads : OccursAt text (word_of automaton.words state) (at - length (word_of automaton.words state))
  pub keeps : first_span needles text from ≡ first_span needles text (at - length (word_of automaton.words state))
