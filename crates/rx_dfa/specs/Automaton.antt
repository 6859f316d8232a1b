-- What a DFA is to a contract: the NFA that it was made of, and how its states stand for keys.
use Rattle.std.specs.Prelude.{◌≡◌, ℕ, ◌<◌, Bool, true, false, List, [], Option, Some, None, IsTrue}
use Rattle.rx_model.specs.Look.{Look}
use Rattle.rx_model.specs.Beside.{is_unicode_word, IsAsciiOrNone}
use Rattle.rx_model.specs.Search.{Anchor}
use Rattle.rx_search.specs.ByteClasses.{AreClasses}
use Rattle.rx_search.specs.LookSet.{has}
use Rattle.rx_search.specs.declared.anchored.MatchKind.{MatchKind}
use Rattle.rx_search.specs.declared.match_error.MatchError.{MatchError}
use Rattle.rx_search.specs.declared.match_error.MatchError.TheVariants.{Quit, GaveUp, HaystackTooLong, UnsupportedAnchored, Memory}
use Rattle.rx_nfa.specs.Nfa.{Nfa, IsInRange}
use Rattle.rx_nfa.specs.NextMatch.{start_of}
use Rattle.rx_nfa.specs.declared.state.State.{State}
use Rattle.rx_determinize.specs.Key.{Key, Sight, start_key, step_key, end_key}
use Rattle.rx_determinize.specs.Sight.{class_beside, class_sight, AreClassesFor}
use Rattle.rx_determinize.specs.Span.{loops_in}
use Rattle.rx_dfa.specs.declared.step_error.StepError.{StepError}
use Rattle.rx_dfa.specs.declared.step_error.StepError.TheVariants.{Quit as QuitsAt, GaveUp as GivesUp, Memory as WantsMemory}

-- The NFA, of which matches are told, and what is kept of the last byte.
pub record Dfa : Type 0 where
  pub nfa : Nfa
  pub kind : MatchKind
  -- the class of each byte, and of each class the least byte, which stands for it
  pub classes : List ℕ
  pub bytes : List ℕ
  -- the class of the last byte is kept
  pub keeps : Bool

-- The NFA's parts fit together, and the classes are some that serve it.
pub record IsSound (d : Dfa) : Type 0 where
  pub in_range : IsInRange d.nfa
  pub classes : AreClasses d.classes
  pub serve : AreClassesFor d.nfa d.keeps d.classes d.bytes

-- what it sees of look-around
abbrev pub sight_of : Dfa → Sight
sight_of d = class_sight d.nfa.terminator d.nfa.reverse d.keeps d.classes d.bytes

-- no thread, no loop, and no match: there is no such start
abbrev pub no_key : (before : Option ℕ) → Key
no_key before = record { threads = []; loops = false; matches = []; before = before }

-- the key where runs start at this state, if it is there
abbrev pub key_from : MatchKind → List State → (loops : Bool) → (before : Option ℕ) → (start : Option ℕ) → Key
key_from kind states loops before None = no_key before
key_from kind states loops before (Some start) = start_key kind states start loops before

-- the key at the first place of a search, where this byte stands beside it, or the text begins there
abbrev pub first_key : Dfa → Anchor → (beside : Option ℕ) → Key
first_key d anchor beside = key_from d.kind d.nfa.states (loops_in anchor) (class_beside d.keeps d.classes d.bytes beside) (start_of d.nfa anchor)

-- it is the key at the first place of a search that is not anchored, whatever stands beside that place
abbrev pub IsStartKey : Dfa → Key → Type 0
IsStartKey d k = (before : Option ℕ) × (k ≡ start_key d.kind d.nfa.states d.nfa.start_anchored true before)

-- The key after a byte. Only the loop begins new runs, and those at the common start.
abbrev pub next_key : Dfa → Key → (byte : ℕ) → Key
next_key d k byte = step_key d.kind d.nfa.states d.nfa.start_anchored (sight_of d) k byte

-- the key after the end of the text
abbrev pub last_key : Dfa → Key → Key
last_key d k = end_key d.kind d.nfa.states (sight_of d) k None

-- the NFA asks for words of Unicode
abbrev pub AsksForWords : Nfa → Type 0
AsksForWords nfa = (kind : Look) × (has nfa.looks kind ≡ true) × IsTrue (is_unicode_word kind)

-- The byte, if there is one, tells its part of each look-around that the NFA asks for: it is ASCII, or the NFA asks for no
-- words of Unicode.
abbrev pub IsReadable : Nfa → (byte : Option ℕ) → Type 0
IsReadable nfa byte = (kind : Look) → has nfa.looks kind ≡ true → IsTrue (is_unicode_word kind) → IsAsciiOrNone byte

-- the NFA asks for words of Unicode, and the byte is above 7F
abbrev pub MakesQuit : Nfa → (byte : ℕ) → Type 0
MakesQuit nfa byte = AsksForWords nfa × (0x7F < byte)

-- Why a step over this byte has no answer, where `gives_up` is what must hold to give up, and `wants` to want memory.
abbrev pub StepFails : Nfa → (byte : Option ℕ) → (gives_up wants : Type 0) → StepError → Type 0
StepFails nfa byte gives_up wants (QuitsAt quit) = (byte ≡ Some quit) × MakesQuit nfa quit
StepFails nfa byte gives_up wants GivesUp = gives_up
StepFails nfa byte gives_up wants WantsMemory = wants

-- Why a search has no start, or no end: the byte beside its span, if there is one, which stands at `beside`, or the same two
-- reasons. It gives up at the place at which it is.
abbrev pub StartFails : Nfa → (byte : Option ℕ) → (beside place : ℕ) → (gives_up wants : Type 0) → MatchError → Type 0
StartFails nfa byte beside place gives_up wants (Quit quit offset) = (offset ≡ beside) × (byte ≡ Some quit) × MakesQuit nfa quit
StartFails nfa byte beside place gives_up wants (GaveUp offset) = (offset ≡ place) × gives_up
StartFails nfa byte beside place gives_up wants (HaystackTooLong len) = ⊥
StartFails nfa byte beside place gives_up wants (UnsupportedAnchored mode) = ⊥
StartFails nfa byte beside place gives_up wants Memory = wants
