-- What a DFA sees of look-around: the class of the last byte, of which one byte stands for all, and the byte to come.
use Rattle.std.specs.Prelude.{◌≡◌, ℕ, ◌≤◌, ◌<◌, Bool, true, false, List, [], ◌∷◌, ◌++◌, length, All, Option, Some, None, if◌then◌else◌, slice_index}
use Rattle.rx_model.specs.Look as model
use Rattle.rx_model.specs.Look.{holds, byte_before, byte_after}
use Rattle.rx_model.specs.Beside.{IsTold}
use Rattle.rx_search.specs.ByteClasses.{AreRepresentatives}
use Rattle.rx_search.specs.LookSet.{has}
use Rattle.rx_nfa.specs.ByteClasses.{AreOfOneClass}
use Rattle.rx_nfa.specs.Nfa.{Nfa}
use Rattle.rx_determinize.specs.Key.{Sight}

-- the byte as a text, if there is one
abbrev pub text_of : Option ℕ → List ℕ
text_of None = []
text_of (Some b) = b ∷ []

-- The look-around holds between these bytes. Where there is none, the text starts or ends.
abbrev pub holds_between : (terminator : ℕ) → (before after : Option ℕ) → model.Look → Bool
holds_between terminator before after kind = holds terminator (text_of before ++ text_of after) kind (length (text_of before))

-- the same between the byte that was read last and the one that is read next, if the text is read so
abbrev pub holds_along : (terminator : ℕ) → (reverse : Bool) → (last next : Option ℕ) → model.Look → Bool
holds_along terminator false last next kind = holds_between terminator last next kind
holds_along terminator true last next kind = holds_between terminator next last kind

-- the least byte of the byte's class, which stands for the class
abbrev pub stands_for : (classes bytes : List ℕ) → ℕ → ℕ
stands_for classes bytes byte = slice_index bytes (slice_index classes byte)

-- what is kept of a byte: its class, if classes are kept
abbrev pub class_kept : (keeps : Bool) → (classes bytes : List ℕ) → ℕ → Option ℕ
class_kept keeps classes bytes byte = if keeps then Some (stands_for classes bytes byte) else None

-- the same of a byte that may not be there
abbrev pub class_beside : (keeps : Bool) → (classes bytes : List ℕ) → Option ℕ → Option ℕ
class_beside keeps classes bytes None = None
class_beside keeps classes bytes (Some byte) = class_kept keeps classes bytes byte

-- The sight of a DFA of these classes, of each of which its least byte stands for all.
abbrev pub class_sight : (terminator : ℕ) → (reverse keeps : Bool) → (classes bytes : List ℕ) → Sight
class_sight terminator reverse keeps classes bytes = record {
  class = λ byte. class_kept keeps classes bytes byte;
  holds = λ before after kind. holds_along terminator reverse before after kind;
}

-- These classes tell apart what the NFA's own tell apart, the bytes stand for them, and they are kept if a state asks for
-- look-around.
pub record AreClassesFor (nfa : Nfa) (keeps : Bool) (classes bytes : List ℕ) : Type 0 where
  pub finer : (b c : ℕ) → AreOfOneClass classes b c → AreOfOneClass nfa.classes b c
  pub stand : AreRepresentatives classes bytes
  pub in_order : (b : ℕ) → b < 256 → slice_index classes b < length bytes
  pub kept : (kind : model.Look) → has nfa.looks kind ≡ true → keeps ≡ true

-- At each place from a to b the bytes beside it tell of each look-around that the NFA asks for whether it holds there: it
-- asks for no Unicode words, or those bytes are ASCII.
abbrev pub AreTold : Nfa → List ℕ → (b a : ℕ) → Type 0
AreTold nfa text b a = (kind : model.Look) (i : ℕ) → has nfa.looks kind ≡ true → a ≤ i → i ≤ b → IsTold kind (byte_before text i) (byte_after text i)

-- all of the text are bytes
abbrev pub AreBytes : List ℕ → Type 0
AreBytes text = All (λ b. b < 256) text
