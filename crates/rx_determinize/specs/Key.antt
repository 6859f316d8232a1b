-- The states of a DFA as keys: what an NFA is in after a start and a list of bytes; the start and the step of keys.
use Rattle.std.specs.Prelude.{◌≡◌, ℕ, ◌+◌, ◌≤◌, ◌<◌, Bool, true, false, ◌&&◌, ◌||◌, not, List, [], ◌∷◌, ◌++◌, length, Option, Some, None, if◌then◌else◌, ◌==◌, nat_lt, is_some}
use Rattle.rx_model.specs.Look as model
use Rattle.rx_search.specs.Look.{kind_of}
use Rattle.rx_search.specs.declared.look.Look.{Look as LookKind}
use Rattle.rx_search.specs.declared.anchored.MatchKind.{MatchKind}
use Rattle.rx_search.specs.declared.anchored.MatchKind.TheVariants.{All, LeftmostFirst}
use Rattle.rx_nfa.specs.Automaton.{state_at, state_accepts, Surroundings, byte_within}
use Rattle.rx_nfa.specs.Ordered.{has, close, threads_from, targets, cut, begun, first_told}
use Rattle.rx_nfa.specs.declared.state.State.{State}
use Rattle.rx_nfa.specs.declared.state.State.TheVariants.{ByteRange, Sparse, Look, Union, Capture, Fail, Match}

-- What a DFA knows of look-around. It keeps the class of the last byte, and sees the byte to come.
pub record Sight : Type 0 where
  -- what is kept of a byte that was read: its class, or nothing where no state asks for look-around
  pub class : (byte : ℕ) → Option ℕ
  -- The look-around holds between what was kept, or what the start stands for, and this byte, or the end of the text.
  pub holds : (before after : Option ℕ) → model.Look → Bool

-- A state of a DFA, as its key. Two states of one key are alike.
--
-- A match is known one byte late: `matches` tells what matches at the place before the last byte, and the key after the end
-- of input tells what matches at the end. What matches at a place may depend on the byte to come, by look-around.
--
-- A step first takes the closure of the threads at their place, with the look-around that holds between the last byte and
-- the next. Then the threads go over the byte. What can be said of them at the next place without a further byte is done
-- there (`arrived`).
pub record Key : Type 0 where
  -- the states in which threads stand, the preferred one first, each once, up to and with the first that accepts under
  -- leftmost-first
  pub threads : List ℕ
  -- The loop, which begins a thread at each later place, stands behind the threads as the last member of the list. It is
  -- there after an unanchored start; under leftmost-first, as long as no thread accepts.
  pub loops : Bool
  -- the patterns that match at the place before the last byte: the preferred one under leftmost-first, and else all of them,
  -- ascending
  pub matches : List ℕ
  -- the class of the last byte, or of the byte before the start
  pub before : Option ℕ

-- the pattern that a state accepts
abbrev pub accepts_in : List State → ℕ → Option ℕ
accepts_in states q = state_accepts (state_at states q)

-- the state asks for look-around
abbrev pub is_look : State → Bool
is_look (ByteRange low high next) = false
is_look (Sparse transitions) = false
is_look (Look look next) = true
is_look (Union alternates) = false
is_look (Capture next pattern slot) = false
is_look Fail = false
is_look (Match pattern) = false

-- one of these states asks for look-around
abbrev pub one_asks : List State → List ℕ → Bool
one_asks states [] = false
one_asks states (q ∷ qs) = is_look (state_at states q) || one_asks states qs

-- of no look-around it is known that it holds
abbrev pub none_known : model.Look → Bool
none_known kind = false

-- the states that these lead to without look-around, in order, each once
abbrev pub reached : List State → List ℕ → List ℕ
reached states qs = close states none_known (length states) qs []

-- What stands for these states before the next byte is known. Where they lead to no look-around, it is the states at which
-- their threads stay. Else it is all states that they lead to without look-around. The states at which threads stay, and
-- those that ask for look-around, would not do: the first run may pass a state once and not twice (see KeyRows).
abbrev pub arrived : List State → List ℕ → List ℕ
arrived states qs = if one_asks states (reached states qs) then reached states qs else threads_from states none_known qs

-- the pattern, if there is one
abbrev pub listed : Option ℕ → List ℕ
listed None = []
listed (Some p) = p ∷ []

-- with this pattern, in ascending order, each once
abbrev pub with_pattern : ℕ → List ℕ → List ℕ
with_pattern p [] = p ∷ []
with_pattern p (x ∷ xs) = if nat_lt p x then p ∷ (x ∷ xs) else if p == x then x ∷ xs else x ∷ with_pattern p xs

-- the same, if there is one
abbrev pub with_accepted : Option ℕ → List ℕ → List ℕ
with_accepted None ps = ps
with_accepted (Some p) ps = with_pattern p ps

-- the patterns that these states accept, ascending
abbrev pub accepted_by : List State → List ℕ → List ℕ
accepted_by states [] = []
accepted_by states (q ∷ qs) = with_accepted (accepts_in states q) (accepted_by states qs)

-- The threads that count: under leftmost-first those up to the first that accepts, and under `All` every one.
abbrev pub counting : MatchKind → List State → List ℕ → List ℕ
counting All states qs = qs
counting LeftmostFirst states qs = cut (accepts_in states) qs

-- the loop counts too: under leftmost-first, if none of the threads accepts
abbrev pub looping : MatchKind → List State → List ℕ → (loops : Bool) → Bool
looping All states qs loops = loops
looping LeftmostFirst states qs loops = loops && not (is_some (first_told (accepts_in states) qs))

-- the patterns that match where the threads stay in these states
abbrev pub matching : MatchKind → List State → List ℕ → List ℕ
matching All states qs = accepted_by states qs
matching LeftmostFirst states qs = listed (first_told (accepts_in states) qs)

-- the key with these threads and the loop, as far as they count
abbrev pub settled : MatchKind → List State → List ℕ → (loops : Bool) → (matches : List ℕ) → (before : Option ℕ) → Key
settled kind states qs loops matches before = record {
  threads = counting kind states qs;
  loops = looping kind states qs loops;
  matches = matches;
  before = before;
}

-- The key at the first place of a search whose runs start at this state, with the loop after an unanchored start, where this
-- class stands for the byte before the place.
unfoldable pub start_key : MatchKind → List State → (start : ℕ) → (loops : Bool) → (before : Option ℕ) → Key
start_key kind states start loops before = settled kind states (arrived states (start ∷ [])) loops [] before

-- The key after a byte, where the threads stay in these states at the byte's place. The loop begins a thread behind them.
abbrev pub key_over : MatchKind → List State → (start : ℕ) → (loops : Bool) → (byte : ℕ) → (before : Option ℕ) → List ℕ → Key
key_over kind states start loops byte before qs =
    let goes_on = looping kind states qs loops in
    settled kind states (arrived states (targets states byte (counting kind states qs) ++ begun start goes_on)) goes_on (matching kind states qs) before

-- the key after a byte
unfoldable pub step_key : MatchKind → List State → (start : ℕ) → Sight → Key → (byte : ℕ) → Key
step_key kind states start sight k byte =
    key_over kind states start k.loops byte (sight.class byte) (threads_from states (sight.holds k.before (Some byte)) k.threads)

-- the key after the end of input, where this byte stands behind the span, or the text ends
unfoldable pub end_key : MatchKind → List State → Sight → Key → (after : Option ℕ) → Key
end_key kind states sight k after = record {
  threads = [];
  loops = false;
  matches = matching kind states (threads_from states (sight.holds k.before after) k.threads);
  before = None;
}

-- no state stands twice on the list
abbrev pub AreOnce : List ℕ → Type 0
AreOnce [] = Unit {0}
AreOnce (q ∷ qs) = (has qs q ≡ false) × AreOnce qs

-- there is none
abbrev pub is_empty : List ℕ → Bool
is_empty [] = true
is_empty (q ∷ qs) = false

-- No thread is left, nor the loop, and nothing matched before the last byte. All keys of which this holds are one state.
abbrev pub is_dead : Key → Bool
is_dead k = is_empty k.threads && not k.loops && is_empty k.matches

-- From place a to place b the sight tells of each look-around that a state asks for whether it holds there, where the class
-- `first` stands for the byte before a. The text has `size` bytes.
pub record Sees (sight : Sight) (around : Surroundings) (size : ℕ) (states : List State) (first : Option ℕ) (b a : ℕ) : Type 0 where
  pub begins : (q next : ℕ) (look : LookKind) → state_at states q ≡ Look look next
      → sight.holds first (byte_within around.byte size a) (kind_of look) ≡ around.looks (kind_of look) a
  pub goes_on : (i : ℕ) → a ≤ i → i < b → (q next : ℕ) (look : LookKind) → state_at states q ≡ Look look next
      → sight.holds (sight.class (around.byte i)) (byte_within around.byte size (i + 1)) (kind_of look) ≡ around.looks (kind_of look) (i + 1)
