-- What the rows of a table are made with, and how far they are made.
use Rattle.std.specs.Prelude.{◌≡◌, ℕ, ◌+◌, ◌*◌, ◌<◌, ◌≤◌, Bool, List, ◌++◌, length, slice_index, Option, Some}
use Rattle.rx_model.specs.Search.{Anchor}
use Rattle.rx_nfa.specs.NextMatch.{start_of}
use Rattle.rx_determinize.specs.Sight.{class_beside}
use Rattle.rx_determinize.specs.Span.{loops_in}
use Rattle.rx_determinize.specs.Key.{Key, start_key}
use Rattle.rx_dfa.specs.Automaton.{Dfa, last_key}
use Rattle.rx_dfa.specs.States.{IsRead}
use Rattle.rx_dfa.specs.Table.{IsRow, IsCell, AreRows, context_count, context, mode_of, AreStarts}
use Rattle.rx_dfa.specs.Found.{IsNumber, plain_keys, special_keys}
use Rattle.rx_dfa.specs.declared.dense.found.Found.{Found}
use Rattle.rx_dfa.specs.declared.dense.rows.Cells.{Cells}

-- The cells of the first n classes of the row of this key were appended.
pub record IsPart (d : Dfa) (IsNumberOf : ℕ → Key → Type 0) (k : Key) (n : ℕ) (old new : List ℕ) : Type 0 where
  pub len : length new ≡ length old + n
  pub stays : (i : ℕ) → i < length old → slice_index new i ≡ slice_index old i
  pub steps : (class : ℕ) → class < n → class < length d.bytes → IsCell d IsNumberOf (slice_index d.bytes class) k (slice_index new (length old + class))

-- the whole row was
pub record IsAppended (d : Dfa) (stride : ℕ) (IsNumberOf : ℕ → Key → Type 0) (k : Key) (old new : List ℕ) : Type 0 where
  pub part : IsPart d IsNumberOf k stride old new
  pub end : IsNumberOf (slice_index new (length old + length d.bytes)) (last_key d k)

-- the rows of so many states were made
pub record AreFilled (d : Dfa) (f : Found) (c : Cells) : Type 0 where
  pub plain : AreRows d f.stride (IsNumber f) (plain_keys f) c.plain_rows c.plain.items
  pub special : AreRows d f.stride (IsNumber f) (special_keys f) c.special_rows c.special.items

-- of no more states than there are
pub record AreWithin (f : Found) (c : Cells) : Type 0 where
  pub plain : c.plain_rows ≤ length (plain_keys f)
  pub special : c.special_rows ≤ length (special_keys f)

-- The starts of one mode, from this state, were appended for the first n classes.
pub record AreBegun (d : Dfa) (IsNumberOf : ℕ → Key → Type 0) (start : ℕ) (loops : Bool) (n : ℕ) (old new : List ℕ) : Type 0 where
  pub len : length new ≡ length old + n
  pub stays : (i : ℕ) → i < length old → slice_index new i ≡ slice_index old i
  pub each : (class : ℕ) → class < n → IsRead d.nfa (context d.keeps d.bytes class)
      → IsNumberOf (slice_index new (length old + class)) (start_key d.kind d.nfa.states start loops (context d.keeps d.bytes class))

-- The starts of the first n modes were appended.
pub record AreStarted (d : Dfa) (IsNumberOf : ℕ → Key → Type 0) (n : ℕ) (starts : List ℕ) : Type 0 where
  pub len : length starts ≡ n * context_count d.keeps d.bytes
  pub each : (anchor : Anchor) (start class : ℕ) → mode_of anchor < n → start_of d.nfa anchor ≡ Some start → class < context_count d.keeps d.bytes
      → IsRead d.nfa (context d.keeps d.bytes class)
      → IsNumberOf (slice_index starts (mode_of anchor * context_count d.keeps d.bytes + class))
      (start_key d.kind d.nfa.states start (loops_in anchor) (context d.keeps d.bytes class))

-- The table and the starts, with the numbers that states have at the end.
pub record AreDrawn (d : Dfa) (f : Found) (table begins : List ℕ) : Type 0 where
  pub rows : AreRows d f.stride (IsRow f.stride (plain_keys f ++ special_keys f) 0) (plain_keys f ++ special_keys f)
      (length (plain_keys f ++ special_keys f)) table
  pub starts : AreStarts d (IsRow f.stride (plain_keys f ++ special_keys f) 0) begins

-- runs of some mode of a search start at this state, with the loop or without
abbrev pub IsStart : Dfa → (start : ℕ) → (loops : Bool) → Type 0
IsStart d start loops = (anchor : Anchor) × (start_of d.nfa anchor ≡ Some start) × (loops_in anchor ≡ loops)

-- it is kept of what may stand beside a start
abbrev pub IsContext : Dfa → Option ℕ → Type 0
IsContext d before = (beside : Option ℕ) × (class_beside d.keeps d.classes d.bytes beside ≡ before) × (IsRead d.nfa before → IsRead d.nfa beside)
