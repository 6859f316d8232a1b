-- The trie of a list of needles, as a table of states.
use Rattle.std.specs.Prelude.{◌≡◌, ◌≢◌, ℕ, ◌+◌, ◌*◌, ◌/◌, ◌%◌, ◌<◌, ◌≤◌, Bool, true, false, List, [], ◌∷◌, ◌++◌, length, slice_index, slice_index_or}
use Rattle.rx_prefilter.specs.declared.aho_corasick.trie.Trie.{Trie}

-- in a table: no state comes next
abbrev pub stop : ℕ
stop = 4294967295

-- the bytes that lead to a state
abbrev pub word_of : List (List ℕ) → ℕ → List ℕ
word_of words state = slice_index_or words state []

-- the bytes that lead to a place of the table: those of its row, and its own
abbrev pub word_at : List (List ℕ) → ℕ → List ℕ
word_at words place = word_of words (place / 256) ++ place % 256 ∷ []

-- what stands at a place is this state
abbrev pub StandsAt : List ℕ → ℕ → ℕ → Type 0
StandsAt next place state = (place < length next) × (slice_index next place ≢ stop) × (slice_index next place ≡ state)

-- from one state the bytes of a word lead to another
abbrev pub Walks : List ℕ → ℕ → List ℕ → ℕ → Type 0
Walks next from [] to = from ≡ to
Walks next from (byte ∷ word) to =
    (from * 256 + byte < length next) × (slice_index next (from * 256 + byte) ≢ stop) × Walks next (slice_index next (from * 256 + byte)) word to

-- a table in which each state is reached by the bytes that lead to it
pub record IsTrieOf (next depths : List ℕ) (ends : List Bool) : Type 0 where
  pub words : List (List ℕ)
  pub rows : length next ≡ length words * 256
  pub tall : length depths ≡ length words
  pub depths_are : (q : ℕ) → q < length words → slice_index depths q ≡ length (word_of words q)
  pub wide : length ends ≡ length words
  pub some : 0 < length words
  pub root : word_of words 0 ≡ []
  pub short : (q : ℕ) → q < length words → length (word_of words q) ≤ q
  pub children : (place child : ℕ) → StandsAt next place child → (child < length words) × (word_of words child ≡ word_at words place)
  pub reached : (q : ℕ) → q < length words → Walks next 0 (word_of words q) q

abbrev pub IsTrie : Trie → Type 0
IsTrie trie = IsTrieOf trie.next.items trie.depths.items trie.ends.items

-- no way and no end is lost
pub record GrowsTo (next : List ℕ) (ends : List Bool) (later : List ℕ) (later_ends : List Bool) : Type 0 where
  pub walks : (from : ℕ) (word : List ℕ) (to : ℕ) → Walks next from word to → Walks later from word to
  pub keeps_ends : (q : ℕ) → slice_index_or ends q false ≡ true → slice_index_or later_ends q false ≡ true

abbrev pub Grows : Trie → Trie → Type 0
Grows old new = GrowsTo old.next.items old.ends.items new.next.items new.ends.items

-- the needle's bytes lead to a state that says that they are a needle
pub record HasNeedleOf (next : List ℕ) (ends : List Bool) (needle : List ℕ) : Type 0 where
  pub state : ℕ
  pub leads : Walks next 0 needle state
  pub is_end : slice_index_or ends state false ≡ true

abbrev pub HasNeedle : Trie → List ℕ → Type 0
HasNeedle trie needle = HasNeedleOf trie.next.items trie.ends.items needle
