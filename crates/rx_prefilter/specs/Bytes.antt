-- Needles of one byte.
use Rattle.std.specs.Prelude.{◌≡◌, ℕ, ◌+◌, ◌<◌, ◌≤◌, Bool, false, ◌==◌, slice_index, slice_index_or, List, [], ◌∷◌}
use Rattle.std.specs.List.{list_any}
use Rattle.rx_search.specs.declared.span.Span.{Span}

-- the needle of one byte
abbrev pub single : ℕ → List ℕ
single byte = byte ∷ []

-- where a byte stands
abbrev pub byte_span : ℕ → Span
byte_span at = record { start = at; end = at + 1 }

-- whether the byte is one of the list's
abbrev pub is_one_of : List ℕ → ℕ → Bool
is_one_of bytes x = list_any (λ byte. byte == x) bytes

-- a table of the 256 bytes that says of each whether it is one of the list's
pub record HasTable (table : List Bool) (bytes : List ℕ) : Type 0 where
  pub each : (x : ℕ) → x < 256 → slice_index_or table x false ≡ is_one_of bytes x

-- the table has the byte that stands at place k
abbrev pub marks_at : (table : List Bool) (text : List ℕ) → ℕ → Bool
marks_at table text k = slice_index_or table (slice_index text k) false

-- it has none of the bytes at the places from `from` on and before `to`
unfoldable pub NoneMarked : (table : List Bool) (text : List ℕ) (from to : ℕ) → Type 0
NoneMarked table text from to = (k : ℕ) → from ≤ k → k < to → marks_at table text k ≡ false
