-- The rows of a haystack's matches, as data, and the text that tells them.
use Rattle.std.specs.Prelude.{ℕ, zero, suc, ◌+◌, List, [], ◌∷◌, ◌++◌, length, map, Option, Some, None, codes, decimal, slice_get, if◌then◌else◌}
use Rattle.std.specs.List.{flat_map}
use Rattle.std.specs.Option.{option_map_or}
use Rattle.rx_model.specs.Expression.{Expression}
use Rattle.rx_model.specs.Search.{Patterns, Match, greatest_group, slot_of, slot_value, matches, free}
use Rattle.rx_search.specs.Told.{tells}

-- A match as it is told: its pattern, and where each of that pattern's groups starts and ends, from group 0 on,
-- which is the whole match. A group without a place has None twice.
pub record RowValue : Type 0 where
  pub pattern : ℕ
  pub slots : List (Option ℕ)

-- what a match leaves in a group's two slots, the first of which is this one
abbrev pub group_slots : Match → Option ℕ → List (Option ℕ)
group_slots m None = None ∷ None ∷ []
group_slots m (Some slot) = slot_value m slot ∷ slot_value m (slot + 1) ∷ []

-- in those of the n groups of its pattern from g on
unfoldable pub slots_from : Patterns → Match → (n g : ℕ) → List (Option ℕ)
slots_from r m zero g = []
slots_from r m (suc n) g = group_slots m (slot_of r m.trace.pattern g) ++ slots_from r m n (g + 1)

-- how many groups pattern p names
abbrev pub group_count : List Expression → ℕ → ℕ
group_count hs p = option_map_or greatest_group (slice_get hs p) 0

-- the row of a match: its pattern, its start and its end, and those of each group of its pattern
abbrev pub row_of : Patterns → Match → RowValue
row_of r m = record {
  pattern = m.trace.pattern;
  slots = Some m.start ∷ Some m.trace.end ∷ slots_from r m (group_count r.expressions m.trace.pattern) 1;
}

-- the rows of the successive matches in a haystack; there are none where no match is told
abbrev pub scan_rows : Patterns → List ℕ → List RowValue
scan_rows r text = if tells r.which_captures then map (row_of r) (matches r text free (length text) 0) else []

-- `START..END`, or a hyphen where they are not told
abbrev pub span_text : (start end : Option ℕ) → List ℕ
span_text None end = codes "-"
span_text (Some start) None = codes "-"
span_text (Some start) (Some end) = decimal start ++ codes ".." ++ decimal end

-- ` G=START..END`, or ` G=-`
abbrev pub group_text : (g : ℕ) → (start end : Option ℕ) → List ℕ
group_text g start end = codes " " ++ decimal g ++ codes "=" ++ span_text start end

-- of each group from g on
unfoldable pub groups_text : List (Option ℕ) → (g : ℕ) → List ℕ
groups_text [] g = []
groups_text (start ∷ []) g = []
groups_text (start ∷ end ∷ slots) g = group_text g start end ++ groups_text slots (g + 1)

-- the span of the whole match, and each group from 1 on
abbrev pub slots_text : List (Option ℕ) → List ℕ
slots_text [] = codes "-"
slots_text (start ∷ []) = codes "-"
slots_text (start ∷ end ∷ groups) = span_text start end ++ groups_text groups 1

-- the text of a row in the line of this number: `LINE:PATTERN:START..END`, and the groups
abbrev pub row_text : (line : ℕ) → RowValue → List ℕ
row_text line row = decimal line ++ codes ":" ++ decimal row.pattern ++ codes ":" ++ slots_text row.slots ++ codes "\n"

-- the text of the rows of all haystacks, the first of which has this number
unfoldable pub rows_text : (line : ℕ) → List (List RowValue) → List ℕ
rows_text line [] = []
rows_text line (rows ∷ others) = flat_map (row_text line) rows ++ rows_text (line + 1) others
