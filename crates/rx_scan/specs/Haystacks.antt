-- Under what the rows of a haystack are promised.
use Rattle.std.specs.Prelude.{◌≡◌, ℕ, List, [], length, map, take, drop}
use Rattle.std.specs.List.{All}
use Rattle.rx_model.specs.Search.{Patterns}
use Rattle.rx_search.specs.Input.{whole}
use Rattle.rx_search.specs.PatternGroups.{pattern_groups}
use Rattle.rx_search.specs.Promise.{Promised}
use Rattle.rx_meta.specs.Regex.{RegexValue, Serves, given_needles, kind_in, groups_in}
use Rattle.rx_scan.specs.Row.{RowValue, scan_rows}

-- A search of the text promises the next match of these patterns, and its slots are those of their groups.
pub record FindsRows (regex : RegexValue) (r : Patterns) (text : List ℕ) : Type 0 where
  pub promised : Promised (Serves regex r) (given_needles regex) (kind_in regex) r (whole text)
  pub groups : groups_in regex ≡ pattern_groups r.expressions

-- These are the rows of the successive matches in each of so many haystacks from this number on, for all patterns of which a search of each
-- promises the next match.
abbrev pub AreRowsOf : RegexValue → List (List ℕ) → (first count : ℕ) → List (List RowValue) → Type 0
AreRowsOf regex haystacks i n all =
    (r : Patterns) → All (FindsRows regex r) haystacks → all ≡ map (scan_rows r) (take n (drop i haystacks))

-- It is what rows of these haystacks have become, which are those of their matches.
abbrev pub HasOutcome : {V : Type 0} (Holds : ℕ → List (List RowValue) → List RowValue → V → Type 0) → RegexValue → List (List ℕ)
    → (first count : ℕ) → V → Type 0
HasOutcome Holds regex haystacks i n value =
    (all : List (List RowValue)) × Holds i all [] value × (length all ≡ n) × AreRowsOf regex haystacks i n all

-- It is what the rows of the first n haystacks have become, in order.
pub record HaveOutcomes {W : Type 0} (Are : List (List RowValue) → W → Type 0) (regex : RegexValue) (haystacks : List (List ℕ)) (n : ℕ)
    (whole : W) : Type 0 where
  pub all : List (List RowValue)
  pub are : Are all whole
  pub count : length all ≡ n
  pub rows : AreRowsOf regex haystacks 0 n all
