-- The flat tables of the groups of patterns.
use Rattle.std.proofs.Common.{ℕ, zero, suc, ◌+◌, ◌-◌, ◌*◌, ◌≡◌, ◌≤◌, ◌<◌, List, [], ◌∷◌, ◌++◌, length, length-append, sym, map, take, drop, Option, Some, None, option_map, unwrap_or, slice_get, slice_range, ap, ◌∙◌, refl, arith, length-drop, subst, String, string_bytes, Bool, not, cond, sum, nat_lt, position}
use Rattle.std.proofs.lemmas.List.{length-take-le, length-map, take-map, drop-map, drop-append-le, take-append-le, drop_at, take_all, map_push, length-replicate}
use Rattle.std.proofs.lemmas.List.Sums.{sum_by-cons}
use Rattle.std.proofs.lemmas.Option.{slice_get-map, none-some, same_Some, slice_get_within}
use Rattle.std.proofs.lemmas.Bool.Decides.{nat_tests}
use Rattle.std.specs.List.{prefix_len}
use Rattle.rx_search.specs.Limits.{slot_limit}
use Rattle.rx_search.specs.GroupInfo.{names_of, is_named, explicit_before, group_count, slot_count, groups_at, unnamed_groups}
use Rattle.rx_search.specs.GroupTables.{groups_in, table_groups, AreInRow, AreOf, IsRowOf}
use Rattle.rx_search.specs.declared.group_info.Explicit.{Explicit}

-- the length of a part within the list
pub length-slice_range : {X : Type 0} (xs : List X) (a b : ℕ) → a ≤ b → b ≤ length xs → length (slice_range xs a b) ≡ b - a
length-slice_range xs a b order within = length-take-le (b - a) (drop a xs) (rw length-drop (omega arith))

-- rows only rise
pub AreInRow-rises : (from : ℕ) (rows : List Explicit) (to : ℕ) → AreInRow from rows to → from ≤ to
AreInRow-rises from [] to laid = omega (arith, laid)
AreInRow-rises from (row ∷ rows) to laid =
    let rest : row.end ≤ to = AreInRow-rises row.end rows to laid.2 in
    omega (arith, laid.0, laid.1)

-- What a row says of its pattern, where the rows begin at a number.
pub record RowFacts (names : List (Option (List ℕ))) (from : ℕ) (rows : List Explicit) (to p : ℕ) (row : Explicit) : Type 0 where
  pub ordered : row.start ≤ row.end
  pub within : row.end ≤ to
  pub before : row.start ≡ from + explicit_before p (table_groups names rows)

pub row_facts : (names : List (Option (List ℕ))) (from : ℕ) (rows : List Explicit) (to p : ℕ) (row : Explicit) → AreInRow from rows to → to ≤ length names
    → slice_get rows p ≡ Some row → RowFacts names from rows to p row
row_facts names from [] to p row laid few at = absurd (none-some _ at)
row_facts names from (first ∷ rows) to zero row laid few at =
    let same : first ≡ row = same_Some first row at in
    let P : Explicit → Type 0 = λ r. RowFacts names from (first ∷ rows) to zero r in
    subst P same (record { ordered = laid.1; within = AreInRow-rises first.end rows to laid.2; before = omega (arith, laid.0) })
row_facts names from (first ∷ rows) to (suc p) row laid few at =
    let rest = row_facts names first.end rows to p row laid.2 few at in
    let rises : first.end ≤ to = AreInRow-rises first.end rows to laid.2 in
    let len : length (slice_range names first.start first.end) ≡ first.end - first.start =
    length-slice_range names first.start first.end laid.1 (omega arith) in
    record { ordered = rest.ordered; within = rest.within; before = omega (arith, laid.0, laid.1, rest.before, len) }

-- the groups that rows stand for are counted by the rows and their explicit groups
pub group_count-rows : (names : List (Option (List ℕ))) (from : ℕ) (rows : List Explicit) (to : ℕ) → AreInRow from rows to → to ≤ length names
    → group_count (table_groups names rows) + from ≡ length rows + to
group_count-rows names from [] to laid few = omega (arith, laid)
group_count-rows names from (first ∷ rows) to laid few =
    let rest = group_count-rows names first.end rows to laid.2 few in
    let rises : first.end ≤ to = AreInRow-rises first.end rows to laid.2 in
    let len : length (slice_range names first.start first.end) ≡ first.end - first.start =
    length-slice_range names first.start first.end laid.1 (omega arith) in
    omega (arith, laid.0, laid.1, rest, len)

-- the groups of a pattern that is there
pub groups_at-row : (names : List (Option (List ℕ))) (rows : List Explicit) (p : ℕ) (row : Explicit) → slice_get rows p ≡ Some row
    → groups_at (table_groups names rows) p ≡ groups_in names row
groups_at-row names rows p row at = ap (λ (o : Option (List (Option (List ℕ)))). unwrap_or o [])
    (slice_get-map (groups_in names) rows p ∙ ap (option_map (groups_in names)) at)

-- the bytes of the names of a part
pub names_of-range : {A : Type 0} (names : List (Option (String A))) (a b : ℕ) → slice_range (names_of names) a b ≡ names_of (slice_range names a b)
names_of-range names a b = ap (take (b - a)) (drop-map (option_map string_bytes) a names) ∙ take-map (option_map string_bytes) (b - a) (drop a names)

-- What the tables of a `GroupInfo` keep.
abbrev pub AreTables : {A : Type 0} → List (Option (String A)) → List Explicit → Type 0
AreTables names rows = AreInRow 0 rows (length names) × (2 * (length rows + length names) ≤ slot_limit)

-- the groups are counted by the rows and the names
pub group_count-tables : {A : Type 0} (names : List (Option (String A))) (rows : List Explicit) → AreTables names rows
    → group_count (table_groups (names_of names) rows) ≡ length rows + length names
group_count-tables names rows tables =
    let many : length (names_of names) ≡ length names = length-map names (option_map string_bytes) in
    let all = group_count-rows (names_of names) 0 rows (length names) tables.0 (omega arith) in
    omega (arith, all)

-- a row says what it should of its pattern
pub is_row_of : {A : Type 0} (names : List (Option (String A))) (rows : List Explicit) (p : ℕ) (row : Explicit) → AreTables names rows
    → slice_get rows p ≡ Some row → IsRowOf (table_groups (names_of names) rows) p row
is_row_of names rows p row tables at =
    let many : length (names_of names) ≡ length names = length-map names (option_map string_bytes) in
    let facts = row_facts (names_of names) 0 rows (length names) p row tables.0 (omega arith) at in
    let same : length (table_groups (names_of names) rows) ≡ length rows = length-map rows (groups_in (names_of names)) in
    let within = slice_get_within rows p row at in
    let all = group_count-tables names rows tables in
    let fits : row.end ≤ length (names_of names) = omega (arith, facts.within, many) in
    let len : length (slice_range (names_of names) row.start row.end) ≡ row.end - row.start =
    length-slice_range (names_of names) row.start row.end facts.ordered fits in
    record {
      there = omega (arith, same, within);
      ordered = facts.ordered;
      before = omega (arith, facts.before);
      count = ap length (groups_at-row (names_of names) rows p row at) ∙ omega (arith, len);
      within = omega (arith, same, facts.within, all);
      few = omega (arith, tables.1, all);
    }

-- a row ends within the names
pub row_within : {A : Type 0} (names : List (Option (String A))) (rows : List Explicit) (p : ℕ) (row : Explicit) → AreTables names rows
    → slice_get rows p ≡ Some row → (row.start ≤ row.end) × (row.end ≤ length names)
row_within names rows p row tables at =
    let many : length (names_of names) ≡ length names = length-map names (option_map string_bytes) in
    let facts = row_facts (names_of names) 0 rows (length names) p row tables.0 (omega arith) at in
    (facts.ordered, facts.within)

-- as many patterns as rows
pub length-tables : {A : Type 0} (names : List (Option (String A))) (rows : List Explicit) → length (table_groups (names_of names) rows) ≡ length rows
length-tables names rows = length-map rows (groups_in (names_of names))

-- the groups of a pattern that is there, by the names of its row
pub groups_at-names : {A : Type 0} (names : List (Option (String A))) (rows : List Explicit) (p : ℕ) (row : Explicit) → slice_get rows p ≡ Some row
    → groups_at (table_groups (names_of names) rows) p ≡ None ∷ names_of (slice_range names row.start row.end)
groups_at-names names rows p row there = groups_at-row (names_of names) rows p row there
    ∙ ap (λ (gs : List (Option (List ℕ))). None ∷ gs) (names_of-range names row.start row.end)

-- how many elements come before the first of which a test says `true` of the image
pub prefix_len-map : {X Y : Type 0} (p : Y → Bool) (f : X → Y) (xs : List X) → prefix_len p (map f xs) ≡ prefix_len (λ x. p (f x)) xs
prefix_len-map p f [] = refl
prefix_len-map p f (x ∷ xs) = ap (λ (n : ℕ). cond (p (f x)) (1 + n) 0) (prefix_len-map p f xs)

pub position_shift : (a b : ℕ) → cond (nat_lt (1 + a) (suc b)) (Some (1 + a)) None ≡ option_map (λ i. i + 1) (cond (nat_lt a b) (Some a) None)
position_shift a b = grind (arith, nat_tests)

-- the first name among the groups of a pattern, after the implicit one
pub position-names : {A : Type 0} (name : List ℕ) (names : List (Option (String A)))
    → position (is_named name) (None ∷ names_of names) ≡ option_map (λ i. i + 1) (position (λ group. is_named name (option_map string_bytes group)) names)
position-names name names =
    let front = prefix_len-map (λ x. not (is_named name x)) (option_map string_bytes) names in
    let many : length (names_of names) ≡ length names = length-map names (option_map string_bytes) in
    ap (λ (n : ℕ). cond (nat_lt (1 + n) (suc (length (names_of names)))) (Some (1 + n)) None) front
    ∙ ap (λ (m : ℕ). cond (nat_lt (1 + prefix_len (λ x. not (is_named name (option_map string_bytes x))) names) (suc m))
    (Some (1 + prefix_len (λ x. not (is_named name (option_map string_bytes x))) names)) None) many
    ∙ position_shift _ _

-- a part of a list that goes on
pub slice_range-append : {X : Type 0} (xs ys : List X) (a b : ℕ) → a ≤ b → b ≤ length xs → slice_range (xs ++ ys) a b ≡ slice_range xs a b
slice_range-append xs ys a b order within =
    let room : b - a ≤ length (drop a xs) = rw length-drop (omega arith) in
    ap (take (b - a)) (drop-append-le a xs ys (omega arith)) ∙ take-append-le (b - a) (drop a xs) ys room

-- more names change no row
pub table_groups-append : (names more : List (Option (List ℕ))) (from : ℕ) (rows : List Explicit) (to : ℕ) → AreInRow from rows to → to ≤ length names
    → table_groups (names ++ more) rows ≡ table_groups names rows
table_groups-append names more from [] to laid few = refl
table_groups-append names more from (row ∷ rows) to laid few =
    let rises : row.end ≤ to = AreInRow-rises row.end rows to laid.2 in
    ap (λ (g : List (Option (List ℕ))). (None ∷ g) ∷ table_groups (names ++ more) rows) (slice_range-append names more row.start row.end laid.1 (omega arith))
    ∙ ap (λ (gs : List (List (Option (List ℕ)))). groups_in names row ∷ gs) (table_groups-append names more row.end rows to laid.2 few)

-- one row more
pub AreInRow-push : (from : ℕ) (rows : List Explicit) (to end : ℕ) → AreInRow from rows to → to ≤ end
    → AreInRow from (rows ++ record { start = to; end = end } ∷ []) end
AreInRow-push from [] to end laid order = (sym laid, order, refl)
AreInRow-push from (row ∷ rows) to end laid order = (laid.0, laid.1, AreInRow-push row.end rows to end laid.2 order)

-- the last part of a list
pub slice_range-last : {X : Type 0} (xs ys : List X) → slice_range (xs ++ ys) (length xs) (length (xs ++ ys)) ≡ ys
slice_range-last xs ys =
    let len = length-append xs ys in
    ap (take (length (xs ++ ys) - length xs)) (drop_at xs ys (length xs) refl) ∙ take_all (length (xs ++ ys) - length xs) ys (omega (arith, len))

-- one pattern more
pub AreOf-push : {A : Type 0} (info : List (List (Option (List ℕ)))) (names longer : List (Option (String A))) (rows : List Explicit)
    (g more : List (Option (List ℕ))) (start end : ℕ) → AreOf info names rows → names_of longer ≡ names_of names ++ more
    → g ≡ None ∷ more → start ≡ length names
    → end ≡ length longer → AreOf (info ++ g ∷ []) longer (rows ++ record { start = start; end = end } ∷ [])
AreOf-push info names longer rows g more start end tables longer_is g_is start_is end_is =
    let many : length (names_of names) ≡ length names = length-map names (option_map string_bytes) in
    let many_longer : length (names_of longer) ≡ length longer = length-map longer (option_map string_bytes) in
    let row : Explicit = record { start = start; end = end } in
    let len : length (names_of longer) ≡ length (names_of names) + length more = ap length longer_is ∙ length-append (names_of names) more in
    let same_start : length (names_of names) ≡ start = omega (arith, many, start_is) in
    let same_end : length (names_of names ++ more) ≡ end = sym (ap length longer_is) ∙ omega (arith, many_longer, end_is) in
    let last : slice_range (names_of names ++ more) start end ≡ more =
    subst (λ (a : ℕ). slice_range (names_of names ++ more) a end ≡ more) same_start
    (subst (λ (b : ℕ). slice_range (names_of names ++ more) (length (names_of names)) b ≡ more) same_end (slice_range-last (names_of names) more)) in
    let front : table_groups (names_of names ++ more) rows ≡ info =
    table_groups-append (names_of names) more 0 rows (length names) tables.in_row (omega arith) ∙ tables.groups in
    let rows_laid = AreInRow-push 0 rows (length names) end tables.in_row (omega (arith, start_is, end_is, len, many, many_longer)) in
    record {
      groups =
          ap (λ (ns : List (Option (List ℕ))). table_groups ns (rows ++ row ∷ [])) longer_is
          ∙ map_push (groups_in (names_of names ++ more)) rows row
          ∙ ap (λ (gs : List (List (Option (List ℕ)))). gs ++ groups_in (names_of names ++ more) row ∷ []) front
          ∙ ap (λ (ns : List (Option (List ℕ))). info ++ (None ∷ ns) ∷ []) last
          ∙ ap (λ (h : List (Option (List ℕ))). info ++ h ∷ []) (sym g_is);
      in_row =
          subst (λ (n : ℕ). AreInRow 0 (rows ++ row ∷ []) n) end_is
          (subst (λ (n : ℕ). AreInRow 0 (rows ++ record { start = n; end = end } ∷ []) end) (sym start_is) rows_laid);
    }

-- the tables of groups that are few are those of a `GroupInfo`
pub AreOf-tables : {A : Type 0} (info : List (List (Option (List ℕ)))) (names : List (Option (String A))) (rows : List Explicit) → AreOf info names rows
    → slot_count info ≤ slot_limit → AreTables names rows
AreOf-tables info names rows tables few =
    let many : length (names_of names) ≡ length names = length-map names (option_map string_bytes) in
    let all = group_count-rows (names_of names) 0 rows (length names) tables.in_row (omega arith) in
    (tables.in_row, omega (arith, all, few, ap group_count tables.groups))

-- groups without names are counted by their numbers
pub group_count-unnamed : (lens : List ℕ) → group_count (map unnamed_groups lens) ≡ sum lens
group_count-unnamed [] = refl
group_count-unnamed (n ∷ lens) =
    let none : Option (List ℕ) = None in
    omega (arith, length-replicate n none, group_count-unnamed lens, sum_by-cons (λ (x : ℕ). x) n lens)

-- the first of some groups without names
pub unnamed_groups-first : (n : ℕ) → 0 < n → unnamed_groups n ≡ None ∷ unnamed_groups (n - 1)
unnamed_groups-first zero some = absurd (omega arith)
unnamed_groups-first (suc n) some = ap (λ (m : ℕ). None ∷ unnamed_groups m) (omega arith)
