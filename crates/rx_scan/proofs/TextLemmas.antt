-- The text of rows, group by group and haystack by haystack.
use Rattle.std.proofs.Common.{◌≡◌, ℕ, suc, ◌+◌, ◌^◌, ◌<◌, ◌≤◌, List, [], ◌∷◌, ◌++◌, length, drop, get_or, Option, None, refl, sym, ap, ◌∙◌, append_assoc, append-nil, length-append, arith, drop-cons}
use Rattle.std.specs.List.{flat_map}
use Rattle.std.proofs.lemmas.List.{get_or_read}
use Rattle.std.proofs.lemmas.List.Concat.{flat_map-append}
use Rattle.rx_scan.specs.Row.{RowValue, group_text, groups_text, row_text, rows_text}

-- the groups from the slot at `at` on: the first of them, and the others
pub groups_text-drop : (slots : List (Option ℕ)) (at g : ℕ) → at + 1 < length slots
    → groups_text (drop at slots) g ≡ group_text g (get_or slots at None) (get_or slots (at + 1) None) ++ groups_text (drop (at + 2) slots) (g + 1)
unfolding groups_text
groups_text-drop slots at g below =
    let first = get_or slots at None in
    let parts : drop at slots ≡ first ∷ get_or slots (suc at) None ∷ drop (suc (suc at)) slots =
    drop-cons slots at None (omega arith) ∙ ap (λ l. first ∷ l) (drop-cons slots (suc at) None (omega arith)) in
    let one : suc at ≡ at + 1 = omega arith in
    let two : suc (suc at) ≡ at + 2 = omega arith in
    ap (λ l. groups_text l g) parts
    ∙ ap (λ k. group_text g first (get_or slots k None) ++ groups_text (drop (suc (suc at)) slots) (g + 1)) one
    ∙ ap (λ k. group_text g first (get_or slots (at + 1) None) ++ groups_text (drop k slots) (g + 1)) two

-- a single slot, or none, tells of no group
pub groups_text-end : (slots : List (Option ℕ)) (g : ℕ) → length slots ≤ 1 → groups_text slots g ≡ []
unfolding groups_text
groups_text-end [] g few = refl
groups_text-end (start ∷ []) g few = refl
groups_text-end (start ∷ end ∷ rest) g few = absurd (omega arith)

-- one group more was told
pub told-more : (slots : List (Option ℕ)) (at g : ℕ) (start end : Option ℕ) (old new all : List ℕ) → at + 1 < length slots
    → start ≡ get_or slots at start → end ≡ get_or slots (at + 1) end → new ≡ old ++ group_text g start end
    → old ++ groups_text (drop at slots) g ≡ all → new ++ groups_text (drop (at + 2) slots) (g + 1) ≡ all
told-more slots at g start end old new all below s e more told =
    let rest = groups_text (drop (at + 2) slots) (g + 1) in
    let first : start ≡ get_or slots at None = get_or_read slots at start (omega arith) s None in
    let second : end ≡ get_or slots (at + 1) None = get_or_read slots (at + 1) end below e None in
    ap (λ l. l ++ rest) more ∙ append_assoc old (group_text g start end) rest
    ∙ ap (λ x. old ++ (group_text g x end ++ rest)) first
    ∙ ap (λ y. old ++ (group_text g (get_or slots at None) y ++ rest)) second
    ∙ ap (λ l. old ++ l) (sym (groups_text-drop slots at g below)) ∙ told

-- the text of the haystacks' rows, and of those of the haystacks after them
pub rows_text-append : (line : ℕ) (all more : List (List RowValue)) → rows_text line (all ++ more) ≡ rows_text line all ++ rows_text (line + length all) more
unfolding rows_text
rows_text-append line [] more = let here : line ≡ line + 0 = omega arith in ap (λ n. rows_text n more) here
rows_text-append line (own ∷ all) more =
    let next : line + 1 + length all ≡ line + suc (length all) = omega arith in
    ap (λ l. flat_map (row_text line) own ++ l) (rows_text-append (line + 1) all more ∙ ap (λ n. rows_text (line + 1) all ++ rows_text n more) next)
    ∙ sym (append_assoc (flat_map (row_text line) own) (rows_text (line + 1) all) (rows_text (line + suc (length all)) more))

pub rows_text-none : (line : ℕ) → rows_text line [] ≡ []
unfolding rows_text
rows_text-none line = refl

pub flat_map-push : {X : Type 0} (f : X → List ℕ) (xs : List X) (x : X) → flat_map f (xs ++ x ∷ []) ≡ flat_map f xs ++ f x
flat_map-push f xs x = flat_map-append f xs (x ∷ []) ∙ ap (λ l. flat_map f xs ++ l) (append-nil (f x))

-- one row more of the haystack that is searched
pub text-row : (i index line : ℕ) (all : List (List RowValue)) (rows : List RowValue) (row : RowValue) (old new : List ℕ) → index ≡ i + length all
    → (index < 2 ^ 63 → line ≡ index + 1) → new ≡ old ++ row_text line row
    → (i + length all < 2 ^ 63 → old ≡ rows_text (i + 1) all ++ flat_map (row_text (i + length all + 1)) rows)
    → i + length all < 2 ^ 63 → new ≡ rows_text (i + 1) all ++ flat_map (row_text (i + length all + 1)) (rows ++ row ∷ [])
text-row i index line all rows row old new at number longer told small =
    let f : RowValue → List ℕ = row_text (i + length all + 1) in
    let here : line ≡ i + length all + 1 = number (omega (arith, at, small)) ∙ ap (λ k. k + 1) at in
    longer ∙ (λ k. told small k ++ row_text (here k) row) ∙ append_assoc (rows_text (i + 1) all) (flat_map f rows) (f row)
    ∙ ap (λ l. rows_text (i + 1) all ++ l) (sym (flat_map-push f rows row))

-- that haystack has no more
pub text-end : (i : ℕ) (all : List (List RowValue)) (rows : List RowValue) (text : List ℕ)
    → (i + length all < 2 ^ 63 → text ≡ rows_text (i + 1) all ++ flat_map (row_text (i + length all + 1)) rows)
    → i + length (all ++ rows ∷ []) < 2 ^ 63 → text ≡ rows_text (i + 1) (all ++ rows ∷ []) ++ []
unfolding rows_text
text-end i all rows text told small =
    let line : i + length all + 1 ≡ i + 1 + length all = omega arith in
    told (omega (arith, small, length-append all (rows ∷ []))) ∙ ap (λ n. rows_text (i + 1) all ++ flat_map (row_text n) rows) line
    ∙ ap (λ l. rows_text (i + 1) all ++ l) (sym (append-nil (flat_map (row_text (i + 1 + length all)) rows)))
    ∙ sym (rows_text-append (i + 1) all (rows ∷ [])) ∙ sym (append-nil (rows_text (i + 1) (all ++ rows ∷ [])))

-- the text of some haystacks' rows is the next piece of the text of all
pub pieces-more : {V : Type 0} (items : V → List ℕ) (all more : List (List RowValue)) (old new : List V) (piece : V) → new ≡ old ++ piece ∷ []
    → (length all < 2 ^ 63 → flat_map items old ≡ rows_text 1 all)
    → (length all + length more < 2 ^ 63 → items piece ≡ rows_text (length all + 1) more ++ [])
    → length (all ++ more) < 2 ^ 63 → flat_map items new ≡ rows_text 1 (all ++ more)
pieces-more items all more old new piece longer told is small =
    let both : length all + length more < 2 ^ 63 = omega (arith, small, length-append all more) in
    let next : length all + 1 ≡ 1 + length all = omega arith in
    let own = is both ∙ append-nil (rows_text (length all + 1) more) in
    ap (flat_map items) longer ∙ flat_map-push items old piece ∙ (λ k. told (omega (arith, both)) k ++ own k)
    ∙ ap (λ n. rows_text 1 all ++ rows_text n more) next ∙ sym (rows_text-append 1 all more)

-- .. and no piece of its own, where it is empty
pub pieces-same : {V : Type 0} (items : V → List ℕ) (all more : List (List RowValue)) (old : List V) (piece : V) → length (items piece) ≡ 0
    → (length all < 2 ^ 63 → flat_map items old ≡ rows_text 1 all)
    → (length all + length more < 2 ^ 63 → items piece ≡ rows_text (length all + 1) more ++ [])
    → length (all ++ more) < 2 ^ 63 → flat_map items old ≡ rows_text 1 (all ++ more)
pieces-same items all more old piece none told is small =
    sym (append-nil (flat_map items old)) ∙ ap (λ l. flat_map items old ++ l) (sym (no_items (items piece) none)) ∙ sym (flat_map-push items old piece)
    ∙ pieces-more items all more old (old ++ piece ∷ []) piece refl told is small
  where
    no_items : (xs : List ℕ) → length xs ≡ 0 → xs ≡ []
    no_items [] e = refl
    no_items (x ∷ xs) e = absurd (omega arith)
