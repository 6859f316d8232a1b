-- A row for each start, in a flat table of cells.
use Rattle.std.proofs.Common.{◌≡◌, ℕ, zero, suc, ◌+◌, ◌*◌, ◌<◌, ◌≤◌, List, [], ◌∷◌, ◌++◌, length, take, drop, get_or, set, refl, ◌∙◌, ap, ap₂, arith, drop-drop, length-append, length-drop}
use Rattle.std.proofs.lemmas.List.{take_at, drop_at, take-take, length-take, get_or-take, take-append-le, drop-append-le, drop-take}
use Rattle.std.proofs.lemmas.Nat.{row_fits}
use Rattle.rx_engines.specs.Walk.{Slots}
use Rattle.rx_engines.specs.Threads.{rows_of}

pub length-rows_of : (width : ℕ) (starts : List ℕ) (cells : Slots) → length (rows_of width starts cells) ≡ length starts
unfolding rows_of
length-rows_of width [] cells = refl
length-rows_of width (s ∷ starts) cells = ap suc (length-rows_of width starts (drop width cells))

pub row-of : (width : ℕ) (starts : List ℕ) (cells : Slots) (k : ℕ) → k < length starts
    → get_or (rows_of width starts cells) k (0, []) ≡ (get_or starts k 0, take width (drop (k * width) cells))
unfolding rows_of
row-of width [] cells k lt = absurd (omega arith)
row-of width (s ∷ starts) cells zero lt = let e : 0 * width ≡ 0 = omega arith in rw e refl
row-of width (s ∷ starts) cells (suc k) lt =
    let e : suc k * width ≡ width + k * width = omega arith in
    rw (e, ← drop-drop (k * width) width cells) (row-of width starts (drop width cells) k (omega arith))

rows_fit : (k n width : ℕ) → k < n → (m : ℕ) → suc n * width ≤ m → suc k * width ≤ m
rows_fit k n width lt m le = let h = row_fits k width n width (omega arith) (omega arith) in omega arith

length-take-le : {A : Type 0} (n : ℕ) (xs : List A) → n ≤ length xs → length (take n xs) ≡ n
length-take-le n xs le = let h = length-take n xs in omega arith

pub row-set : (width : ℕ) (starts : List ℕ) (cells row : Slots) (k s : ℕ) → k < length starts → length starts * width ≤ length cells → length row ≡ width
    → rows_of width (set starts k s) (take (k * width) cells ++ (row ++ drop width (drop (k * width) cells))) ≡ set (rows_of width starts cells) k (s, row)
unfolding rows_of
row-set width [] cells row k s lt room wide = absurd (omega arith)
row-set width (x ∷ starts) cells row zero s lt room wide =
    let e : 0 * width ≡ 0 = omega arith in
    rw e (ap₂ (λ r rest. (s, r) ∷ rest) (take_at row (drop width cells) width wide) (ap (rows_of width starts) (drop_at row (drop width cells) width wide)))
row-set width (x ∷ starts) cells row (suc k) s lt room wide =
    let e : suc k * width ≡ width + k * width = omega arith in
    let few : suc k * width ≤ length cells = rows_fit k (length starts) width (omega arith) (length cells) room in
    let front : length (take (width + k * width) cells) ≡ width + k * width = length-take-le (width + k * width) cells (omega arith) in
    rw (e, ← drop-drop (k * width) width cells)
    (ap₂ (λ r rest. (x, r) ∷ rest)
    (take-append-le width (take (width + k * width) cells) (row ++ drop width (drop (k * width) (drop width cells))) (omega arith)
    ∙ take-take width (width + k * width) cells (omega arith))
    (ap (rows_of width (set starts k s))
    (drop-append-le width (take (width + k * width) cells) (row ++ drop width (drop (k * width) (drop width cells))) (omega arith)
    ∙ ap (λ xs. xs ++ (row ++ drop width (drop (k * width) (drop width cells)))) (drop-take width (k * width) cells))
    ∙ row-set width starts (drop width cells) row k s (omega arith) (let d = length-drop width cells in omega arith) wide))

pub length-row_put : (width : ℕ) (cells row : Slots) (k n : ℕ) → k < n → n * width ≤ length cells → length row ≡ width
    → length (take (k * width) cells ++ (row ++ drop width (drop (k * width) cells))) ≡ length cells
length-row_put width cells row k n lt room wide =
    let fits = row_fits k width n width lt (omega arith) in
    let a = length-append (take (k * width) cells) (row ++ drop width (drop (k * width) cells)) in
    let b = length-append row (drop width (drop (k * width) cells)) in
    let d = length-take (k * width) cells in
    let e = length-drop width (drop (k * width) cells) in
    let f = length-drop (k * width) cells in
    omega arith

-- The rows that are in use.

take-set : (n : ℕ) (xs : List ℕ) (k s : ℕ) → take n (set xs k s) ≡ set (take n xs) k s
take-set zero xs k s = refl
take-set (suc n) [] k s = refl
take-set (suc n) (x ∷ xs) zero s = refl
take-set (suc n) (x ∷ xs) (suc k) s = ap (λ ys. x ∷ ys) (take-set n xs k s)

module _ (rows width : ℕ) (starts : List ℕ) (cells : Slots) (fewer : rows ≤ length starts) where
  pub length-used : length (rows_of width (take rows starts) cells) ≡ rows
  length-used = length-rows_of width (take rows starts) cells ∙ length-take-le rows starts fewer

  pub used-row : (k : ℕ) → k < rows → get_or (rows_of width (take rows starts) cells) k (0, []) ≡ (get_or starts k 0, take width (drop (k * width) cells))
  used-row k lt =
      let long = length-take-le rows starts fewer in
      row-of width (take rows starts) cells k (omega arith)
      ∙ ap (λ s. (s, take width (drop (k * width) cells))) (get_or-take rows starts k 0 lt)

  pub used-set : (row : Slots) (k s : ℕ) → k < rows → rows * width ≤ length cells → length row ≡ width
      → rows_of width (take rows (set starts k s)) (take (k * width) cells ++ (row ++ drop width (drop (k * width) cells))) ≡ set
      (rows_of width (take rows starts) cells) k (s, row)
  used-set row k s lt room wide =
      let long = length-take-le rows starts fewer in
      ap (λ ss. rows_of width ss (take (k * width) cells ++ (row ++ drop width (drop (k * width) cells)))) (take-set rows starts k s)
      ∙ row-set width (take rows starts) cells row k s (omega arith) (rw long room) wide
