-- A row that is whole, one that is appended to those of its sort, and the table of all rows.
use Rattle.std.proofs.Common.{◌≡◌, ℕ, zero, suc, ◌+◌, ◌-◌, ◌*◌, ◌<◌, ◌≤◌, inl, inr, List, [], ◌∷◌, ◌++◌, map, take, replicate, length, get_or, refl, sym, ◌∙◌, ap, subst, arith, true≢false}
use Rattle.std.specs.Prelude.{true, false, Some, Result, IfOk, IsErrAnd, slice_get, slice_index}
use Rattle.std.proofs.lemmas.Bool.{cases_lt}
use Rattle.std.proofs.lemmas.List.{length-append, length-map, length-replicate, get_or_append_left, get_or-append_right, take_all}
use Rattle.std.proofs.lemmas.Option.{slice_get_within}
use Rattle.std.proofs.lemmas.Result.{err_from_is_err_and}
use Rattle.std.proofs.Math.Nat.{mul-le-mul_left}
use Rattle.rx_determinize.specs.Key.{Key}
use Rattle.rx_dfa.specs.Automaton.{Dfa, IsSound, last_key}
use Rattle.rx_dfa.specs.StateKey.{key_of}
use Rattle.rx_dfa.specs.Numbers.{settled}
use Rattle.rx_dfa.specs.Table.{IsRow, IsCell, AreRows, AreStarts}
use Rattle.rx_dfa.specs.Dense.{IsRefused}
use Rattle.rx_dfa.specs.Found.{keys_in, plain_keys, special_keys, IsNumber, AreFound, Stays, Grows, IsMade}
use Rattle.rx_dfa.specs.Work.{IsPart, IsAppended, AreFilled, AreWithin, AreDrawn}
use Rattle.rx_dfa.specs.declared.state_key.StateKey.{StateKey}
use Rattle.rx_dfa.specs.declared.dense.error.BuildError.{BuildError}
use Rattle.rx_dfa.specs.declared.dense.found.Found.{Found}
use Rattle.rx_dfa.specs.declared.dense.rows.Cells.{Cells}
use Rattle.rx_dfa.proofs.lemmas.RowLemmas.{number-grows, part-push, rows-grow, rows-push}
use Rattle.rx_dfa.proofs.lemmas.SettleLemmas.{rows-settled, starts-settled}

last-read : (xs : List ℕ) (x : ℕ) → slice_index (xs ++ x ∷ []) (length xs) ≡ x
last-read xs x =
    let none : length xs - length xs ≡ 0 = omega arith in
    get_or-append_right xs (x ∷ []) (length xs) (length xs) 0 refl (omega arith) ∙ ap (λ n. get_or (x ∷ []) n 0) none

part-padded : (d : Dfa) (Num : ℕ → Key → Type 0) (k : Key) (n more pad : ℕ) (old cells : List ℕ) → length d.bytes ≤ n → IsPart d Num k n old cells
    → IsPart d Num k (n + more) old (cells ++ replicate more pad)
part-padded d Num k n more pad old cells wide part =
    let len = part.len in
    record {
      len = (let sum = length-append cells (replicate more pad) in let padded = length-replicate more pad in omega arith);
      stays = λ i lt. get_or_append_left cells (replicate more pad) 0 i (omega arith) ∙ part.stays i lt;
      steps = λ class lt inside.
          subst (λ (x : ℕ). IsCell d Num (slice_index d.bytes class) k x)
          (sym (get_or_append_left cells (replicate more pad) 0 (length old + class) (omega arith)))
          (part.steps class (omega arith) inside);
    }

-- The cells of all classes, then that of the end of input, and then some that no search reads.
pub row-made : (d : Dfa) (Old New : ℕ → Key → Type 0) → ((n : ℕ) (k : Key) → Old n k → New n k)
    → (k : Key) (stride : ℕ) (old cells here new : List ℕ) (last end len pad : ℕ)
    → length d.bytes < stride → IsPart d Old k (length d.bytes) old cells → New last (last_key d k) → here ≡ cells ++ last ∷ [] → end ≡ length old + stride
    → len ≡ length here → new ≡ take end here ++ replicate (end - len) pad → IsAppended d stride New k old new
row-made d Old New grow k stride old cells here new last end len pad wide part is is_here is_end is_len is_new =
    let before = part.len in
    let pushed = part-push d Old New grow k (length d.bytes) old cells last part (λ lt. absurd (omega arith)) in
    let long : length here ≡ length cells + 1 = ap (λ (xs : List ℕ). length xs) is_here ∙ length-append cells (last ∷ []) in
    let whole : new ≡ here ++ replicate (end - len) pad = is_new ∙ ap (λ (xs : List ℕ). xs ++ replicate (end - len) pad) (take_all end here (omega arith)) in
    let all = part-padded d New k (length d.bytes + 1) (end - len) pad old here (omega arith)
    (subst (λ (xs : List ℕ). IsPart d New k (length d.bytes + 1) old xs) (sym is_here) pushed) in
    let there : slice_index new (length old + length d.bytes) ≡ last =
    ap (λ (xs : List ℕ). slice_index xs (length old + length d.bytes)) whole
    ∙ get_or_append_left here (replicate (end - len) pad) 0 (length old + length d.bytes) (omega arith)
    ∙ ap (λ (xs : List ℕ). slice_index xs (length old + length d.bytes)) is_here
    ∙ ap (slice_index (cells ++ last ∷ [])) (let place : length old + length d.bytes ≡ length cells = omega arith in place)
    ∙ last-read cells last in
    record {
      part = subst (λ (n : ℕ). IsPart d New k n old new) (let n : length d.bytes + 1 + (end - len) ≡ stride = omega arith in n)
          (subst (λ (xs : List ℕ). IsPart d New k (length d.bytes + 1 + (end - len)) old xs) (sym whole) all);
      end = subst (λ (x : ℕ). New x (last_key d k)) (sym there) is;
    }

there-at : (keys : List Key) (row : ℕ) → row < length keys → (k : Key) × (slice_get keys row ≡ Some k)
there-at [] row lt = absurd (omega arith)
there-at (x ∷ xs) zero lt = (x, refl)
there-at (x ∷ xs) (suc row) lt = there-at xs row (let e : row < length xs = omega arith in e)

stays-within : (old new : List Key) → Stays old new → (n : ℕ) → n ≤ length old → n ≤ length new
stays-within old new stays zero le = omega arith
stays-within old new stays (suc m) le =
    let at = there-at old m (let e : m < length old = omega arith in e) in
    let lt = slice_get_within new m at.0 (stays m at.0 at.1) in
    omega arith

-- of no sort there are more rows than numbers
pub few-rows : (f : Found) (c : Cells) → AreWithin f c → c.plain_rows + c.special_rows < 2147483648
few-rows f c within =
    let some : 1 ≤ f.stride = f.some in
    let plain = few (length f.plain.keys) f.stride some f.plain_room in
    let special = few (length f.special.keys) f.stride some f.special_room in
    let of_plain = within.plain in
    let of_special = within.special in
    let mapped = length-map f.plain.keys key_of in
    let mapped' = length-map f.special.keys key_of in
    omega arith
  where
    few : (n s : ℕ) → 1 ≤ s → n * s < 1073741824 → n < 1073741824
    few n s some lt = let product = mul-le-mul_left n some in omega arith

-- Where no key stands behind the rows of a sort, it has a row for each of its keys.
pub all-rows : (keys : List StateKey) (rows : ℕ) → (rows < length keys → false ≡ true) → rows ≤ length (keys_in keys) → rows ≡ length (keys_in keys)
all-rows keys rows past within =
    let mapped = length-map keys key_of in
    elim (cases_lt rows (length keys)) [
      | inl lt ↦ absurd (true≢false (sym (past lt)))
      | inr le ↦ omega arith
    ]

-- what a clause says of what was made, where an error is handed on
pub unmade : {A : Type 0} (P : A → Type 0) (Q : BuildError → Type 0) (r : Result A BuildError) → IsErrAnd r Q → IfOk r P
unmade P Q r is = let e = err_from_is_err_and r is in rw (e.1) tt

-- an error that has its cause, where nothing was made
pub made-refused : {A : Type 0} {Q : BuildError → Type 0} (d : Dfa) (old new : Found) (P : A → Type 0) (r : Result A BuildError) → AreFound d new
    → IsErrAnd r Q → ((e : BuildError) → Q e → IsRefused d old.stride old.limit e) → IsMade d old new P r
made-refused {Q = Q} d old new P r found is refused =
    let e = err_from_is_err_and r is in
    record { found = found; ok = unmade P Q r is; err = rw (e.1) (refused (e.0) (e.2)) }

module _ (d : Dfa) (old new : Found) (grows : Grows old new) (c later : Cells) (within : AreWithin old c) (filled : AreFilled d old c) (k : Key) where
  plain-grown : AreRows d new.stride (IsNumber new) (plain_keys new) c.plain_rows c.plain.items
  plain-grown =
      subst (λ s. AreRows d s (IsNumber new) (plain_keys new) c.plain_rows c.plain.items) (sym grows.stride)
      (rows-grow d old.stride (IsNumber old) (IsNumber new) (number-grows old new grows) (plain_keys old) (plain_keys new) c.plain_rows c.plain.items
      within.plain
      grows.plain filled.plain)

  special-grown : AreRows d new.stride (IsNumber new) (special_keys new) c.special_rows c.special.items
  special-grown =
      subst (λ s. AreRows d s (IsNumber new) (special_keys new) c.special_rows c.special.items) (sym grows.stride)
      (rows-grow d old.stride (IsNumber old) (IsNumber new) (number-grows old new grows) (special_keys old) (special_keys new) c.special_rows c.special.items
      within.special grows.special filled.special)

  pub plain-filled : length d.bytes < old.stride → slice_get (plain_keys old) c.plain_rows ≡ Some k
      → IsAppended d old.stride (IsNumber new) k c.plain.items later.plain.items → later.plain_rows ≡ c.plain_rows + 1
      → later.special_rows ≡ c.special_rows → later.special.items ≡ c.special.items → AreFilled d new later
  plain-filled wide there more rows same cells =
      let stride = grows.stride in
      record {
        plain = subst (λ n. AreRows d new.stride (IsNumber new) (plain_keys new) n later.plain.items) (sym rows)
            (rows-push d new.stride (IsNumber new) (plain_keys new) c.plain_rows k c.plain.items later.plain.items (omega arith)
            (grows.plain c.plain_rows k there)
            plain-grown (subst (λ s. IsAppended d s (IsNumber new) k c.plain.items later.plain.items) (sym grows.stride) more));
        special = subst (λ n. AreRows d new.stride (IsNumber new) (special_keys new) n later.special.items) (sym same)
            (subst (λ (xs : List ℕ). AreRows d new.stride (IsNumber new) (special_keys new) c.special_rows xs) (sym cells) special-grown);
      }

  pub special-filled : length d.bytes < old.stride → slice_get (special_keys old) c.special_rows ≡ Some k
      → IsAppended d old.stride (IsNumber new) k c.special.items later.special.items → later.special_rows ≡ c.special_rows + 1
      → later.plain_rows ≡ c.plain_rows → later.plain.items ≡ c.plain.items → AreFilled d new later
  special-filled wide there more rows same cells =
      let stride = grows.stride in
      record {
        plain = subst (λ n. AreRows d new.stride (IsNumber new) (plain_keys new) n later.plain.items) (sym same)
            (subst (λ (xs : List ℕ). AreRows d new.stride (IsNumber new) (plain_keys new) c.plain_rows xs) (sym cells) plain-grown);
        special = subst (λ n. AreRows d new.stride (IsNumber new) (special_keys new) n later.special.items) (sym rows)
            (rows-push d new.stride (IsNumber new) (special_keys new) c.special_rows k c.special.items later.special.items (omega arith)
            (grows.special c.special_rows k there) special-grown
            (subst (λ s. IsAppended d s (IsNumber new) k c.special.items later.special.items) (sym grows.stride) more));
      }

  pub plain-within : slice_get (plain_keys old) c.plain_rows ≡ Some k → later.plain_rows ≡ c.plain_rows + 1 → later.special_rows ≡ c.special_rows
      → AreWithin new later
  plain-within there rows same =
      let lt = slice_get_within (plain_keys new) c.plain_rows k (grows.plain c.plain_rows k there) in
      let le = stays-within (special_keys old) (special_keys new) grows.special c.special_rows within.special in
      record { plain = omega arith; special = omega arith }

  pub special-within : slice_get (special_keys old) c.special_rows ≡ Some k → later.special_rows ≡ c.special_rows + 1 → later.plain_rows ≡ c.plain_rows
      → AreWithin new later
  special-within there rows same =
      let lt = slice_get_within (special_keys new) c.special_rows k (grows.special c.special_rows k there) in
      let le = stays-within (plain_keys old) (plain_keys new) grows.plain c.plain_rows within.plain in
      record { plain = omega arith; special = omega arith }

-- the table of all rows, with the numbers that states have at the end
pub drawn : (d : Dfa) → IsSound d → (f : Found) (c : Cells) (begun table starts : List ℕ) → length d.bytes < f.stride → AreFilled d f c
    → c.plain_rows ≡ length (plain_keys f) → c.special_rows ≡ length (special_keys f) → AreStarts d (IsNumber f) begun
    → table ≡ map (settled (length c.plain.items)) c.plain.items ++ map (settled (length c.plain.items)) c.special.items
    → starts ≡ map (settled (length c.plain.items)) begun → AreDrawn d f table starts
drawn d sound f c begun table starts wide filled plain special are is_table is_starts =
    let of_plain = subst (λ n. AreRows d f.stride (IsNumber f) (plain_keys f) n c.plain.items) plain filled.plain in
    let of_special = subst (λ n. AreRows d f.stride (IsNumber f) (special_keys f) n c.special.items) special filled.special in
    let classes = sound.serve.stand.each in
    let some : 1 < f.stride = omega arith in
    let room : length (plain_keys f) * f.stride < 1073741824 = subst (λ n. n * f.stride < 1073741824) (sym (length-map f.plain.keys key_of)) f.plain_room in
    let more : length (special_keys f) * f.stride < 1073741824 = subst (λ n. n * f.stride < 1073741824) (sym (length-map f.special.keys key_of))
    f.special_room in
    record {
      rows = subst (λ (xs : List ℕ). AreRows d f.stride (IsRow f.stride (plain_keys f ++ special_keys f) 0) (plain_keys f ++ special_keys f)
          (length (plain_keys f ++ special_keys f)) xs) (sym is_table)
          (rows-settled f d (length c.plain.items) of_plain.len room more some c.plain.items c.special.items wide of_plain of_special);
      starts = subst (AreStarts d (IsRow f.stride (plain_keys f ++ special_keys f) 0)) (sym is_starts)
          (starts-settled f d (length c.plain.items) of_plain.len room more some begun are);
    }
