-- What the rows of a cache keep.
use Rattle.std.proofs.Common.{◌≡◌, ℕ, ◌+◌, ◌*◌, ◌^◌, ◌≤◌, ◌<◌, inl, inr, List, [], ◌∷◌, ◌++◌, length, set, replicate, sym, ◌∙◌, ap, subst, arith, true≢false}
use Rattle.std.proofs.lemmas.List.{length_push, length-append, length-replicate, length-set}
use Rattle.std.proofs.lemmas.List.Sums.{sum_by_push}
use Rattle.std.proofs.lemmas.Bool.{cases_lt}
use Rattle.std.proofs.lemmas.Nat.{mul-add-lt, pow_below}
use Rattle.std.proofs.Math.Nat.{mul_comm}
use Rattle.std.proofs.lemmas.Option.{none-some, slice_get_within, get_or_from_slice_get}
use Rattle.std.specs.Prelude.{All, true, false, Option, Some, None, Result, Ok, Err, OnOk, OnErr, is_err, IfSome, slice_get}
use Rattle.rx_determinize.specs.Key.{Key}
use Rattle.rx_dfa.specs.Lazy.{LazyValue, IsLazySound, StandsFor, IsNext, AreCells, IsLive, begun_key, state_size, accounted, offsets, unknown}
use Rattle.rx_dfa.specs.LazyCache.{AreRowsOf}
use Rattle.rx_dfa.specs.declared.lazy.start.Start.{Start}
use Rattle.rx_dfa.specs.declared.lazy.rows.Rows.{Rows}
use Rattle.rx_dfa.proofs.lemmas.ChainLemmas.{got-push}
use Rattle.rx_dfa.proofs.lemmas.LazyLemmas.{stands-grow, cells-grow, cells-set}

pub wide : (l : LazyValue) → IsLazySound l → 0 < l.stride
wide l sound = omega (arith, sound.wide)

times-next : (n m : ℕ) → n * m + m ≡ (n + 1) * m
times-next n m = omega arith

pub rows-none : (l : LazyValue) (r : Rows) → r.cells.items ≡ [] → r.keys ≡ [] → r.starts.items ≡ [] → r.size ≡ 0 → AreRowsOf l r
rows-none l r cells keys starts size = record {
  cells = λ i x k got known at. absurd (none-some x (sym (ap (λ xs. slice_get xs i) cells) ∙ got));
  len = ap length cells ∙ sym (ap (λ (ks : List Key). length ks * l.stride) keys ∙ nothing l.stride);
  few = let none : length r.cells.items ≡ 0 = ap length cells in omega arith;
  keys = λ row k got. absurd (none-some k (sym (ap (λ (ks : List Key). slice_get ks row) keys) ∙ got));
  starts = λ i s got. absurd (none-some s (sym (ap (λ (ss : List Start). slice_get ss i) starts) ∙ got));
  size = size ∙ sym (ap (accounted l.stride) keys);
  fits = omega arith;
}
  where
    nothing : (m : ℕ) → 0 * m ≡ 0
    nothing m = omega arith

-- the same rows
pub rows-same : (l : LazyValue) (r s : Rows) → AreRowsOf l r → s.cells.items ≡ r.cells.items → s.keys ≡ r.keys → s.starts.items ≡ r.starts.items
    → s.size ≡ r.size → AreRowsOf l s
rows-same l r s h cells keys starts size = record {
  cells = subst (λ ks. AreCells l ks s.cells.items) (sym keys) (subst (λ cs. AreCells l r.keys cs) (sym cells) h.cells);
  len = ap length cells ∙ h.len ∙ ap (λ (ks : List Key). length ks * l.stride) (sym keys);
  few = let same : length s.cells.items ≡ length r.cells.items = ap length cells in omega (arith, h.few);
  keys = λ row k got. h.keys row k (sym (ap (λ (ks : List Key). slice_get ks row) keys) ∙ got);
  starts = λ i st got. subst (λ ks. StandsFor l.stride ks st.state (begun_key l.dfa st.start st.loops st.before)) (sym keys)
      (h.starts i st (sym (ap (λ (ss : List Start). slice_get ss i) starts) ∙ got));
  size = size ∙ h.size ∙ ap (accounted l.stride) (sym keys);
  fits = omega (arith, h.fits);
}

-- a row more
pub rows-add : (l : LazyValue) → IsLazySound l → (r s : Rows) → AreRowsOf l r → (k : Key) → IsLive l.dfa k
    → s.cells.items ≡ r.cells.items ++ replicate l.stride unknown → s.keys ≡ r.keys ++ k ∷ [] → s.starts.items ≡ r.starts.items
    → s.size ≡ r.size + state_size l.stride k → r.size + state_size l.stride k ≤ l.capacity → length r.cells.items + l.stride ≤ offsets → AreRowsOf l s
rows-add l sound r s h k live cells keys starts size room few =
    let grown : length s.cells.items ≡ length r.cells.items + l.stride =
    ap length cells ∙ length-append r.cells.items (replicate l.stride unknown)
    ∙ ap (λ m. length r.cells.items + m) (length-replicate l.stride unknown) in
    let counted : length s.keys ≡ length r.keys + 1 = ap length keys ∙ length_push r.keys k in
    record {
      cells = subst (λ ks. AreCells l ks s.cells.items) (sym keys)
          (subst (λ cs. AreCells l (r.keys ++ k ∷ []) cs) (sym cells) (cells-grow l r.keys r.cells.items k (wide l sound) h.len h.cells));
      len = grown ∙ ap (λ m. m + l.stride) h.len ∙ times-next (length r.keys) l.stride ∙ ap (λ m. m * l.stride) (sym counted);
      few = omega (arith, grown, few);
      keys = λ row x got. elim (got-push r.keys k x row (sym (ap (λ (ks : List Key). slice_get ks row) keys) ∙ got)) [
        | inl old ↦ h.keys row x old
        | inr (at, is) ↦ subst (IsLive l.dfa) is live
      ];
      starts = λ i st got. subst (λ ks. StandsFor l.stride ks st.state (begun_key l.dfa st.start st.loops st.before)) (sym keys)
          (stands-grow l.stride r.keys (k ∷ []) st.state (begun_key l.dfa st.start st.loops st.before)
          (h.starts i st (sym (ap (λ (ss : List Start). slice_get ss i) starts) ∙ got)));
      size = size ∙ ap (λ m. m + state_size l.stride k) h.size ∙ sym (sum_by_push (state_size l.stride) r.keys k) ∙ ap (accounted l.stride) (sym keys);
      fits = omega (arith, size, room);
    }

-- a cell of a row lies in the table
pub inside : (rows stride row column len : ℕ) → len ≡ rows * stride → row < rows → column < stride → row * stride + column < len
inside rows stride row column len is below narrow =
    let there : row * stride + column < stride * rows = mul-add-lt row stride column rows below narrow in
    let turned : stride * rows ≡ rows * stride = mul_comm stride rows in
    omega arith

-- a cell that is known now
pub rows-set : (l : LazyValue) → (r s : Rows) → AreRowsOf l r → (row column state : ℕ) → column < l.stride → row < length r.keys
    → ((k : Key) → slice_get r.keys row ≡ Some k → IsNext l r.keys k column state)
    → s.cells.items ≡ set r.cells.items (row * l.stride + column) state → s.keys ≡ r.keys → s.starts.items ≡ r.starts.items → s.size ≡ r.size
    → AreRowsOf l s
rows-set l r s h row column state narrow below next cells keys starts size =
    let within : row * l.stride + column < length r.cells.items = inside (length r.keys) l.stride row column (length r.cells.items) h.len below narrow in
    record {
      cells = subst (λ ks. AreCells l ks s.cells.items) (sym keys)
          (subst (λ cs. AreCells l r.keys cs) (sym cells) (cells-set l r.keys r.cells.items row column state narrow within h.cells next));
      len = ap length cells ∙ length-set r.cells.items (row * l.stride + column) state ∙ h.len ∙ ap (λ (ks : List Key). length ks * l.stride) (sym keys);
      few = let same : length s.cells.items ≡ length r.cells.items =
          ap length cells ∙ length-set r.cells.items (row * l.stride + column) state in omega (arith, h.few);
      keys = λ at k got. h.keys at k (sym (ap (λ (ks : List Key). slice_get ks at) keys) ∙ got);
      starts = λ i st got. subst (λ ks. StandsFor l.stride ks st.state (begun_key l.dfa st.start st.loops st.before)) (sym keys)
          (h.starts i st (sym (ap (λ (ss : List Start). slice_get ss i) starts) ∙ got));
      size = size ∙ h.size ∙ ap (accounted l.stride) (sym keys);
      fits = omega (arith, h.fits);
    }

-- starts that are noted
pub rows-noted : (l : LazyValue) (r s : Rows) → AreRowsOf l r → s.cells.items ≡ r.cells.items → s.keys ≡ r.keys → s.size ≡ r.size
    → ((i : ℕ) (st : Start) → slice_get s.starts.items i ≡ Some st → StandsFor l.stride r.keys st.state (begun_key l.dfa st.start st.loops st.before))
    → AreRowsOf l s
rows-noted l r s h cells keys size starts = record {
  cells = subst (λ ks. AreCells l ks s.cells.items) (sym keys) (subst (λ cs. AreCells l r.keys cs) (sym cells) h.cells);
  len = ap length cells ∙ h.len ∙ ap (λ (ks : List Key). length ks * l.stride) (sym keys);
  few = let same : length s.cells.items ≡ length r.cells.items = ap length cells in omega (arith, h.few);
  keys = λ row k got. h.keys row k (sym (ap (λ (ks : List Key). slice_get ks row) keys) ∙ got);
  starts = λ i st got. subst (λ ks. StandsFor l.stride ks st.state (begun_key l.dfa st.start st.loops st.before)) (sym keys) (starts i st got);
  size = size ∙ h.size ∙ ap (accounted l.stride) (sym keys);
  fits = omega (arith, h.fits);
}

-- one start more
pub noted-push : (l : LazyValue) (r : Rows) → AreRowsOf l r → (start : Start)
    → StandsFor l.stride r.keys start.state (begun_key l.dfa start.start start.loops start.before)
    → (i : ℕ) (st : Start) → slice_get (r.starts.items ++ start ∷ []) i ≡ Some st
    → StandsFor l.stride r.keys st.state (begun_key l.dfa st.start st.loops st.before)
noted-push l r h start stands i st got =
    elim (got-push r.starts.items start st i got) [
      | inl old ↦ h.starts i st old
      | inr (at, is) ↦ subst (λ (x : Start). StandsFor l.stride r.keys x.state (begun_key l.dfa x.start x.loops x.before)) is stands
    ]

-- a row begins within the numbers of states
pub row-small : (l : LazyValue) → IsLazySound l → (r : Rows) → AreRowsOf l r → (row : ℕ) → row < length r.keys → row * l.stride < offsets
row-small l sound r h row below =
    let there : row * l.stride + 0 < length r.cells.items = inside (length r.keys) l.stride row 0 (length r.cells.items) h.len below (wide l sound) in
    omega (arith, h.few)

-- the start of a pattern is a state
pub start-below : (xs : List ℕ) (n i : ℕ) (o : Option ℕ) → o ≡ slice_get xs i → All (λ q. q < n) xs → IfSome o (λ q. q < n)
start-below xs n i None is h = tt
start-below xs n i (Some q) is h = subst (λ m. m < n) (get_or_from_slice_get xs i q q (sym is)) (h i q (slice_get_within xs i q (sym is)))

-- what a clause says of an answer, where it is known to be one, or an error
pub ok-then : {A E : Type 0} (r : Result A E) (P : Type 0) → is_err r ≡ false → OnOk r P → P
ok-then (Ok x) P h p = p
ok-then (Err e) P h p = absurd (true≢false h)

pub err-then : {A E : Type 0} (r : Result A E) (P : Type 0) → is_err r ≡ true → OnErr r P → P
err-then (Ok x) P h p = absurd (true≢false (sym h))
err-then (Err e) P h p = p

pub on-ok : {A E : Type 0} (r : Result A E) (P : Type 0) → P → OnOk r P
on-ok (Ok x) P p = p
on-ok (Err e) P p = tt

pub pow-narrow : (k : ℕ) → k ≤ 9 → 2 ^ k ≤ 512
pow-narrow k le =
    elim (cases_lt k 9) [
      | inl lt ↦ let low : 2 ^ k < 2 ^ 9 = pow_below k 9 lt in omega arith
      | inr high ↦ let same : k ≡ 9 = omega arith in subst (λ n. 2 ^ n ≤ 512) (sym same) nine
    ]
  where
    nine : 2 ^ 9 ≤ 512
    nine = omega arith
