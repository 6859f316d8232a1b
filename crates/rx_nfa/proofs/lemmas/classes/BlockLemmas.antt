-- Blocks of states, and rows of blocks.
use Rattle.std.proofs.Common.{◌≡◌, ℕ, zero, suc, ◌+◌, ◌-◌, ◌*◌, ◌/◌, ◌%◌, ◌≤◌, ◌<◌, ◌⊎◌, List, [], ◌∷◌, ◌++◌, refl, sym, ◌∙◌, ap, subst, inl, inr, arith, length, get_or, mul-le-mul_right, mul-le-mul_left, slice_index}
use Rattle.std.specs.Prelude.{Bool, true, false, Option, Some, None, if◌then◌else◌, ◌==◌, nat_lt, nat_le, ◌&&◌}
use Rattle.std.proofs.lemmas.Bool.Decides.{nat_tests}
use Rattle.std.proofs.lemmas.List.{length-append, get_or_append_left, get_or-append_right}
use Rattle.rx_model.proofs.lemmas.runs.RunLemmas.{by_test}
use Rattle.rx_nfa.specs.Ranges.{size_of_block, ends_in, is_narrow, one_if, EndsFrom, IsRest, CoversUpTo}
use Rattle.std.proofs.lemmas.Option.{none-some, same_Some}
use Rattle.rx_nfa.specs.Automaton.{route}
use Rattle.rx_nfa.specs.Row.{IsReader, RoutesBelow, AddsReaders}
use Rattle.rx_nfa.specs.Trie.{IsBlock, IsRow, AreWhole, IsReady, HasEnd}
use Rattle.rx_nfa.specs.declared.state.Transition.{Transition}
use Rattle.rx_nfa.specs.declared.state.State.{State}
use Rattle.rx_nfa.proofs.lemmas.classes.RowLemmas.{IsReader-grows, IsReader-lower}
use Rattle.rx_nfa.proofs.lemmas.classes.RangesLemmas.{ends_in-split}

pub IsBlock-map : (A B : ℕ → List Transition → Type 0) (next : ℕ) → ((q : ℕ) (ts : List Transition) → A q ts → B q ts)
    → (member : ℕ → Bool) (depth start : ℕ) (target : Option ℕ) → IsBlock A next member depth start target → IsBlock B next member depth start target
unfolding IsBlock
IsBlock-map A B next keep member zero start target h = h
IsBlock-map A B next keep member (suc depth) start None h = h
IsBlock-map A B next keep member (suc depth) start (Some q) h =
    (h.0, keep q h.0 h.1, h.2, λ k lt. IsBlock-map A B next keep member depth (start + k * size_of_block depth) (route h.0 (0x80 + k)) (h.3 k lt))

part-of : (k s c start : ℕ) → k < 64 → c < start + k * s + s → c < start + 64 * s
part-of k s c start lt h = let most : k ≤ 63 = omega arith in omega (arith, mul-le-mul_right s most)

module _ (A : ℕ → List Transition → Type 0) (next : ℕ) where
  pub IsBlock-same : (a b : ℕ → Bool) (depth start : ℕ) (target : Option ℕ) → ((c : ℕ) → start ≤ c → c < start + size_of_block depth → b c ≡ a c)
      → IsBlock A next a depth start target → IsBlock A next b depth start target
  unfolding IsBlock size_of_block
  IsBlock-same a b zero start target same h = h ∙ ap (λ x. if x then Some next else None) (sym (same start (omega arith) (omega arith)))
  IsBlock-same a b (suc depth) start None same h = λ c from to. same c from to ∙ h c from to
  IsBlock-same a b (suc depth) start (Some q) same h = (
    h.0,
    h.1,
    h.2,
    λ k lt. IsBlock-same a b depth (start + k * size_of_block depth) (route h.0 (0x80 + k))
        (λ c from to. same c (omega arith) (part-of k (size_of_block depth) c start lt to)) (h.3 k lt),
  )

  pub IsBlock-none : (member : ℕ → Bool) (depth start : ℕ) → ((c : ℕ) → start ≤ c → c < start + size_of_block depth → member c ≡ false)
      → IsBlock A next member depth start None
  unfolding IsBlock size_of_block
  IsBlock-none member zero start none = let e = none start (omega arith) (omega arith) in rw e refl
  IsBlock-none member (suc depth) start none = none

  pub IsBlock-row : (member : ℕ → Bool) (depth start q : ℕ) (ts : List Transition) → 1 ≤ depth → A q ts
      → IsRow A next member (depth - 1) start 0x80 64 [] ts → IsBlock A next member depth start (Some q)
  unfolding IsBlock
  IsBlock-row member zero start q ts some at r = absurd (omega arith)
  IsBlock-row member (suc depth) start q ts some at r =
      let back : suc depth - 1 ≡ depth = omega arith in (
        ts,
        at,
        λ b out. r.elsewhere b (either out),
        λ k lt. subst (λ d. IsBlock A next member d (start + k * size_of_block d) (route ts (0x80 + k))) back
            (r.each k lt),
      )
    where
      either : {b : ℕ} → (b < 0x80) ⊎ (0xC0 ≤ b) → (b < 0x80) ⊎ (0x80 + 64 ≤ b)
      either (inl x) = inl x
      either (inr x) = inr x

  pub IsRow-none : (member : ℕ → Bool) (depth start first : ℕ) (ts : List Transition) → IsRow A next member depth start first 0 ts ts
  IsRow-none member depth start first ts = record {
    elsewhere = λ b out. refl;
    each = λ k lt. absurd (omega arith);
  }

pub IsRow-next : (A B : ℕ → List Transition → Type 0) (next : ℕ) → ((q : ℕ) (ts : List Transition) → A q ts → B q ts)
    → (member : ℕ → Bool) (depth start first k : ℕ) (old ts ts' : List Transition) (target : Option ℕ)
    → IsRow A next member depth start first k old ts → IsBlock B next member depth (start + k * size_of_block depth) target
    → ((b : ℕ) → route ts' b ≡ (if b == first + k then target else route ts b))
    → IsRow B next member depth start first (k + 1) old ts'
IsRow-next A B next keep member depth start first k old ts ts' target r block routes = record {
  elsewhere = λ b out. (let e : (b == first + k) ≡ false = grind (arith, nat_tests) in routes b ∙ rw e (r.elsewhere b (either b out)));
  each = λ j lt.
      by_test (j == k)
      (λ e. let same : j ≡ k = grind (arith, nat_tests) in
      let here : (first + k == first + k) ≡ true = grind (arith, nat_tests) in
      let leads : route ts' (first + k) ≡ target = (routes (first + k) ∙ rw here refl) in
      rw same (subst (λ o. IsBlock B next member depth (start + k * size_of_block depth) o) (sym leads) block))
      (λ e. let differ : (first + j == first + k) ≡ false = grind (arith, nat_tests) in
      let less : j < k = grind (arith, nat_tests) in
      let leads : route ts' (first + j) ≡ route ts (first + j) = (routes (first + j) ∙ rw differ refl) in
      subst (λ o. IsBlock B next member depth (start + j * size_of_block depth) o) (sym leads)
      (IsBlock-map A B next keep member depth (start + j * size_of_block depth) (route ts (first + j)) (r.each j less)));
}
  where
    either : (b : ℕ) → (b < first) ⊎ (first + (k + 1) ≤ b) → (b < first) ⊎ (first + k ≤ b)
    either b (inl x) = inl x
    either b (inr x) = inr (omega arith)

pub IsRow-map : (A B : ℕ → List Transition → Type 0) (next : ℕ) → ((q : ℕ) (ts : List Transition) → A q ts → B q ts)
    → (member : ℕ → Bool) (depth start first len : ℕ) (old ts : List Transition) → IsRow A next member depth start first len old ts
    → IsRow B next member depth start first len old ts
IsRow-map A B next keep member depth start first len old ts r = record {
  elsewhere = r.elsewhere;
  each = λ k lt. IsBlock-map A B next keep member depth (start + k * size_of_block depth) (route ts (first + k)) (r.each k lt);
}

-- one depth more
pub AreWhole-push : (old new : List State) (base next q : ℕ) (ids : List ℕ) (ts : List Transition) → 0 < length ids → AddsReaders old new
    → IsReader base new q ts → ts ≡ record { start = 0x80; end = 0xBF; next = slice_index ids (length ids - 1) } ∷ []
    → AreWhole (IsReader base old) next ids → AreWhole (IsReader base new) next (ids ++ q ∷ [])
AreWhole-push old new base next q ids ts some g reads is h depth lt start =
    by_test (nat_lt depth (length ids))
    (λ e. let less : depth < length ids = grind (arith, nat_tests) in
    let same : slice_index (ids ++ q ∷ []) depth ≡ slice_index ids depth = get_or_append_left ids (q ∷ []) 0 depth less in
    subst (λ x. IsBlock (IsReader base new) next (λ c. true) depth start (Some x)) (sym same)
    (IsBlock-map (IsReader base old) (IsReader base new) next (IsReader-grows base old new g) (λ c. true) depth start (Some (slice_index ids depth))
    (h depth less start)))
    (λ e. let l = length-append ids (q ∷ []) in
    let last : depth ≡ length ids = grind (arith, nat_tests) in
    let zero_more : length ids - length ids ≡ 0 = omega arith in
    let at : slice_index (ids ++ q ∷ []) depth ≡ q = ap (slice_index (ids ++ q ∷ [])) last
    ∙ get_or-append_right ids (q ∷ []) (length ids) (length ids) 0 refl (omega arith) ∙ ap (slice_index (q ∷ [])) zero_more in
    subst (λ x. IsBlock (IsReader base new) next (λ c. true) depth start (Some x)) (sym at)
    (IsBlock-row (IsReader base new) next (λ c. true) depth start q ts (omega arith) reads (record {
      elsewhere = λ b out. (ap (λ xs. route xs b) is ∙ outside b out);
      each = λ k small.
          (let less : depth - 1 < length ids = omega arith in
          let place : length ids - 1 ≡ depth - 1 = omega arith in
          let leads : route ts (0x80 + k) ≡ Some (slice_index ids (depth - 1)) =
          (ap (λ xs. route xs (0x80 + k)) is ∙ within k small ∙ ap (λ n. Some (slice_index ids n)) place) in
          subst (λ o. IsBlock (IsReader base new) next (λ c. true) (depth - 1) (start + k * size_of_block (depth - 1)) o) (sym leads)
          (IsBlock-map (IsReader base old) (IsReader base new) next (IsReader-grows base old new g) (λ c. true) (depth - 1)
          (start + k * size_of_block (depth - 1)) (Some (slice_index ids (depth - 1))) (h (depth - 1) less (start + k * size_of_block (depth - 1)))));
    })))
  where
    outside : (b : ℕ) → (b < 0x80) ⊎ (0x80 + 64 ≤ b) → route (record { start = 0x80; end = 0xBF; next = slice_index ids (length ids - 1) } ∷ []) b ≡ None
    outside b out = let e : (nat_le 0x80 b && nat_le b 0xBF) ≡ false = grind (arith, nat_tests) in rw e refl

    within : (k : ℕ) → k < 64 → route (record { start = 0x80; end = 0xBF; next = slice_index ids (length ids - 1) } ∷ []) (0x80 + k)
        ≡ Some (slice_index ids (length ids - 1))
    within k small =
        let x : nat_le 0x80 (0x80 + k) ≡ true = grind (arith, nat_tests) in
        let y : nat_le (0x80 + k) 0xBF ≡ true = grind (arith, nat_tests) in
        rw (x, y) refl

pub AreWhole-grows : (old new : List State) (base next : ℕ) (ids : List ℕ) → AddsReaders old new → AreWhole (IsReader base old) next ids
    → AreWhole (IsReader base new) next ids
AreWhole-grows old new base next ids g h depth lt start =
    IsBlock-map (IsReader base old) (IsReader base new) next (IsReader-grows base old new g) (λ c. true) depth start (Some (slice_index ids depth))
    (h depth lt start)

pub IsReady-grows : (old new : List State) (base next : ℕ) (ids : List ℕ) → AddsReaders old new → IsReady base old next ids → IsReady base new next ids
IsReady-grows old new base next ids g h = record {
  based = omega (arith, h.based, g.longer);
  whole = AreWhole-grows old new base next ids g h.whole;
}

pub IsReady-push : (old new : List State) (base next q : ℕ) (ids : List ℕ) (ts : List Transition) → 0 < length ids → AddsReaders old new → q ≡ length old
    → IsReader (length old) new q ts → ts ≡ record { start = 0x80; end = 0xBF; next = slice_index ids (length ids - 1) } ∷ []
    → IsReady base old next ids → IsReady base new next (ids ++ q ∷ [])
IsReady-push old new base next q ids ts some g here reads is h = record {
  based = omega (arith, h.based, g.longer);
  whole = AreWhole-push old new base next q ids ts some g (IsReader-lower base (length old) new q ts h.based reads) is h.whole;
}

-- the sizes, up to depth 3
pub aligned-part : (depth start : ℕ) → 1 ≤ depth → depth ≤ 3 → start % size_of_block depth ≡ 0 → start % size_of_block (depth - 1) ≡ 0
unfolding size_of_block
aligned-part zero start some deep h = absurd (omega arith)
aligned-part (suc zero) start some deep h = omega arith
aligned-part (suc (suc zero)) start some deep h = omega arith
aligned-part (suc (suc (suc zero))) start some deep h = omega arith
aligned-part (suc (suc (suc (suc n)))) start some deep h = absurd (omega arith)

pub aligned-at : (depth start k : ℕ) → depth ≤ 3 → start % size_of_block depth ≡ 0 → (start + k * size_of_block depth) % size_of_block depth ≡ 0
unfolding size_of_block
aligned-at zero start k deep h = omega arith
aligned-at (suc zero) start k deep h = omega arith
aligned-at (suc (suc zero)) start k deep h = omega arith
aligned-at (suc (suc (suc zero))) start k deep h = omega arith
aligned-at (suc (suc (suc (suc n)))) start k deep h = absurd (omega arith)

pub aligned-64 : (depth start : ℕ) → 1 ≤ depth → depth ≤ 3 → start % size_of_block depth ≡ 0 → start % 64 ≡ 0
unfolding size_of_block
aligned-64 zero start some deep h = absurd (omega arith)
aligned-64 (suc zero) start some deep h = omega arith
aligned-64 (suc (suc zero)) start some deep h = omega arith
aligned-64 (suc (suc (suc zero))) start some deep h = omega arith
aligned-64 (suc (suc (suc (suc n)))) start some deep h = absurd (omega arith)

pub HasEnd-from : (rs : List (ℕ × ℕ)) (start end : ℕ) → 0 < length rs → EndsFrom start rs → (get_or rs 0 (0, 0)).0 < end
    → (start < (get_or rs 0 (0, 0)).0) ⊎ ((get_or rs 0 (0, 0)).1 + 1 < end) → HasEnd rs start end
HasEnd-from [] start end some from lt h = absurd (omega arith)
HasEnd-from (r ∷ rs) start end some from lt h = (lt, from, h)

pub HasEnd-deep : (rs : List (ℕ × ℕ)) (depth start : ℕ) → HasEnd rs start (start + size_of_block depth) → 1 ≤ depth
unfolding size_of_block
HasEnd-deep [] depth start h = absurd h
HasEnd-deep (r ∷ rs) zero start h = absurd (elim h.2 [ inl x ↦ omega (arith, h.0) | inr x ↦ omega (arith, h.1) ])
HasEnd-deep (r ∷ rs) (suc depth) start h = omega arith

pub HasEnd-counts : (rs : List (ℕ × ℕ)) (start end : ℕ) → start % 64 ≡ 0 → HasEnd rs start end → 1 ≤ ends_in rs start end
HasEnd-counts [] start end aligned h = absurd h
HasEnd-counts (r ∷ rs) start end aligned h =
    let below = h.0 in
    let ends = h.1 in
    by_test (nat_le start r.0)
    (λ x. let y : nat_lt r.0 end ≡ true = grind (arith, nat_tests) in
    let first : one_if (nat_le start r.0 && nat_lt r.0 end) ≡ 1 = rw (x, y) refl in omega arith)
    (λ x.
    let before : r.0 < start = grind (arith, nat_tests) in
    let wide : (r.0 / 64 == r.1 / 64) ≡ false = (let differ : r.0 / 64 < r.1 / 64 = omega arith in grind (arith, nat_tests)) in
    let short : r.1 + 1 < end = elim h.2 [ inl y ↦ absurd (omega arith) | inr y ↦ y ] in
    let y : nat_le start r.1 ≡ true = grind (arith, nat_tests) in
    let z : nat_lt r.1 end ≡ true = grind (arith, nat_tests) in
    let last : (if is_narrow r then 0 else one_if (nat_le start r.1 && nat_lt r.1 end)) ≡ 1 = rw (wide, y, z) refl in
    omega arith)

pub covered-depth : (n depth start : ℕ) (rs : List (ℕ × ℕ)) (r : ℕ × ℕ) (others : List (ℕ × ℕ)) → CoversUpTo depth n rs → rs ≡ r ∷ others
    → start % size_of_block depth ≡ 0 → r.0 ≤ start → start + size_of_block depth ≤ r.1 + 1 → depth < n
unfolding CoversUpTo
covered-depth n depth start rs r others covers is aligned low high = (subst (CoversUpTo depth n) is covers).0 depth start (omega arith) aligned low high

pub CoversUpTo-less : (less deepest n : ℕ) (rs : List (ℕ × ℕ)) → less ≤ deepest → CoversUpTo deepest n rs → CoversUpTo less n rs
unfolding CoversUpTo
CoversUpTo-less less deepest n [] le h = tt
CoversUpTo-less less deepest n (r ∷ rs) le h = (λ depth start below. h.0 depth start (omega arith), CoversUpTo-less less deepest n rs le h.1)

pub count-one : (d e : ℕ) → 1 ≤ d → 1 ≤ e → (d - 1) * e + 1 ≤ d * e
count-one zero e some more = absurd (omega arith)
count-one (suc d) e some more = let back : suc d - 1 ≡ d = omega arith in rw back (omega arith)

-- one block more
pub count-next : (d : ℕ) (rs rest : List (ℕ × ℕ)) (start k s : ℕ) → IsRest (start + k * s) rs rest
    → d * ends_in rs start (start + k * s) + d * ends_in rest (start + k * s) (start + k * s + s) ≡ d * ends_in rs start (start + (k + 1) * s)
count-next d rs rest start k s r =
    let e = r.ends (start + k * s) (start + k * s + s) (omega arith) in
    let far : start + k * s + s ≡ start + (k + 1) * s = omega arith in
    let split = ends_in-split rs start (start + k * s) (start + k * s + s) (omega arith) (omega arith) in
    let sum : d * ends_in rs start (start + k * s) + d * ends_in rs (start + k * s) (start + k * s + s) ≡ d * ends_in rs start (start + k * s + s) =
    (rw split (omega arith)) in
    ap (λ n. d * ends_in rs start (start + k * s) + d * n) e ∙ sum ∙ ap (λ n. d * ends_in rs start n) far

-- the first k + 1 blocks count no more than all
pub count-within : (d : ℕ) (rs : List (ℕ × ℕ)) (start k len s : ℕ) → k < len
    → d * ends_in rs start (start + (k + 1) * s) ≤ d * ends_in rs start (start + len * s)
count-within d rs start k len s lt =
    let most = mul-le-mul_right s (let more : k + 1 ≤ len = omega arith in more) in
    let split = ends_in-split rs start (start + (k + 1) * s) (start + len * s) (omega arith) (omega arith) in
    mul-le-mul_left d (omega arith)

pub AreWhole-one : (A : ℕ → List Transition → Type 0) (next : ℕ) → AreWhole A next (next ∷ [])
unfolding IsBlock
AreWhole-one A next zero lt start = refl
AreWhole-one A next (suc depth) lt start = absurd (omega arith)

pub IsReady-one : (states : List State) (next : ℕ) → IsReady (length states) states next (next ∷ [])
IsReady-one states next = record { based = omega arith; whole = AreWhole-one (IsReader (length states) states) next }

-- what a block starts at is there
pub target-inside : (states : List State) (base next : ℕ) (member : ℕ → Bool) (depth start : ℕ) (target : Option ℕ) (q : ℕ) → next < length states
    → IsBlock (IsReader base states) next member depth start target → target ≡ Some q → q < length states
unfolding IsBlock
target-inside states base next member zero start target q lt block is = only (member start) (sym block ∙ is)
  where
    only : (b : Bool) → (if b then Some next else None) ≡ Some q → q < length states
    only true h = let e = same_Some _ _ h in omega arith
    only false h = absurd (none-some q h)
target-inside states base next member (suc depth) start None q lt block is = absurd (none-some q is)
target-inside states base next member (suc depth) start (Some x) q lt block is = let there = block.1.stands.inside in let e = same_Some _ _ is in omega arith

pub row-below : (states : List State) (base next : ℕ) (member : ℕ → Bool) (depth start first len : ℕ) (old new : List Transition) → next < length states
    → IsRow (IsReader base states) next member depth start first len old new → RoutesBelow (length states) old → RoutesBelow (length states) new
unfolding RoutesBelow
row-below states base next member depth start first len old new lt r below b q e =
    by_test (nat_le first b)
    (λ x. by_test (nat_lt b (first + len))
    (λ y. let above : first ≤ b = grind (arith, nat_tests) in
    let under : b < first + len = grind (arith, nat_tests) in
    let is : first + (b - first) ≡ b = omega arith in
    target-inside states base next member depth (start + (b - first) * size_of_block depth) (route new (first + (b - first))) q lt
    (r.each (b - first) (omega arith)) (ap (route new) is ∙ e))
    (λ y. below b q (sym (r.elsewhere b (inr (grind (arith, nat_tests)))) ∙ e)))
    (λ x. below b q (sym (r.elsewhere b (inl (grind (arith, nat_tests)))) ∙ e))

pub whole-inside : (states : List State) (base next depth : ℕ) (ids : List ℕ) → next < length states → AreWhole (IsReader base states) next ids
    → depth < length ids
    → slice_index ids depth < length states
whole-inside states base next depth ids lt whole deep =
    target-inside states base next (λ c. true) depth 0 (Some (slice_index ids depth)) (slice_index ids depth) lt (whole depth deep 0) refl
