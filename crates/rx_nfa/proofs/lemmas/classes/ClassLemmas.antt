-- The parts of a class, and what their states cost.
use Rattle.std.proofs.Common.{◌≡◌, ℕ, zero, suc, ◌+◌, ◌-◌, ◌*◌, ◌/◌, ◌≤◌, ◌<◌, ◌⊎◌, List, [], ◌∷◌, refl, sym, ◌∙◌, ap, subst, inl, inr, arith, max, min}
use Rattle.std.specs.Prelude.{Bool, true, false, if◌then◌else◌, nat_lt, nat_le, ◌&&◌, ◌||◌}
use Rattle.std.proofs.lemmas.Bool.Decides.{nat_tests}
use Rattle.rx_model.proofs.lemmas.runs.RunLemmas.{by_test}
use Rattle.rx_model.specs.Text.{is_member}
use Rattle.rx_nfa.specs.Ranges.{RisesFrom, StaysBelow, size_of_block, ends_in, is_narrow, one_if, has_block, whole_depth, whole_depths, clip, cost_of_part, cost_of_parts}
use Rattle.rx_nfa.specs.Automaton.{route}
use Rattle.rx_nfa.specs.Trie.{IsBlock, IsRow, IsClass, IsByteClass}
use Rattle.rx_nfa.specs.declared.state.Transition.{Transition}
use Rattle.rx_nfa.proofs.lemmas.classes.BlockLemmas.{IsBlock-map}
use Rattle.rx_nfa.proofs.lemmas.classes.RangesLemmas.{RisesFrom-lower, whole_depth-le}

module _ (low high : ℕ) (ordered : low ≤ high) where
  pub RisesFrom-clip : (n : ℕ) (rs : List (ℕ × ℕ)) → RisesFrom n rs → RisesFrom n (clip low high rs)
  unfolding clip
  RisesFrom-clip n [] h = tt
  RisesFrom-clip n (r ∷ rs) h =
      let a = h.0 in
      let b = h.1 in
      let later = RisesFrom-clip (r.1 + 1) rs h.2 in
      by_test (nat_lt r.1 low || nat_lt high r.0)
      (λ e. rw e (RisesFrom-lower (r.1 + 1) n (clip low high rs) (omega arith) later))
      (λ e. rw e (
      let x : low ≤ r.1 = grind (arith, nat_tests) in
      let y : r.0 ≤ high = grind (arith, nat_tests) in
      (omega arith, omega arith, RisesFrom-lower (r.1 + 1) (min high r.1 + 1) (clip low high rs) (omega arith) later)))

  pub StaysBelow-clip : (rs : List (ℕ × ℕ)) → StaysBelow high (clip low high rs)
  unfolding clip
  StaysBelow-clip [] = tt
  StaysBelow-clip (r ∷ rs) =
      by_test (nat_lt r.1 low || nat_lt high r.0)
      (λ e. rw e (StaysBelow-clip rs))
      (λ e. rw e (omega arith, StaysBelow-clip rs))

  -- the members within
  pub member-clip : (rs : List (ℕ × ℕ)) (c : ℕ) → is_member (clip low high rs) c ≡ (is_member rs c && nat_le low c && nat_le c high)
  unfolding clip
  member-clip [] c = refl
  member-clip (r ∷ rs) c =
      let later = member-clip rs c in
      by_test (nat_lt r.1 low || nat_lt high r.0)
      (λ e. rw e (later ∙ outside (is_member rs c) e))
      (λ e. rw e (ap (λ x. (nat_le (max low r.0) c && nat_le c (min high r.1)) || x) later ∙ inside (is_member rs c)))
    where
      outside : (m : Bool) → (nat_lt r.1 low || nat_lt high r.0) ≡ true
          → (m && nat_le low c && nat_le c high) ≡ (((nat_le r.0 c && nat_le c r.1) || m) && nat_le low c && nat_le c high)
      outside true e = grind (arith, nat_tests)
      outside false e = grind (arith, nat_tests)

      inside : (m : Bool) → ((nat_le (max low r.0) c && nat_le c (min high r.1)) || (m && nat_le low c && nat_le c high))
          ≡ (((nat_le r.0 c && nat_le c r.1) || m) && nat_le low c && nat_le c high)
      inside true = grind (arith, nat_tests)
      inside false = grind (arith, nat_tests)

pub StaysBelow-more : (n more : ℕ) (rs : List (ℕ × ℕ)) → n ≤ more → StaysBelow n rs → StaysBelow more rs
StaysBelow-more n more [] le h = tt
StaysBelow-more n more (r ∷ rs) le h = (omega (arith, h.0), StaysBelow-more n more rs le h.1)

no_block : (r : ℕ × ℕ) → r.0 ≤ r.1 → is_narrow r ≡ true → (has_block r 2 ≡ false) × (has_block r 3 ≡ false)
unfolding size_of_block
no_block r rises narrow =
    let near : r.0 / 64 ≡ r.1 / 64 = grind (arith, nat_tests) in
    let two : r.1 + 1 < (r.0 + 4095) / 4096 * 4096 + 4096 = omega arith in
    let three : r.1 + 1 < (r.0 + 262143) / 262144 * 262144 + 262144 = omega arith in
    (grind (arith, nat_tests), grind (arith, nat_tests))

narrow_depth : (depth : ℕ) (r : ℕ × ℕ) → depth ≤ 3 → r.0 ≤ r.1 → is_narrow r ≡ true → whole_depth depth r ≤ 1
unfolding whole_depth
narrow_depth zero r deep rises narrow = omega arith
narrow_depth (suc zero) r deep rises narrow = whole_depth-le 1 r
narrow_depth (suc (suc zero)) r deep rises narrow = let no_blocks = no_block r rises narrow in rw no_blocks.0 (whole_depth-le 1 r)
narrow_depth (suc (suc (suc zero))) r deep rises narrow = let no_blocks = no_block r rises narrow in rw (no_blocks.1, no_blocks.0) (whole_depth-le 1 r)
narrow_depth (suc (suc (suc (suc n)))) r deep rises narrow = absurd (omega arith)

one_at_most : (b : Bool) → one_if b ≤ 1
one_at_most true = omega arith
one_at_most false = omega arith

narrow_cost : (depth a b w : ℕ) → depth ≤ 3 → a ≤ 1 → b ≡ 0 → w ≤ 1 → depth * (a + b) + w ≤ depth + 1
narrow_cost zero a b w deep ha hb hw = omega arith
narrow_cost (suc zero) a b w deep ha hb hw = omega arith
narrow_cost (suc (suc zero)) a b w deep ha hb hw = omega arith
narrow_cost (suc (suc (suc zero))) a b w deep ha hb hw = omega arith
narrow_cost (suc (suc (suc (suc n)))) a b w deep ha hb hw = absurd (omega arith)

wide_cost : (depth a b w : ℕ) → depth ≤ 3 → a ≤ 1 → b ≤ 1 → w ≤ depth → depth * (a + b) + w ≤ (depth + 1) * (2 * (depth + 1) - 1)
wide_cost zero a b w deep ha hb hw = omega arith
wide_cost (suc zero) a b w deep ha hb hw = omega arith
wide_cost (suc (suc zero)) a b w deep ha hb hw = omega arith
wide_cost (suc (suc (suc zero))) a b w deep ha hb hw = omega arith
wide_cost (suc (suc (suc (suc n)))) a b w deep ha hb hw = absurd (omega arith)

part_cost : (depth : ℕ) (r : ℕ × ℕ) (from to : ℕ) → depth ≤ 3 → r.0 ≤ r.1
    → depth * (one_if (nat_le from r.0 && nat_lt r.0 to) + (if is_narrow r then 0 else one_if (nat_le from r.1 && nat_lt r.1 to))) + whole_depth depth
    r ≤ cost_of_part (depth + 1) r
part_cost depth r from to deep rises =
    let first = one_at_most (nat_le from r.0 && nat_lt r.0 to) in
    let last = one_at_most (nat_le from r.1 && nat_lt r.1 to) in
    by_test (is_narrow r)
    (λ e. rw e (narrow_cost depth _ 0 (whole_depth depth r) deep first refl (narrow_depth depth r deep rises e)))
    (λ e. rw e (wide_cost depth _ _ (whole_depth depth r) deep first last (whole_depth-le depth r)))

pub parts_cost : (depth n : ℕ) (rs : List (ℕ × ℕ)) (from to : ℕ) → depth ≤ 3 → RisesFrom n rs
    → whole_depths depth rs + depth * ends_in rs from to ≤ cost_of_parts (depth + 1) rs
unfolding whole_depths cost_of_parts
parts_cost depth n [] from to deep rises = omega arith
parts_cost depth n (r ∷ rs) from to deep rises =
    let here = part_cost depth r from to deep rises.1 in
    let later = parts_cost depth (r.1 + 1) rs from to deep rises.2 in
    let a = one_if (nat_le from r.0 && nat_lt r.0 to) + (if is_narrow r then 0 else one_if (nat_le from r.1 && nat_lt r.1 to)) in
    let sum : depth * (a + ends_in rs from to) ≡ depth * a + depth * ends_in rs from to = omega arith in
    omega arith

-- the five rows of a class
pub IsClass-from : (A : ℕ → List Transition → Type 0) (next : ℕ) (rs : List (ℕ × ℕ)) (q : ℕ) (none one two three high four : List Transition)
    → none ≡ [] → A q four
    → IsRow A next (is_member (clip 0 0x7F rs)) 0 0 0 0x80 none one
    → IsRow A next (is_member (clip 0x80 0x7FF rs)) 1 0x80 0xC2 30 one two
    → IsRow A next (is_member (clip 0x800 0xD7FF rs)) 2 0 0xE0 14 two three
    → IsRow A next (is_member (clip 0xE000 0xFFFF rs)) 2 0xE000 0xEE 2 three high
    → IsRow A next (is_member (clip 0x1_0000 0x10_FFFF rs)) 3 0 0xF0 5 high four
    → IsClass A next rs q
IsClass-from A next rs q none one two three high four nothing reads r1 r2 r3 r3' r4 = record {
  row = four;
  reads = reads;
  of_one = λ k lt.
      (let same : route four (0 + k) ≡ route one (0 + k) =
      r4.elsewhere (0 + k) (inl (omega arith)) ∙ r3'.elsewhere (0 + k) (inl (omega arith)) ∙ r3.elsewhere (0 + k) (inl (omega arith))
      ∙ r2.elsewhere (0 + k) (inl (omega arith)) in
      subst (λ o. IsBlock A next (is_member (clip 0 0x7F rs)) 0 (0 + k * size_of_block 0) o) (sym same) (r1.each k lt));
  of_two = λ k lt.
      (let same : route four (0xC2 + k) ≡ route two (0xC2 + k) =
      r4.elsewhere (0xC2 + k) (inl (omega arith)) ∙ r3'.elsewhere (0xC2 + k) (inl (omega arith)) ∙ r3.elsewhere (0xC2 + k) (inl (omega arith)) in
      subst (λ o. IsBlock A next (is_member (clip 0x80 0x7FF rs)) 1 (0x80 + k * size_of_block 1) o) (sym same) (r2.each k lt));
  of_three = λ k lt.
      (let same : route four (0xE0 + k) ≡ route three (0xE0 + k) =
      r4.elsewhere (0xE0 + k) (inl (omega arith)) ∙ r3'.elsewhere (0xE0 + k) (inl (omega arith)) in
      subst (λ o. IsBlock A next (is_member (clip 0x800 0xD7FF rs)) 2 (0 + k * size_of_block 2) o) (sym same) (r3.each k lt));
  of_three_high = λ k lt.
      (let same : route four (0xEE + k) ≡ route high (0xEE + k) = r4.elsewhere (0xEE + k) (inl (omega arith)) in
      subst (λ o. IsBlock A next (is_member (clip 0xE000 0xFFFF rs)) 2 (0xE000 + k * size_of_block 2) o) (sym same) (r3'.each k lt));
  of_four = r4.each;
  of_none = λ b out.
      (r4.elsewhere b (low b out) ∙ r3'.elsewhere b (low3' b out) ∙ r3.elsewhere b (low3 b out) ∙ r2.elsewhere b (low2 b out) ∙ r1.elsewhere b (low1 b out)
      ∙ ap (λ ts. route ts b) nothing);
}
  where
    low : (b : ℕ) → ((0x80 ≤ b) × (b < 0xC2)) ⊎ (0xF5 ≤ b) → (b < 0xF0) ⊎ (0xF0 + 5 ≤ b)
    low b (inl x) = inl (omega (arith, x.1))
    low b (inr x) = inr x

    low3' : (b : ℕ) → ((0x80 ≤ b) × (b < 0xC2)) ⊎ (0xF5 ≤ b) → (b < 0xEE) ⊎ (0xEE + 2 ≤ b)
    low3' b (inl x) = inl (omega (arith, x.1))
    low3' b (inr x) = inr (omega arith)

    low3 : (b : ℕ) → ((0x80 ≤ b) × (b < 0xC2)) ⊎ (0xF5 ≤ b) → (b < 0xE0) ⊎ (0xE0 + 14 ≤ b)
    low3 b (inl x) = inl (omega (arith, x.1))
    low3 b (inr x) = inr (omega arith)

    low2 : (b : ℕ) → ((0x80 ≤ b) × (b < 0xC2)) ⊎ (0xF5 ≤ b) → (b < 0xC2) ⊎ (0xC2 + 30 ≤ b)
    low2 b (inl x) = inl (omega (arith, x.1))
    low2 b (inr x) = inr (omega arith)

    low1 : (b : ℕ) → ((0x80 ≤ b) × (b < 0xC2)) ⊎ (0xF5 ≤ b) → (b < 0) ⊎ (0 + 0x80 ≤ b)
    low1 b (inl x) = inr (omega (arith, x.0))
    low1 b (inr x) = inr (omega arith)

pub IsClass-map : (A B : ℕ → List Transition → Type 0) (next : ℕ) → ((q : ℕ) (ts : List Transition) → A q ts → B q ts)
    → (rs : List (ℕ × ℕ)) (q : ℕ) → IsClass A next rs q → IsClass B next rs q
IsClass-map A B next keep rs q c = record {
  row = c.row;
  reads = keep q c.row c.reads;
  of_one = λ k lt. IsBlock-map A B next keep _ 0 _ _ (c.of_one k lt);
  of_two = λ k lt. IsBlock-map A B next keep _ 1 _ _ (c.of_two k lt);
  of_three = λ k lt. IsBlock-map A B next keep _ 2 _ _ (c.of_three k lt);
  of_three_high = λ k lt. IsBlock-map A B next keep _ 2 _ _ (c.of_three_high k lt);
  of_four = λ k lt. IsBlock-map A B next keep _ 3 _ _ (c.of_four k lt);
  of_none = c.of_none;
}

pub IsByteClass-map : (A B : ℕ → List Transition → Type 0) (next : ℕ) → ((q : ℕ) (ts : List Transition) → A q ts → B q ts)
    → (rs : List (ℕ × ℕ)) (q : ℕ) → IsByteClass A next rs q → IsByteClass B next rs q
IsByteClass-map A B next keep rs q c = record { row = c.row; reads = keep q c.row c.reads; each = c.each; of_none = c.of_none }
