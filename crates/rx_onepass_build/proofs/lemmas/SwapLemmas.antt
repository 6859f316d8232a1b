-- Rows that change places, and the order in which those that tell a match come last.
use Rattle.std.proofs.Common.{◌≡◌, ◌≢◌, ℕ, suc, ◌+◌, ◌-◌, ◌^◌, ◌<◌, ◌≤◌, ◌==◌, List, length, set, refl, sym, ◌∙◌, ap, subst, arith, slice_index, if◌then◌else◌}
use Rattle.std.specs.Prelude.{true, false, is_some, nat_lt}
use Rattle.std.proofs.lemmas.Bool.Decides.{nat_tests}
use Rattle.std.proofs.lemmas.List.{get_or-set_same, get_or-set_other, length-set, get_or_past}
use Rattle.rx_model.proofs.lemmas.runs.RunLemmas.{by_test}
use Rattle.rx_onepass_table.specs.Words.{Final}
use Rattle.rx_onepass_build.specs.Settled.{AreInverse, IsOrder, IsSorting, final_before}

-- what stands in a list of which two elements were set, the second last
set-two : (xs : List ℕ) (i j a b k : ℕ) → i < length xs → j < length xs
    → slice_index (set (set xs i a) j b) k ≡ (if k == j then b else if k == i then a else slice_index xs k)
set-two xs i j a b k lt lt' =
    by_test (k == j)
    (λ e.
    let same : k ≡ j = grind (arith, nat_tests) in
    rw e (ap (λ n. slice_index (set (set xs i a) j b) n) same
    ∙ get_or-set_same (set xs i a) j b 0 (subst (λ n. j < n) (sym (length-set xs i a)) lt')))
    (λ e.
    let apart : k ≢ j = grind (arith, nat_tests) in
    by_test (k == i)
    (λ f.
    let same : k ≡ i = grind (arith, nat_tests) in
    rw (e, f) (get_or-set_other (set xs i a) j k b 0 apart ∙ ap (λ n. slice_index (set xs i a) n) same ∙ get_or-set_same xs i a 0 lt))
    (λ f.
    let other : k ≢ i = grind (arith, nat_tests) in
    rw (e, f) (get_or-set_other (set xs i a) j k b 0 apart ∙ get_or-set_other xs i k a 0 other)))

-- one of three ways
pub by_two : {P : Type 0} (k i j : ℕ) → (k ≡ i → P) → (k ≢ i → k ≡ j → P) → (k ≢ i → k ≢ j → P) → P
by_two k i j one two none =
    by_test (k == i)
    (λ e. one (grind (arith, nat_tests)))
    (λ e. by_test (k == j) (λ f. two (grind (arith, nat_tests)) (grind (arith, nat_tests))) (λ f. none (grind (arith, nat_tests)) (grind (arith, nat_tests))))

module _ (n : ℕ) (before after : List ℕ) (h : AreInverse n before after) (i j a b : ℕ) (one : i < n) (other : j < n) (a_is : a ≡ slice_index before i)
    (b_is : b ≡ slice_index before j) where
  abbrev pub swapped : List ℕ
  swapped = set (set before i b) j a

  abbrev pub swapped_after : List ℕ
  swapped_after = set (set after b i) a j

  a-below : a < n
  a-below = subst (λ x. x < n) (sym a_is) (h.below i one)

  b-below : b < n
  b-below = subst (λ x. x < n) (sym b_is) (h.below j other)

  pub swapped-value : (k : ℕ) → slice_index swapped k ≡ (if k == j then a else if k == i then b else slice_index before k)
  swapped-value k = set-two before i j b a k (subst (λ m. i < m) (sym h.before_len) one) (subst (λ m. j < m) (sym h.before_len) other)

  -- the same by what stood in the other's place
  pub swapped-values : (k : ℕ) → slice_index swapped k
      ≡ (if k == i then slice_index before j else if k == j then slice_index before i else slice_index before k)
  swapped-values k =
      by_test (k == i)
      (λ e.
      by_test (k == j)
      (λ f.
      let same : i ≡ j = grind (arith, nat_tests) in
      let value = rw f at (swapped-value k) in
      rw e (value ∙ a_is ∙ ap (λ m. slice_index before m) same))
      (λ f. let value = rw (f, e) at (swapped-value k) in rw e (value ∙ b_is)))
      (λ e.
      by_test (k == j)
      (λ f. let value = rw f at (swapped-value k) in rw (e, f) (value ∙ a_is))
      (λ f. let value = rw (f, e) at (swapped-value k) in rw (e, f) value))

  after-value : (r : ℕ) → slice_index swapped_after r ≡ (if r == a then j else if r == b then i else slice_index after r)
  after-value r = set-two after b a i j r (subst (λ m. b < m) (sym h.after_len) b-below) (subst (λ m. a < m) (sym h.after_len) a-below)

  -- the values one by one
  at-j : slice_index swapped j ≡ a
  at-j = swapped-value j ∙ (let e : (j == j) ≡ true = grind (arith, nat_tests) in rw e refl)

  at-i : i ≢ j → slice_index swapped i ≡ b
  at-i apart =
      swapped-value i
      ∙ (let e : (i == j) ≡ false = grind (arith, nat_tests) in let f : (i == i) ≡ true = grind (arith, nat_tests) in rw (e, f) refl)

  at-k : (k : ℕ) → k ≢ i → k ≢ j → slice_index swapped k ≡ slice_index before k
  at-k k p q =
      swapped-value k
      ∙ (let e : (k == j) ≡ false = grind (arith, nat_tests) in let f : (k == i) ≡ false = grind (arith, nat_tests) in rw (e, f) refl)

  after-a : slice_index swapped_after a ≡ j
  after-a = after-value a ∙ (let e : (a == a) ≡ true = grind (arith, nat_tests) in rw e refl)

  after-b : b ≢ a → slice_index swapped_after b ≡ i
  after-b apart =
      after-value b
      ∙ (let e : (b == a) ≡ false = grind (arith, nat_tests) in let f : (b == b) ≡ true = grind (arith, nat_tests) in rw (e, f) refl)

  after-r : (r : ℕ) → r ≢ a → r ≢ b → slice_index swapped_after r ≡ slice_index after r
  after-r r p q =
      after-value r
      ∙ (let e : (r == a) ≡ false = grind (arith, nat_tests) in let f : (r == b) ≡ false = grind (arith, nat_tests) in rw (e, f) refl)

  -- the two rows are one exactly where their places are
  places-one : a ≡ b → i ≡ j
  places-one e =
      sym (h.forth i one) ∙ ap (λ x. slice_index after x) (sym a_is ∙ e ∙ b_is) ∙ h.forth j other

  rows-one : i ≡ j → a ≡ b
  rows-one e = a_is ∙ ap (λ x. slice_index before x) e ∙ sym b_is

  forth : (k : ℕ) → k < n → slice_index swapped_after (slice_index swapped k) ≡ k
  forth k lt =
      by_two k j i
      (λ e. ap (λ x. slice_index swapped_after (slice_index swapped x)) e ∙ ap (λ x. slice_index swapped_after x) at-j ∙ after-a ∙ sym e)
      (λ p e.
      let apart : i ≢ j = λ s. p (e ∙ s) in
      ap (λ x. slice_index swapped_after (slice_index swapped x)) e ∙ ap (λ x. slice_index swapped_after x) (at-i apart)
      ∙ after-b (λ s. apart (places-one (sym s))) ∙ sym e)
      (λ p q.
      let not-a : slice_index before k ≢ a = λ s. q (sym (h.forth k lt) ∙ ap (λ x. slice_index after x) (s ∙ a_is) ∙ h.forth i one) in
      let not-b : slice_index before k ≢ b = λ s. p (sym (h.forth k lt) ∙ ap (λ x. slice_index after x) (s ∙ b_is) ∙ h.forth j other) in
      ap (λ x. slice_index swapped_after x) (at-k k q p) ∙ after-r (slice_index before k) not-a not-b ∙ h.forth k lt)

  back : (r : ℕ) → r < n → slice_index swapped (slice_index swapped_after r) ≡ r
  back r lt =
      by_two r a b
      (λ e. ap (λ x. slice_index swapped (slice_index swapped_after x)) e ∙ ap (λ x. slice_index swapped x) after-a ∙ at-j ∙ sym e)
      (λ p e.
      let apart : b ≢ a = λ s. p (e ∙ s) in
      ap (λ x. slice_index swapped (slice_index swapped_after x)) e ∙ ap (λ x. slice_index swapped x) (after-b apart)
      ∙ at-i (λ s. apart (sym (rows-one s))) ∙ sym e)
      (λ p q.
      let not-i : slice_index after r ≢ i = λ s. p (sym (h.back r lt) ∙ ap (λ x. slice_index before x) s ∙ sym a_is) in
      let not-j : slice_index after r ≢ j = λ s. q (sym (h.back r lt) ∙ ap (λ x. slice_index before x) s ∙ sym b_is) in
      ap (λ x. slice_index swapped x) (after-r r p q) ∙ at-k (slice_index after r) not-i not-j ∙ h.back r lt)

  below : (k : ℕ) → k < n → slice_index swapped k < n
  below k lt =
      by_two k j i
      (λ e. subst (λ x. x < n) (sym (ap (λ x. slice_index swapped x) e ∙ at-j)) a-below)
      (λ p e. subst (λ x. x < n) (sym (ap (λ x. slice_index swapped x) e ∙ at-i (λ s. p (e ∙ s)))) b-below)
      (λ p q. subst (λ x. x < n) (sym (at-k k q p)) (h.below k lt))

  above : (r : ℕ) → r < n → slice_index swapped_after r < n
  above r lt =
      by_two r a b
      (λ e. subst (λ x. x < n) (sym (ap (λ x. slice_index swapped_after x) e ∙ after-a)) other)
      (λ p e. subst (λ x. x < n) (sym (ap (λ x. slice_index swapped_after x) e ∙ after-b (λ s. p (e ∙ s)))) one)
      (λ p q. subst (λ x. x < n) (sym (after-r r p q)) (h.above r lt))

  pub swapped-inverse : AreInverse n swapped swapped_after
  swapped-inverse = record {
    before_len = length-set (set before i b) j a ∙ length-set before i b ∙ h.before_len;
    after_len = length-set (set after b i) a j ∙ length-set after b i ∙ h.after_len;
    below = below;
    above = above;
    forth = forth;
    back = back;
  }

-- Sorting.

pub sorting-start : (finals : List Final) (before after : List ℕ) → length before ≡ suc (length finals) → length after ≡ suc (length finals)
    → ((k : ℕ) → k < suc (length finals) → slice_index before k ≡ k) → ((k : ℕ) → k < suc (length finals) → slice_index after k ≡ k)
    → IsSorting finals before after 1 (length finals + 1)
sorting-start finals before after blen alen b a = record {
  inverse = record {
    before_len = blen;
    after_len = alen;
    below = λ k lt. subst (λ x. x < suc (length finals)) (sym (b k lt)) lt;
    above = λ k lt. subst (λ x. x < suc (length finals)) (sym (a k lt)) lt;
    forth = λ k lt. ap (λ x. slice_index after x) (b k lt) ∙ a k lt;
    back = λ k lt. ap (λ x. slice_index before x) (a k lt) ∙ b k lt;
  };
  first = b 0 (omega arith);
  some = omega arith;
  between = omega arith;
  within = omega arith;
  plain = λ k lt.
      (let e : k ≡ 0 = omega arith in
      ap (λ x. is_some (final_before finals (slice_index before x)).pattern) e ∙ ap (λ x. is_some (final_before finals x).pattern) (b 0 (omega arith)));
  last = λ k le lt. absurd (omega arith);
}

pub sorting-low : (finals : List Final) (before after : List ℕ) (low high : ℕ) → IsSorting finals before after low high → low < high
    → is_some (final_before finals (slice_index before low)).pattern ≡ false → IsSorting finals before after (low + 1) high
sorting-low finals before after low high h less test = record {
  inverse = h.inverse;
  first = h.first;
  some = omega arith;
  between = omega arith;
  within = h.within;
  plain = λ k lt.
      by_test (k == low)
      (λ e. let same : k ≡ low = grind (arith, nat_tests) in ap (λ x. is_some (final_before finals (slice_index before x)).pattern) same ∙ test)
      (λ e. let apart : k ≢ low = grind (arith, nat_tests) in h.plain k (omega arith));
  last = h.last;
}

pub sorting-high : (finals : List Final) (before after later later_after : List ℕ) (low high last : ℕ) → IsSorting finals before after low high → low < high
    → last ≡ high - 1 → is_some (final_before finals (slice_index before low)).pattern ≡ true
    → AreInverse (suc (length finals)) later later_after
    → ((k : ℕ) → slice_index later k ≡ (if k == low then slice_index before last else if k == last then slice_index before low else slice_index before k))
    → IsSorting finals later later_after low last
sorting-high finals before after later later_after low high last h less is test inverse value = record {
  inverse = inverse;
  first = at-k 0 (λ e. (let some = h.some in omega arith)) (λ e. (let some = h.some in omega arith)) ∙ h.first;
  some = h.some;
  between = omega arith;
  within = (let within = h.within in omega arith);
  plain = λ k lt.
      ap (λ x. is_some (final_before finals x).pattern) (at-k k (λ e. omega arith) (λ e. omega arith)) ∙ h.plain k lt;
  last = ends;
}
  where
    at-k : (k : ℕ) → k ≢ low → k ≢ last → slice_index later k ≡ slice_index before k
    at-k k p q =
        value k
        ∙ (let e : (k == low) ≡ false = grind (arith, nat_tests) in let f : (k == last) ≡ false = grind (arith, nat_tests) in rw (e, f) refl)

    at-last : slice_index later last ≡ slice_index before low
    at-last =
        by_test (last == low)
        (λ e.
        let same : last ≡ low = grind (arith, nat_tests) in value last ∙ (rw e (ap (λ x. slice_index before x) same)))
        (λ e. value last ∙ (let f : (last == last) ≡ true = grind (arith, nat_tests) in rw (e, f) refl))

    ends : (k : ℕ) → last ≤ k → k < suc (length finals) → is_some (final_before finals (slice_index later k)).pattern ≡ true
    ends k le lt =
        by_test (k == last)
        (λ e.
        let same : k ≡ last = grind (arith, nat_tests) in
        ap (λ x. is_some (final_before finals (slice_index later x)).pattern) same ∙ ap (λ x. is_some (final_before finals x).pattern) at-last ∙ test)
        (λ e.
        let apart : k ≢ last = grind (arith, nat_tests) in
        ap (λ x. is_some (final_before finals x).pattern) (at-k k (λ s. omega arith) apart) ∙ h.last k (omega arith) lt)

pub sorting-end : (finals : List Final) (before after : List ℕ) (low high : ℕ) → IsSorting finals before after low high → high ≤ low
    → IsOrder finals before after low
sorting-end finals before after low high h le = record {
  inverse = h.inverse;
  first = h.first;
  some = h.some;
  within = (let between = h.between in let within = h.within in omega arith);
  plain = h.plain;
  last = λ k ge lt. h.last k (let between = h.between in omega arith) lt;
}

-- each number is small, where there are few
pub after-small : (n : ℕ) (before after : List ℕ) → n < 2 ^ 21 → AreInverse (suc n) before after → (r : ℕ) → slice_index after r < 2 ^ 21
after-small n before after few h r =
    by_test (nat_lt r (suc n))
    (λ e. let lt : r < suc n = grind (arith, nat_tests) in let below = h.above r lt in omega arith)
    (λ e.
    let long = h.after_len in
    let le : suc n ≤ r = grind (arith, nat_tests) in
    let past : length after ≤ r = omega arith in
    let none : slice_index after r ≡ 0 = get_or_past after r 0 past in
    omega arith)
