-- The sets of a word: which look-arounds hold, and which slots are written.
use Rattle.std.proofs.Common.{◌≡◌, ℕ, zero, suc, ◌+◌, ◌≤◌, ◌<◌, ◌==◌, List, [], ◌∷◌, ◌++◌, refl, sym, ◌∙◌, ap, subst, ⊎_elim, arith, true≢false}
use Rattle.std.specs.Prelude.{Bool, true, false, not, ◌&&◌, ◌||◌, Option, Some, None, Contains, map, nat_lt, if◌then◌else◌}
use Rattle.std.specs.Int.{bit_at}
use Rattle.std.specs.Option.{option_or}
use Rattle.std.proofs.lemmas.Bool.{and_parts}
use Rattle.std.proofs.lemmas.Bool.Decides.{nat_tests}
use Rattle.std.proofs.lemmas.Nat.Bits.{bit_at-zero}
use Rattle.rx_model.specs.Look.{Look, holds, look_number, start_text, end_text, start_lf, end_lf, start_crlf, end_crlf, word_ascii, word_ascii_negate, word_unicode, word_unicode_negate, word_start_ascii, word_end_ascii, word_start_unicode, word_end_unicode, word_start_half_ascii, word_end_half_ascii, word_start_half_unicode, word_end_half_unicode}
use Rattle.rx_model.specs.Runs.{last_write}
use Rattle.rx_model.proofs.lemmas.runs.RunLemmas.{by_test}
use Rattle.rx_model.proofs.lemmas.runs.MemberLemmas.{none-among, first-among, later-among, split-among}
use Rattle.rx_model.proofs.lemmas.runs.OptionLemmas.{or-none_right}
use Rattle.rx_nfa.specs.Ordered.{has}
use Rattle.rx_onepass_table.specs.Along.{kind_at, hold_below, written_below}
use Rattle.rx_onepass_table.specs.Words.{few_looks}
use Rattle.rx_onepass_table.proofs.lemmas.WalkLemmas.{by_order}

-- the kind of its number
kind-back : (kind : Look) → kind_at (look_number kind) ≡ kind
kind-back start_text = refl
kind-back end_text = refl
kind-back start_lf = refl
kind-back end_lf = refl
kind-back start_crlf = refl
kind-back end_crlf = refl
kind-back word_ascii = refl
kind-back word_ascii_negate = refl
kind-back word_unicode = refl
kind-back word_unicode_negate = refl
kind-back word_start_ascii = refl
kind-back word_end_ascii = refl
kind-back word_start_unicode = refl
kind-back word_end_unicode = refl
kind-back word_start_half_ascii = refl
kind-back word_end_half_ascii = refl
kind-back word_start_half_unicode = refl
kind-back word_end_half_unicode = refl

-- the number of its kind
pub number-back : (n : ℕ) → n < 10 → look_number (kind_at n) ≡ n
number-back zero h = refl
number-back (suc zero) h = refl
number-back (suc (suc zero)) h = refl
number-back (suc (suc (suc zero))) h = refl
number-back (suc (suc (suc (suc zero)))) h = refl
number-back (suc (suc (suc (suc (suc zero))))) h = refl
number-back (suc (suc (suc (suc (suc (suc zero)))))) h = refl
number-back (suc (suc (suc (suc (suc (suc (suc zero))))))) h = refl
number-back (suc (suc (suc (suc (suc (suc (suc (suc zero)))))))) h = refl
number-back (suc (suc (suc (suc (suc (suc (suc (suc (suc zero))))))))) h = refl
number-back (suc (suc (suc (suc (suc (suc (suc (suc (suc (suc n)))))))))) h = absurd (omega arith)

module _ (terminator : ℕ) (text : List ℕ) (set place : ℕ) where
  -- a kind of the set holds, where all do
  pub hold-kind : (n : ℕ) (kind : Look) → hold_below terminator text set place n ≡ true → look_number kind < n → bit_at set (look_number kind) ≡ 1
      → holds terminator text kind place ≡ true
  unfolding hold_below
  hold-kind zero kind h lt bit = absurd (omega arith)
  hold-kind (suc n) kind h lt bit =
      let parts = and_parts (not (bit_at set n == 1) || holds terminator text (kind_at n) place) (hold_below terminator text set place n) h in
      by_order (look_number kind) n
      (λ less. hold-kind n kind parts.1 less bit)
      (λ here.
      let set-there : (bit_at set n == 1) ≡ true = subst (λ m. (bit_at set m == 1) ≡ true) here (ap (λ b. b == 1) bit) in
      let same : kind_at n ≡ kind = ap kind_at (sym here) ∙ kind-back kind in
      ap (λ k. holds terminator text k place) (sym same) ∙ (rw set-there at parts.0))
      (λ past. absurd (omega arith))

  -- all hold, where each kind of the set does
  pub kinds-hold : (n : ℕ) → n ≤ 10 → ((kind : Look) → look_number kind < n → bit_at set (look_number kind) ≡ 1 → holds terminator text kind place ≡ true)
      → hold_below terminator text set place n ≡ true
  unfolding hold_below
  kinds-hold zero le each = refl
  kinds-hold (suc n) le each =
      let others = kinds-hold n (omega arith) (λ kind lt bit. each kind (omega arith) bit) in
      let number = number-back n (omega arith) in
      by_test (bit_at set n == 1)
      (λ e.
      let bit : bit_at set n ≡ 1 = grind (arith, nat_tests) in
      let here : holds terminator text (kind_at n) place ≡ true = each (kind_at n) (omega arith) (ap (bit_at set) number ∙ bit) in
      rw (e, here, others) refl)
      (λ e. rw (e, others) refl)

  -- not all hold, where one of the set does not
  pub kind-fails : (n : ℕ) (kind : Look) → look_number kind < n → bit_at set (look_number kind) ≡ 1 → holds terminator text kind place ≡ false
      → hold_below terminator text set place n ≡ false
  kind-fails n kind lt bit fails =
      by_test (hold_below terminator text set place n)
      (λ e. absurd (true≢false (sym (hold-kind n kind e lt bit) ∙ fails)))
      (λ e. e)

-- none of no kinds fails
pub none-asked : (terminator : ℕ) (text : List ℕ) (set place : ℕ) → set ≡ 0 → hold_below terminator text set place few_looks ≡ true
none-asked terminator text set place e =
    kinds-hold terminator text set place few_looks (omega arith)
    (λ kind lt bit.
    let none : bit_at set (look_number kind) ≡ 0 = ap (λ s. bit_at s (look_number kind)) e ∙ bit_at-zero (look_number kind) in
    absurd (omega arith))

-- The kinds one after another.

module _ (terminator : ℕ) (text : List ℕ) (set place number : ℕ) (below : number < 10) where
  -- the kind of this number is in the set, and does not hold
  abbrev pub failing : Bool
  failing = (bit_at set number == 1) && not (holds terminator text (kind_at number) place)

  pub kinds-next : failing ≡ false
      → ((kind : Look) → look_number kind < number → bit_at set (look_number kind) ≡ 1 → holds terminator text kind place ≡ true)
      → (kind : Look) → look_number kind < number + 1 → bit_at set (look_number kind) ≡ 1 → holds terminator text kind place ≡ true
  kinds-next h before kind lt bit =
      by_order (look_number kind) number
      (λ less. before kind less bit)
      (λ here.
      let set-there : (bit_at set number == 1) ≡ true = subst (λ m. (bit_at set m == 1) ≡ true) here (ap (λ b. b == 1) bit) in
      let same : kind_at number ≡ kind = ap kind_at (sym here) ∙ kind-back kind in
      ap (λ k. holds terminator text k place) (sym same) ∙ not-false (holds terminator text (kind_at number) place) (rw set-there at h))
      (λ past. absurd (omega arith))
    where
      not-false : (b : Bool) → not b ≡ false → b ≡ true
      not-false true e = refl
      not-false false e = absurd (true≢false e)

  pub kinds-stop : failing ≡ true → hold_below terminator text set place few_looks ≡ false
  kinds-stop h =
      let parts = and_parts (bit_at set number == 1) (not (holds terminator text (kind_at number) place)) h in
      let back = number-back number below in
      let bit : bit_at set number ≡ 1 = bit-one parts.0 in
      kind-fails terminator text set place few_looks (kind_at number) (omega arith) (ap (bit_at set) back ∙ bit)
      (not-true (holds terminator text (kind_at number) place) parts.1)
    where
      bit-one : (bit_at set number == 1) ≡ true → bit_at set number ≡ 1
      bit-one e = grind (arith, nat_tests)

      not-true : (b : Bool) → not b ≡ true → b ≡ false
      not-true true e = absurd (true≢false (sym e))
      not-true false e = refl

-- Members of lists of numbers.

pub has-member : (xs : List ℕ) (q : ℕ) → has xs q ≡ true → Contains xs q
has-member [] q h = absurd (true≢false (sym h))
has-member (x ∷ xs) q h =
    by_test (x == q)
    (λ e. let same : x ≡ q = grind (arith, nat_tests) in subst (λ y. Contains (x ∷ xs) y) same (first-among x xs))
    (λ e. later-among x q xs (has-member xs q (rw e at h)))

pub member-has : (xs : List ℕ) (q : ℕ) → Contains xs q → has xs q ≡ true
member-has [] q m = absurd (none-among q m)
member-has (x ∷ xs) q m =
    by_test (x == q)
    (λ e. rw e refl)
    (λ e. rw e (member-has xs q (⊎_elim (λ same. absurd (true≢false (sym (same-test same) ∙ e))) (λ more. more) (split-among x q xs m))))
  where
    same-test : x ≡ q → (x == q) ≡ true
    same-test e = grind (arith, nat_tests)

-- What is written last, behind what was written to these slots at the place.

told-later : (rest : Option ℕ) (one more : Bool) (place : ℕ)
    → option_or (option_or rest (if more then Some place else None)) (if one then Some place else None)
    ≡ option_or rest (if one || more then Some place else None)
told-later (Some x) one more place = refl
told-later None true true place = refl
told-later None true false place = refl
told-later None false true place = refl
told-later None false false place = refl

pub last-slots : (place : ℕ) (slots : List ℕ) (writes : List (ℕ × ℕ)) (slot : ℕ)
    → last_write (map (λ s. (s, place)) slots ++ writes) slot ≡ option_or (last_write writes slot) (if has slots slot then Some place else None)
last-slots place [] writes slot = sym (or-none_right (last_write writes slot))
last-slots place (s ∷ slots) writes slot =
    ap (λ o. option_or o (if s == slot then Some place else None)) (last-slots place slots writes slot)
    ∙ told-later (last_write writes slot) (s == slot) (has slots slot) place

pub last-set : (start set place n : ℕ) (writes : List (ℕ × ℕ)) (k : ℕ)
    → last_write (written_below start set place n ++ writes) (start + k)
    ≡ option_or (last_write writes (start + k)) (if nat_lt k n && (bit_at set k == 1) then Some place else None)
unfolding written_below
last-set start set place zero writes k =
    let none : nat_lt k 0 ≡ false = grind (arith, nat_tests) in
    rw none (sym (or-none_right (last_write writes (start + k))))
last-set start set place (suc n) writes k =
    by_test (bit_at set n == 1)
    (λ e.
    by_order n k
    (λ less.
    let apart : (start + n == start + k) ≡ false = grind (arith, nat_tests) in
    let out : nat_lt k (suc n) ≡ false = grind (arith, nat_tests) in
    let out-before : nat_lt k n ≡ false = grind (arith, nat_tests) in
    let h = last-set start set place n writes k in
    rw (e, apart, out) (or-none_right (last_write (written_below start set place n ++ writes) (start + k)) ∙ (rw out-before at h)))
    (λ here.
    let same : (start + n == start + k) ≡ true = grind (arith, nat_tests) in
    let within : nat_lt k (suc n) ≡ true = grind (arith, nat_tests) in
    let out-before : nat_lt k n ≡ false = grind (arith, nat_tests) in
    let set-there : (bit_at set k == 1) ≡ true = ap (λ m. bit_at set m == 1) (sym here) ∙ e in
    let h = last-set start set place n writes k in
    rw (e, same, within, set-there)
    (ap (λ o. option_or o (Some place)) ((rw out-before at h) ∙ or-none_right (last_write writes (start + k)))))
    (λ more.
    let apart : (start + n == start + k) ≡ false = grind (arith, nat_tests) in
    let within : nat_lt k (suc n) ≡ true = grind (arith, nat_tests) in
    let before : nat_lt k n ≡ true = grind (arith, nat_tests) in
    let h = last-set start set place n writes k in
    rw (e, apart, within) (or-none_right (last_write (written_below start set place n ++ writes) (start + k)) ∙ (rw before at h))))
    (λ e.
    let h = last-set start set place n writes k in
    by_order n k
    (λ less.
    let out : nat_lt k (suc n) ≡ false = grind (arith, nat_tests) in
    let out-before : nat_lt k n ≡ false = grind (arith, nat_tests) in
    rw (e, out) (rw out-before at h))
    (λ here.
    let out-before : nat_lt k n ≡ false = grind (arith, nat_tests) in
    let not-set : (bit_at set k == 1) ≡ false = ap (λ m. bit_at set m == 1) (sym here) ∙ e in
    let within : nat_lt k (suc n) ≡ true = grind (arith, nat_tests) in
    rw (e, within, not-set) (rw out-before at h))
    (λ more.
    let within : nat_lt k (suc n) ≡ true = grind (arith, nat_tests) in
    let before : nat_lt k n ≡ true = grind (arith, nat_tests) in
    rw (e, within) (rw before at h)))
