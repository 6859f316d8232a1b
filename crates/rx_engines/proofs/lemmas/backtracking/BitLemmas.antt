-- Bits in words, and the configurations that they stand for.
use Rattle.std.proofs.Common.{◌≡◌, ◌≢◌, ℕ, zero, suc, ◌+◌, ◌-◌, ◌*◌, ◌/◌, ◌%◌, ◌<◌, ◌≤◌, List, [], ◌∷◌, refl, sym, ◌∙◌, ap, subst, arith, get_or, set, length, true≢false}
use Rattle.std.proofs.lemmas.List.{get_or-set_same, get_or-set_other}
use Rattle.std.proofs.lemmas.Nat.{one_shl, pow_pos, same_from_place}
use Rattle.std.proofs.lemmas.Nat.Bits.{bit_at_set_same, bit_at_set_other, and_pow, bit_at-zero, bit_at-lt}
use Rattle.std.proofs.lemmas.Bool.Decides.{nat_tests, Decides-eqb}
use Rattle.std.specs.Int.{bit_at, w64}
use Rattle.std.specs.Int.Bits.{bit_or, bit_and}
use Rattle.std.specs.Prelude.{Bool, true, false, not, ◌&&◌, ◌||◌, ◌==◌, ◌^◌, nat_eq, nat_lt, nat_le, replicate}
use Rattle.rx_model.specs.Runs.{Configuration, same, nowhere, and_at}
use Rattle.rx_model.proofs.lemmas.runs.RunLemmas.{by_test, same-true, same-self}
use Rattle.rx_nfa.specs.Automaton.{at}
use Rattle.rx_engines.specs.Backtrack.{is_set, passed_in, words_used}

-- the word with the bit of n
abbrev pub with_bit : ℕ → ℕ → ℕ
with_bit word n = bit_or word (1 * 2 ^ (n % 64) % 2 ^ 64)

-- a bit that was set, and the others
pub is_set-with_bit : (words : List ℕ) (word n k : ℕ) → word ≡ get_or words (n / 64) 0 → n / 64 < length words
    → is_set (set words (n / 64) (with_bit word n)) k ≡ ((n == k) || is_set words k)
is_set-with_bit words word n k read lt =
    by_test (n == k)
    (λ e.
    let equal : n ≡ k = (Decides-eqb n k).0 e in
    rw e (subst (λ m. is_set (set words (n / 64) (with_bit word n)) m ≡ true) equal
    (rw (get_or-set_same words (n / 64) (with_bit word n) 0 lt, bit_at_set_same w64 word (n % 64) (omega arith)) refl)))
    (λ e.
    let differ : n ≢ k = λ clash. true≢false (sym ((Decides-eqb n k).1 clash) ∙ e) in
    rw e (other differ))
  where
    other : n ≢ k → is_set (set words (n / 64) (with_bit word n)) k ≡ is_set words k
    other differ =
        by_test (n / 64 == k / 64)
        (λ e.
        let row : n / 64 ≡ k / 64 = (Decides-eqb (n / 64) (k / 64)).0 e in
        let column : k % 64 ≢ n % 64 = λ clash. differ (omega arith) in
        let now : get_or (set words (n / 64) (with_bit word n)) (k / 64) 0 ≡ with_bit word n =
        ap (λ m. get_or (set words (n / 64) (with_bit word n)) m 0) (sym row) ∙ get_or-set_same words (n / 64) (with_bit word n) 0 lt in
        let before : word ≡ get_or words (k / 64) 0 = read ∙ ap (λ m. get_or words m 0) row in
        ap (λ w. bit_at w (k % 64) == 1) now
        ∙ ap (λ b. b == 1) (bit_at_set_other w64 word (n % 64) (omega arith) (k % 64) column)
        ∙ ap (λ w. bit_at w (k % 64) == 1) before)
        (λ e.
        let apart : k / 64 ≢ n / 64 = λ clash. true≢false (sym ((Decides-eqb (n / 64) (k / 64)).1 (sym clash)) ∙ e) in
        ap (λ w. bit_at w (k % 64) == 1) (get_or-set_other words (n / 64) (k / 64) (with_bit word n) 0 apart))

is_zero-times : (b p : ℕ) → b < 2 → 0 < p → nat_eq (b * p) 0 ≡ not (b == 1)
is_zero-times zero p lt pos = let e : 0 * p ≡ 0 = omega arith in rw e refl
is_zero-times (suc zero) p lt pos = let e : 1 * p ≡ p = omega arith in rw e (grind (arith, nat_tests))
is_zero-times (suc (suc n)) p lt pos = absurd (omega arith)

-- the test of a bit
pub tests-bit : (word n : ℕ) → nat_eq (bit_and word (1 * 2 ^ (n % 64) % 2 ^ 64)) 0 ≡ not (bit_at word (n % 64) == 1)
tests-bit word n =
    ap (λ m. nat_eq (bit_and word m) 0) (one_shl (n % 64) 64 (omega arith))
    ∙ ap (λ m. nat_eq m 0) (and_pow word (n % 64))
    ∙ is_zero-times (bit_at word (n % 64)) (2 ^ (n % 64)) (bit_at-lt word (n % 64)) (pow_pos (n % 64))

-- no bit is set in a word of zero
pub is_set-zero : (words : List ℕ) (n : ℕ) → get_or words (n / 64) 0 ≡ 0 → is_set words n ≡ false
is_set-zero words n none = ap (λ w. bit_at w (n % 64) == 1) none ∙ ap (λ b. b == 1) (bit_at-zero (n % 64))

-- to set the bit of a configuration passes it
pub passed_in-set : (n first end q i : ℕ) (words words' : List ℕ) → q < n → first ≤ i → i ≤ end
    → ((k : ℕ) → is_set words' k ≡ (((i - first) * n + q == k) || is_set words k))
    → passed_in n first end words' ≡ and_at (at q i) (passed_in n first end words)
unfolding passed_in
passed_in-set n first end q i words words' state above below after j d =
    (by_test (same (at q i) d)
    (λ e.
    let here = same-true (at q i) d e in
    subst (λ (x : Configuration). ((nat_lt x.state n && (nat_le first x.place && nat_le x.place end)) && is_set words' ((x.place - first) * n + x.state))
    ≡ (same (at q i) x || ((nat_lt x.state n && (nat_le first x.place && nat_le x.place end)) && is_set words ((x.place - first) * n + x.state)))) here
    (let lt : nat_lt q n ≡ true = grind (arith, nat_tests) in
    let ge : nat_le first i ≡ true = grind (arith, nat_tests) in
    let le : nat_le i end ≡ true = grind (arith, nat_tests) in
    let own : ((i - first) * n + q == (i - first) * n + q) ≡ true = (Decides-eqb ((i - first) * n + q) ((i - first) * n + q)).1 refl in
    rw (lt, ge, le, after ((i - first) * n + q), own, same-self (at q i)) refl))
    (λ e. rw e (apart (nat_lt d.state n && (nat_le first d.place && nat_le d.place end)) refl e))) j
  where
    apart : (b : Bool) → (nat_lt d.state n && (nat_le first d.place && nat_le d.place end)) ≡ b → same (at q i) d ≡ false
        → (b && is_set words' ((d.place - first) * n + d.state)) ≡ (b && is_set words ((d.place - first) * n + d.state))
    apart false h e = refl
    apart true h e =
        let lt : d.state < n = grind (arith, nat_tests) in
        let ge : first ≤ d.place = grind (arith, nat_tests) in
        let differ : ((i - first) * n + q == (d.place - first) * n + d.state) ≡ false =
        by_test ((i - first) * n + q == (d.place - first) * n + d.state)
        (λ clash.
        let both = same_from_place (i - first) q (d.place - first) d.state n state lt
        ((Decides-eqb ((i - first) * n + q) ((d.place - first) * n + d.state)).0 clash) in
        let rows = both.0 in
        let place : i ≡ d.place = omega arith in
        absurd (true≢false (sym (same-self (at q i)) ∙ ap (same (at q i)) (λ k. record { state = both.1 k; place = place k }) ∙ e)))
        (λ h. h) in
        rw (after ((d.place - first) * n + d.state), differ) refl

-- a configuration was passed where its bit is set
pub passed_in-bit : (n first end q i : ℕ) (words : List ℕ) → q < n → first ≤ i → i ≤ end
    → passed_in n first end words (at q i) ≡ is_set words ((i - first) * n + q)
unfolding passed_in
passed_in-bit n first end q i words state above below =
    let lt : nat_lt q n ≡ true = grind (arith, nat_tests) in
    let ge : nat_le first i ≡ true = grind (arith, nat_tests) in
    let le : nat_le i end ≡ true = grind (arith, nat_tests) in
    rw (lt, ge, le) refl

-- no bit is set
pub passed_in-none : (n first end : ℕ) (words : List ℕ) → ((k : ℕ) → is_set words k ≡ false) → passed_in n first end words ≡ nowhere
unfolding passed_in
passed_in-none n first end words empty j c =
    none (nat_lt c.state n && (nat_le first c.place && nat_le c.place end)) j
  where
    none : (b : Bool) → (b && is_set words ((c.place - first) * n + c.state)) ≡ false
    none false = refl
    none true = empty ((c.place - first) * n + c.state)

-- words of zero have no bit, so none is used
pub words_used-none : (words : List ℕ) → ((k : ℕ) → get_or words k 0 ≡ 0) → words_used words ≡ 0
words_used-none [] zeros = refl
words_used-none (w ∷ ws) zeros =
    let here : w ≡ 0 = zeros 0 in
    rw (here, words_used-none ws (λ k. zeros (suc k))) refl

pub words_used-replicate : (n : ℕ) → words_used (replicate n 0) ≡ 0
words_used-replicate zero = refl
words_used-replicate (suc n) = rw (words_used-replicate n) refl
