-- Sets of look-arounds, bit by bit.
use Rattle.std.proofs.Common.{◌≡◌, ℕ, zero, suc, ◌+◌, ◌-◌, ◌*◌, ◌/◌, ◌%◌, ◌^◌, ◌<◌, ◌≤◌, Bool, true, false, not, ◌&&◌, ◌||◌, ◌==◌, bit_and, bit_or, if◌then◌else◌, ◌∷◌, drop, filter, get_or, slice_get, List, [], Some, subst, refl, sym, ap, ap₂, ◌∙◌, arith}
use Rattle.std.proofs.lemmas.Bool.{cond-true, cond-false}
use Rattle.std.proofs.lemmas.List.{drop_more}
use Rattle.std.proofs.lemmas.Option.{none-some, slice_get_within, get_or_from_slice_get}
use Rattle.std.proofs.lemmas.Bool.Decides.{nat_tests}
use Rattle.std.proofs.lemmas.Grind.{and-not_self, and_not_bit}
use Rattle.std.proofs.lemmas.Nat.{and_le_l, and_mask, and_shr, or_shr, and_mod, or_mod, bit_set_by_shift, pow_apart, shl-shr, shr-shr}
use Rattle.std.proofs.Math.Bool.{and-false, and-true}
use Rattle.rx_model.specs.Look.{Look, look_number, look_of, look-back, kinds, start_text, end_text, start_lf, end_lf, start_crlf, end_crlf, word_ascii, word_ascii_negate, word_unicode, word_unicode_negate, word_start_ascii, word_end_ascii, word_start_unicode, word_end_unicode, word_start_half_ascii, word_end_half_ascii, word_start_half_unicode, word_end_half_unicode}
use Rattle.rx_model.proofs.lemmas.runs.RunLemmas.{by_test}
use Rattle.rx_search.specs.Look.{is_same_kind}
use Rattle.rx_search.specs.LookSet.{has, kinds_in, kinds_from}

-- the bit of number k
abbrev digit : ℕ → ℕ → Bool
digit n k = n / 2 ^ k % 2 == 1

has-digit : (s : ℕ) (kind : Look) → has s kind ≡ digit s (look_number kind)
unfolding has
has-digit s kind =
    let k = look_number kind in
    let set = bit_set_by_shift s k in
    let low : bit_and (s / 2 ^ k) 1 ≡ s / 2 ^ k % 2 = and_mask (s / 2 ^ k) 1 in
    by_test (bit_and s (2 ^ k) == 0)
    (λ none.
    let clear : bit_and s (2 ^ k) ≡ 0 = grind (arith, nat_tests) in
    let zero_digit : digit s k ≡ false = by_test (digit s k)
    (λ yes. let one : s / 2 ^ k % 2 ≡ 1 = grind (arith, nat_tests) in absurd (set.0 (low ∙ one) clear))
    (λ no. no) in
    ap not none ∙ sym zero_digit)
    (λ some.
    let one : bit_and (s / 2 ^ k) 1 ≡ 1 = set.1 (λ clear. grind (arith, nat_tests)) in
    let digit_one : digit s k ≡ true = (let e = sym low ∙ one in grind (arith, nat_tests)) in
    ap not some ∙ sym digit_one)

-- the last bit of a union and of an intersection
or_bits : (x y : ℕ) → x < 2 → y < 2 → (bit_or x y == 1) ≡ ((x == 1) || (y == 1))
or_bits zero zero a b = refl
or_bits zero (suc zero) a b = refl
or_bits (suc zero) zero a b = refl
or_bits (suc zero) (suc zero) a b = refl
or_bits (suc (suc x)) y a b = absurd (omega arith)
or_bits x (suc (suc y)) a b = absurd (omega arith)

and_bits : (x y : ℕ) → x < 2 → y < 2 → (bit_and x y == 1) ≡ ((x == 1) && (y == 1))
and_bits zero zero a b = refl
and_bits zero (suc zero) a b = refl
and_bits (suc zero) zero a b = refl
and_bits (suc zero) (suc zero) a b = refl
and_bits (suc (suc x)) y a b = absurd (omega arith)
and_bits x (suc (suc y)) a b = absurd (omega arith)

pub has-or : (a b : ℕ) (kind : Look) → has (bit_or a b) kind ≡ (has a kind || has b kind)
has-or a b kind =
    let k = look_number kind in
    has-digit (bit_or a b) kind
    ∙ ap (λ n. n % 2 == 1) (or_shr a b k)
    ∙ ap (λ n. n == 1) (or_mod (a / 2 ^ k) (b / 2 ^ k) 1)
    ∙ or_bits (a / 2 ^ k % 2) (b / 2 ^ k % 2) (omega arith) (omega arith)
    ∙ ap₂ (λ x y. x || y) (sym (has-digit a kind)) (sym (has-digit b kind))

pub has-and : (a b : ℕ) (kind : Look) → has (bit_and a b) kind ≡ (has a kind && has b kind)
has-and a b kind =
    let k = look_number kind in
    has-digit (bit_and a b) kind
    ∙ ap (λ n. n % 2 == 1) (and_shr a b k)
    ∙ ap (λ n. n == 1) (and_mod (a / 2 ^ k) (b / 2 ^ k) 1)
    ∙ and_bits (a / 2 ^ k % 2) (b / 2 ^ k % 2) (omega arith) (omega arith)
    ∙ ap₂ (λ x y. x && y) (sym (has-digit a kind)) (sym (has-digit b kind))

-- no kind is in the set without bits
pub has-none : (kind : Look) → has 0 kind ≡ false
unfolding has
has-none kind =
    let clear : bit_and 0 (2 ^ look_number kind) ≡ 0 = omega (arith, and_le_l 0 (2 ^ look_number kind)) in
    ap (λ n. not (n == 0)) clear

pub number-below : (kind : Look) → look_number kind < 18
number-below start_text = omega arith
number-below end_text = omega arith
number-below start_lf = omega arith
number-below end_lf = omega arith
number-below start_crlf = omega arith
number-below end_crlf = omega arith
number-below word_ascii = omega arith
number-below word_ascii_negate = omega arith
number-below word_unicode = omega arith
number-below word_unicode_negate = omega arith
number-below word_start_ascii = omega arith
number-below word_end_ascii = omega arith
number-below word_start_unicode = omega arith
number-below word_end_unicode = omega arith
number-below word_start_half_ascii = omega arith
number-below word_end_half_ascii = omega arith
number-below word_start_half_unicode = omega arith
number-below word_end_half_unicode = omega arith

pub bit-below : (kind : Look) → 2 ^ look_number kind < 262144
bit-below start_text = omega arith
bit-below end_text = omega arith
bit-below start_lf = omega arith
bit-below end_lf = omega arith
bit-below start_crlf = omega arith
bit-below end_crlf = omega arith
bit-below word_ascii = omega arith
bit-below word_ascii_negate = omega arith
bit-below word_unicode = omega arith
bit-below word_unicode_negate = omega arith
bit-below word_start_ascii = omega arith
bit-below word_end_ascii = omega arith
bit-below word_start_unicode = omega arith
bit-below word_end_unicode = omega arith
bit-below word_start_half_ascii = omega arith
bit-below word_end_half_ascii = omega arith
bit-below word_start_half_unicode = omega arith
bit-below word_end_half_unicode = omega arith

has-apart : (kind other : Look) → is_same_kind kind other ≡ false → has (2 ^ look_number other) kind ≡ false
unfolding has
has-apart kind other apart =
    let clear : bit_and (2 ^ look_number other) (2 ^ look_number kind) ≡ 0 = pow_apart (look_number other) (look_number kind) (λ e. grind (arith, nat_tests)) in
    ap (λ n. not (n == 0)) clear

-- the bit of a kind is in the set of that kind alone
has-bit : (kind other : Look) → has (2 ^ look_number other) kind ≡ is_same_kind kind other
has-bit kind other =
    let k = look_number kind in
    let j = look_number other in
    by_test (k == j)
    (λ same.
    let e : k ≡ j = grind (arith, nat_tests) in
    let one : 2 ^ j / 2 ^ k ≡ 1 = ap (λ n. 2 ^ j / 2 ^ n) e ∙ ap (λ n. n / 2 ^ j) (one_times (2 ^ j)) ∙ shl-shr 1 j in
    has-digit (2 ^ j) kind ∙ ap (λ n. n % 2 == 1) one ∙ sym same)
    (λ other_kind. has-apart kind other other_kind ∙ sym other_kind)
  where
    one_times : (n : ℕ) → n ≡ 1 * n
    one_times n = omega arith

pub has-insert : (a r : ℕ) (kind other : Look) → r ≡ 2 ^ look_number other → has (bit_or a r) kind ≡ (has a kind || is_same_kind kind other)
has-insert a r kind other is = has-or a r kind ∙ ap (λ x. has a kind || x) (ap (λ n. has n kind) is ∙ has-bit kind other)

pub has-remove : (a r : ℕ) (kind other : Look) → r ≡ 2 ^ look_number other
    → has (bit_and a (4294967295 - r)) kind ≡ (has a kind && not (is_same_kind kind other))
unfolding has
has-remove a r kind other is =
    let k = look_number kind in
    let j = look_number other in
    let small : r ≤ 4294967295 = omega (arith, bit-below other) in
    let low : k < 32 = omega (arith, number-below kind) in
    by_test (k == j)
    (λ same.
    let e : k ≡ j = grind (arith, nat_tests) in
    let clear : bit_and (bit_and a (4294967295 - r)) (2 ^ k) ≡ 0 = and-not_self a 4294967295 r (2 ^ k) refl small (ap (λ n. 2 ^ n) e ∙ sym is) in
    ap (λ n. not (n == 0)) clear ∙ sym (ap (λ x. has a kind && not x) same ∙ and-false (has a kind)))
    (λ apart.
    let clear : bit_and r (2 ^ k) ≡ 0 = ap (λ n. bit_and n (2 ^ k)) is ∙ pow_apart j k (λ e. grind (arith, nat_tests)) in
    ap (λ n. not (n == 0)) (and_not_bit a 4294967295 r k refl small low clear) ∙ sym (ap (λ x. has a kind && not x) apart ∙ and-true (has a kind)))

-- a clear bit halves a number
halves : (s k : ℕ) → s / 2 ^ suc k ≡ 0 → digit s k ≡ false → s / 2 ^ k ≡ 0
halves s k above clear =
    let half : s / 2 ^ k / 2 ^ 1 ≡ s / 2 ^ (k + 1) = shr-shr s k 1 in
    let next : k + 1 ≡ suc k = omega arith in
    let none : s / 2 ^ k / 2 ^ 1 ≡ 0 = half ∙ ap (λ m. s / 2 ^ m) next ∙ above in
    grind (arith, nat_tests)

-- a set without kinds has no bits
pub no_bits : (s : ℕ) → s < 262144 → ((kind : Look) → has s kind ≡ false) → s ≡ 0
no_bits s small none =
    let clear : (kind : Look) → digit s (look_number kind) ≡ false = λ kind. sym (has-digit s kind) ∙ none kind in
    let top : s / 2 ^ 18 ≡ 0 = omega arith in
    let b17 = halves s 17 top (clear word_end_half_unicode) in
    let b16 = halves s 16 b17 (clear word_start_half_unicode) in
    let b15 = halves s 15 b16 (clear word_end_half_ascii) in
    let b14 = halves s 14 b15 (clear word_start_half_ascii) in
    let b13 = halves s 13 b14 (clear word_end_unicode) in
    let b12 = halves s 12 b13 (clear word_start_unicode) in
    let b11 = halves s 11 b12 (clear word_end_ascii) in
    let b10 = halves s 10 b11 (clear word_start_ascii) in
    let b9 = halves s 9 b10 (clear word_unicode_negate) in
    let b8 = halves s 8 b9 (clear word_unicode) in
    let b7 = halves s 7 b8 (clear word_ascii_negate) in
    let b6 = halves s 6 b7 (clear word_ascii) in
    let b5 = halves s 5 b6 (clear end_crlf) in
    let b4 = halves s 4 b5 (clear start_crlf) in
    let b3 = halves s 3 b4 (clear end_lf) in
    let b2 = halves s 2 b3 (clear start_lf) in
    let b1 = halves s 1 b2 (clear end_text) in
    let b0 = halves s 0 b1 (clear start_text) in
    omega (arith, b0)

-- the kinds from a number on are its kind, where the set has it, and those from the next number on
kinds_from-next : (set number : ℕ) (kind : Look) → look_of number ≡ Some kind
    → kinds_from set number ≡ (if has set kind then kind ∷ kinds_from set (number + 1) else kinds_from set (number + 1))
kinds_from-next set number kind is =
    let within : number < 18 = slice_get_within kinds number kind is in
    let first : get_or kinds number kind ≡ kind = get_or_from_slice_get kinds number kind kind is in
    ap (filter (has set)) (drop_more kinds number kind within ∙ ap (λ k. k ∷ drop (number + 1) kinds) first)

pub kinds_from-has : (set number : ℕ) (kind : Look) → look_of number ≡ Some kind → has set kind ≡ true
    → kinds_from set number ≡ kind ∷ kinds_from set (number + 1)
kinds_from-has set number kind is found = kinds_from-next set number kind is ∙ cond-true _ _ _ found

pub kinds_from-lacks : (set number : ℕ) (kind : Look) → look_of number ≡ Some kind → has set kind ≡ false
    → kinds_from set number ≡ kinds_from set (number + 1)
kinds_from-lacks set number kind is lacking = kinds_from-next set number kind is ∙ cond-false _ _ _ lacking

-- the test holds at each kind of the list
abbrev pub Each : (Look → Bool) → List Look → Type 0
Each test [] = Unit {0}
Each test (kind ∷ ks) = (test kind ≡ true) × Each test ks

filter-each : (f test : Look → Bool) (ks : List Look) → ((kind : Look) → f kind ≡ true → test kind ≡ true) → Each test (filter f ks)
filter-each f test [] h = tt
filter-each f test (k ∷ ks) h =
    by_test (f k)
    (λ e. subst (Each test) (sym (cond-true _ (k ∷ filter f ks) (filter f ks) e)) (h k e, filter-each f test ks h))
    (λ e. subst (Each test) (sym (cond-false _ (k ∷ filter f ks) (filter f ks) e)) (filter-each f test ks h))

each-of-filter : (f test : Look → Bool) (ks : List Look) → Each test (filter f ks) → (n : ℕ) (kind : Look) → slice_get ks n ≡ Some kind
    → f kind ≡ true → test kind ≡ true
each-of-filter f test [] all n kind is e = absurd (none-some kind is)
each-of-filter f test (k ∷ ks) all zero kind is e =
    let same : k ≡ kind = cc in
    let here : f k ≡ true = ap f same ∙ e in
    ap test (sym same) ∙ (subst (Each test) (cond-true _ (k ∷ filter f ks) (filter f ks) here) all).0
each-of-filter f test (k ∷ ks) all (suc n) kind is e =
    by_test (f k)
    (λ there. each-of-filter f test ks (subst (Each test) (cond-true _ (k ∷ filter f ks) (filter f ks) there) all).1 n kind is e)
    (λ away. each-of-filter f test ks (subst (Each test) (cond-false _ (k ∷ filter f ks) (filter f ks) away) all) n kind is e)

-- a test holds at each kind that is in a set exactly where it holds at each of the list of these
pub each-kind : (set : ℕ) (test : Look → Bool) → ((kind : Look) → has set kind ≡ true → test kind ≡ true) → Each test (kinds_in set)
each-kind set test h = filter-each (has set) test kinds h

pub kind-of-each : (set : ℕ) (test : Look → Bool) → Each test (kinds_in set) → (kind : Look) → has set kind ≡ true → test kind ≡ true
kind-of-each set test all kind e = each-of-filter (has set) test kinds all (look_number kind) kind (look-back kind) e
