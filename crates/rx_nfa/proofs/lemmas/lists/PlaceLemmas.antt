-- The states at one place: which were passed, and how many are left.
use Rattle.std.proofs.Common.{◌≡◌, ◌≢◌, ℕ, zero, suc, ◌+◌, ◌≤◌, ◌<◌, List, [], ◌∷◌, ◌++◌, refl, ◌∙◌, ap, arith}
use Rattle.std.specs.Prelude.{true, false, ◌||◌, ◌==◌}
use Rattle.std.proofs.lemmas.Bool.Decides.{nat_tests}
use Rattle.rx_model.specs.Runs.{Configuration, Passed, and_at, same, is_among}
use Rattle.rx_model.proofs.lemmas.runs.RunLemmas.{by_test, same-true, weight, weight-less, or-swap}
use Rattle.rx_nfa.specs.Automaton.{at}
use Rattle.rx_nfa.specs.Ordered.{has, line, passed_at}

pub passed_at-has : (items : List ℕ) (i q : ℕ) → passed_at items i (at q i) ≡ has items q
passed_at-has [] i q = refl
passed_at-has (x ∷ xs) i q =
    let here : same (at x i) (at q i) ≡ (x == q) = by_test (x == q) (λ e. grind (arith, nat_tests)) (λ e. grind (arith, nat_tests)) in
    rw (here, passed_at-has xs i q) refl

pub passed_at-push : (items : List ℕ) (i q : ℕ) → passed_at (items ++ q ∷ []) i ≡ and_at (at q i) (passed_at items i)
passed_at-push items i q k d = each items k
  where
    each : (xs : List ℕ) → passed_at (xs ++ q ∷ []) i d ≡ and_at (at q i) (passed_at xs i) d
    each [] = refl
    each (x ∷ xs) = ap (λ b. same (at x i) d || b) (each xs) ∙ or-swap (same (at x i) d) (same (at q i) d) (passed_at xs i d)

pub passed_at-elsewhere : (items : List ℕ) (i : ℕ) (d : Configuration) → i ≢ d.place → passed_at items i d ≡ false
passed_at-elsewhere [] i d apart = refl
passed_at-elsewhere (x ∷ xs) i d apart =
    by_test (same (at x i) d)
    (λ e. absurd (apart (ap (λ (c : Configuration). c.place) (same-true (at x i) d e))))
    (λ e. rw (e, passed_at-elsewhere xs i d apart) refl)

pub line-has : (n i q : ℕ) → q < n → is_among (line n i) (at q i) ≡ true
line-has zero i q lt = absurd (omega arith)
line-has (suc n) i q lt =
    by_test (n == q)
    (λ e. let here : same (at n i) (at q i) ≡ true = grind (arith, nat_tests) in rw here refl)
    (λ e.
    let apart : same (at n i) (at q i) ≡ false = grind (arith, nat_tests) in
    let below : q < n = grind (arith, nat_tests) in
    rw apart (line-has n i q below))

-- how many of the states below n are left at a place
abbrev pub left_at : (n i : ℕ) → Passed → ℕ
left_at n i p = weight (λ c. 1) (line n i) p

pub left-most : (n i : ℕ) (p : Passed) → left_at n i p ≤ n
unfolding weight
left-most zero i p = omega arith
left-most (suc n) i p =
    let h = left-most n i p in
    by_test (p (at n i)) (λ e. rw e (omega arith)) (λ e. rw e (omega arith))

-- a state that comes into the list takes its weight off
pub line-less : (f : Configuration → ℕ) (n i q : ℕ) (items : List ℕ) → q < n → has items q ≡ false
    → weight f (line n i) (passed_at (items ++ q ∷ []) i) + f (at q i) ≤ weight f (line n i) (passed_at items i)
line-less f n i q items lt new =
    rw (passed_at-push items i q) (weight-less f (line n i) (at q i) (passed_at items i) (line-has n i q lt) (passed_at-has items i q ∙ new))

-- and leaves fewer of them
pub left-less : (n i q : ℕ) (items : List ℕ) → q < n → has items q ≡ false → left_at n i (passed_at (items ++ q ∷ []) i) + 1 ≤ left_at n i (passed_at items i)
left-less n i q items lt new = line-less (λ c. 1) n i q items lt new
