-- Literals cut and extended.
use Rattle.std.proofs.Common.{◌≡◌, ℕ, zero, suc, ◌<◌, ◌≤◌, Bool, true, false}
use Rattle.std.proofs.Common.{List, [], ◌∷◌, ◌++◌, length, map, take, drop, get_or, refl, sym, ap, ◌∙◌, arith, true≢false, append-nil}
use lib.ListN.{set}
use Rattle.std.specs.Prelude.{nat_lt}
use Rattle.std.proofs.lemmas.Bool.Decides.{nat_tests}
use Rattle.std.proofs.lemmas.List.{length-map}
use Rattle.rx_model.proofs.lemmas.runs.RunLemmas.{by_test}
use Rattle.std.specs.List.{flat_map}
use Rattle.rx_literal.specs.Literals.{Literal, exact, inexact, infinite, finite, literal_of, bytes_of, is_exact, loose, outer_bytes, cut}
use Rattle.rx_literal.specs.Literals.{one_empty, extended, extended_by_each, stopped, cross}
use Rattle.rx_literal.specs.declared.side.Side.{Side}
use Rattle.rx_literal.specs.declared.side.Side.TheVariants.{Front as front, Back as back}

pub cut-long : (side : Side) (n : ℕ) (b : Bool) (bytes : List ℕ) → n < length bytes → cut side n (literal_of b bytes) ≡ inexact (outer_bytes side n bytes)
unfolding cut
cut-long side n true bytes lt = by_test (nat_lt n (length bytes)) (λ e. rw e refl) (λ e. absurd (grind (arith, nat_tests)))
cut-long side n false bytes lt = by_test (nat_lt n (length bytes)) (λ e. rw e refl) (λ e. absurd (grind (arith, nat_tests)))

pub cut-short : (side : Side) (n : ℕ) (b : Bool) (bytes : List ℕ) → length bytes ≤ n → cut side n (literal_of b bytes) ≡ literal_of b bytes
unfolding cut
cut-short side n true bytes le = by_test (nat_lt n (length bytes)) (λ e. absurd (grind (arith, nat_tests))) (λ e. rw e refl)
cut-short side n false bytes le = by_test (nat_lt n (length bytes)) (λ e. absurd (grind (arith, nat_tests))) (λ e. rw e refl)

pub extensions-exact : (side : Side) (ts : List Literal) (l : Literal) → is_exact l ≡ true → length (extended_by_each side ts l) ≡ length ts
unfolding extended_by_each
extensions-exact side ts (exact s) e = length-map ts (λ t. cut side 100 (extended side s t))
extensions-exact side ts (inexact s) e = absurd (true≢false (sym e))

pub extensions-inexact : (side : Side) (ts : List Literal) (l : Literal) → is_exact l ≡ false → length (extended_by_each side ts l) ≡ 1
unfolding extended_by_each
extensions-inexact side ts (exact s) e = absurd (true≢false e)
extensions-inexact side ts (inexact s) e = refl

-- one literal more is inexact
pub loose-step : (xs : List Literal) (i : ℕ) (l m : Literal) → i < length xs → l ≡ get_or (map loose (take i xs) ++ drop i xs) i l → m ≡ loose l
    → set (map loose (take i xs) ++ drop i xs) i m ≡ map loose (take (suc i) xs) ++ drop (suc i) xs
loose-step [] i l m lt at is = absurd (omega arith)
loose-step (x ∷ xs) zero l m lt at is = ap (λ y. y ∷ xs) (is ∙ ap loose at)
loose-step (x ∷ xs) (suc i) l m lt at is = ap (λ ys. loose x ∷ ys) (loose-step xs i l m (omega arith) at is)

-- one exact literal without bytes, extended by each of a list
extended-nothing : (side : Side) (t : Literal) → extended side [] t ≡ t
extended-nothing front (exact t) = refl
extended-nothing front (inexact t) = refl
extended-nothing back (exact t) = ap exact (append-nil t)
extended-nothing back (inexact t) = ap inexact (append-nil t)

each-after : (side : Side) (ts : List Literal) → map (λ t. cut side 100 (extended side [] t)) ts ≡ map (cut side 100) ts
each-after side [] = refl
each-after side (t ∷ ts) = λ k. cut side 100 (extended-nothing side t k) ∷ each-after side ts k

one-after : (side : Side) (ts : List Literal) → flat_map (extended_by_each side ts) (exact [] ∷ []) ≡ map (cut side 100) ts
unfolding extended_by_each
one-after side ts = append-nil (map (λ t. cut side 100 (extended side [] t)) ts) ∙ each-after side ts

long-after : (side : Side) (ts : List Literal) → length (flat_map (extended_by_each side ts) (exact [] ∷ [])) ≡ length ts
long-after side ts = ap (λ (ys : List Literal). length ys) (one-after side ts) ∙ length-map ts (cut side 100)

pub after-many : (side : Side) (ts : List Literal) → 250 < length ts → cross side one_empty (finite ts) ≡ infinite
unfolding cross stopped
after-many side ts many =
    let more : nat_lt 250 (length ts) ≡ true = grind (arith, nat_tests) in
    let e : nat_lt 250 (length (flat_map (extended_by_each side ts) (exact [] ∷ []))) ≡ true = ap (nat_lt 250) (long-after side ts) ∙ more in
    rw e refl

pub after-few : (side : Side) (ts : List Literal) → length ts ≤ 250 → cross side one_empty (finite ts) ≡ finite (map (cut side 100) ts)
unfolding cross
after-few side ts few =
    let more : nat_lt 250 (length ts) ≡ false = grind (arith, nat_tests) in
    let e : nat_lt 250 (length (flat_map (extended_by_each side ts) (exact [] ∷ []))) ≡ false = ap (nat_lt 250) (long-after side ts) ∙ more in
    rw e (ap finite (one-after side ts))

-- an inexact literal stays
pub inexact-stays : (side : Side) (ts : List Literal) (l : Literal) → is_exact l ≡ false → l ∷ [] ≡ extended_by_each side ts l
unfolding extended_by_each
inexact-stays side ts (exact s) e = absurd (true≢false e)
inexact-stays side ts (inexact s) e = refl

-- an exact one is extended by each
pub exact-extends : (side : Side) (ts : List Literal) (l : Literal) → is_exact l ≡ true
    → map (λ t. cut side 100 (extended side (bytes_of l) t)) ts ≡ extended_by_each side ts l
unfolding extended_by_each
exact-extends side ts (exact s) e = refl
exact-extends side ts (inexact s) e = absurd (true≢false (sym e))

-- the cross, by how many literals it gives
pub cross-many : (side : Side) (ls ts : List Literal) → nat_lt 250 (length (flat_map (extended_by_each side ts) ls)) ≡ true
    → stopped ls ≡ cross side (finite ls) (finite ts)
unfolding cross
cross-many side ls ts e = rw e refl

pub cross-few : (side : Side) (ls ts : List Literal) → nat_lt 250 (length (flat_map (extended_by_each side ts) ls)) ≡ false
    → finite (flat_map (extended_by_each side ts) ls) ≡ cross side (finite ls) (finite ts)
unfolding cross
cross-few side ls ts e = rw e refl
