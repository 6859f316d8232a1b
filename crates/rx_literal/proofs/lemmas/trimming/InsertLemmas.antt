-- A literal put among sorted ones.
use Rattle.std.proofs.Common.{◌≡◌, ℕ, zero, suc, ◌+◌, ◌-◌, ◌<◌, ◌≤◌, Bool, true, false, List, [], ◌∷◌, ◌++◌, length, take, drop, get_or, refl, sym, ap, ◌∙◌, subst, arith, true≢false}
use Rattle.std.specs.Prelude.{not}
use Rattle.std.specs.List.{list_any, list_all}
use lib.ListN.{set}
use Rattle.std.proofs.lemmas.Bool.{and_parts, not-true, not-false, or_parts}
use Rattle.std.proofs.lemmas.List.{drop_more}
use Rattle.rx_model.proofs.lemmas.runs.RunLemmas.{by_test}
use Rattle.rx_literal.specs.Literals.{Literal, exact, inexact, bytes_of, is_exact}
use Rattle.rx_literal.specs.declared.order.Order.TheVariants.{Bytes as by_bytes}
use Rattle.rx_literal.specs.Order.{before, follows, InOrder}
use Rattle.rx_literal.specs.Trim.{comes_before, one_of_both, insert, sorted}
use Rattle.rx_literal.proofs.lemmas.trimming.BeforeLemmas.{before-trans, before-one, bytes-before, bytes-same}
use Rattle.rx_literal.proofs.lemmas.trimming.OrderedLemmas.{all-both, all-all}
use Rattle.std.proofs.Math.Bool.{or-false}

comes : (l m : Literal) → comes_before (bytes_of l) (bytes_of m) ≡ follows by_bytes m l
comes l m = sym (bytes-before (bytes_of l) (bytes_of m))

-- the three cases of a literal among sorted ones
pub insert-first : (l m : Literal) (ms : List Literal) → follows by_bytes m l ≡ true → insert l (m ∷ ms) ≡ l ∷ m ∷ ms
unfolding insert
insert-first l m ms h = let e = comes l m ∙ h in rw e refl

pub insert-later : (l m : Literal) (ms : List Literal) → follows by_bytes l m ≡ true → insert l (m ∷ ms) ≡ m ∷ insert l ms
unfolding insert
insert-later l m ms h =
    let e = comes m l ∙ h in
    let d = comes l m ∙ before-one by_bytes (bytes_of m) (bytes_of l) h in
    rw (d, e) refl

pub insert-here : (l m : Literal) (ms : List Literal) → follows by_bytes m l ≡ false → follows by_bytes l m ≡ false → insert l (m ∷ ms) ≡ one_of_both l m ∷ ms
unfolding insert
insert-here l m ms p q =
    let d = comes l m ∙ p in
    let e = comes m l ∙ q in
    rw (d, e) refl

-- l at its place, where none is the same
pub insert-new : (l : Literal) (ms : List Literal) (k : ℕ) → list_all (follows by_bytes l) (take k ms) ≡ true
    → list_any (follows by_bytes l) (drop k ms) ≡ false
    → list_any (λ m. not (follows by_bytes m l)) (take 1 (drop k ms)) ≡ false → insert l ms ≡ take k ms ++ l ∷ drop k ms
unfolding insert
insert-new l [] zero a b c = refl
insert-new l [] (suc k) a b c = refl
insert-new l (m ∷ ms) zero a b c =
    insert-first l m ms (not-false (follows by_bytes m l) (sym (or-false (not (follows by_bytes m l))) ∙ c))
insert-new l (m ∷ ms) (suc k) a b c =
    let both = and_parts (follows by_bytes l m) (list_all (follows by_bytes l) (take k ms)) a in
    insert-later l m ms both.0 ∙ ap (λ ys. m ∷ ys) (insert-new l ms k both.1 b c)

both-exact : (l m : Literal) → is_exact l ≡ true → one_of_both l m ≡ m
both-exact (exact s) m h = refl
both-exact (inexact s) m h = absurd (true≢false (sym h))

both-inexact : (l m : Literal) → is_exact l ≡ false → one_of_both l m ≡ l
both-inexact (exact s) m h = absurd (true≢false h)
both-inexact (inexact s) m h = refl

-- where one is the same, an exact literal changes nothing
pub insert-exact : (l : Literal) (ms : List Literal) (k : ℕ) → list_all (follows by_bytes l) (take k ms) ≡ true
    → list_any (follows by_bytes l) (drop k ms) ≡ false
    → list_any (λ m. not (follows by_bytes m l)) (take 1 (drop k ms)) ≡ true → is_exact l ≡ true → ms ≡ insert l ms
insert-exact l [] zero a b c h = absurd (true≢false (sym c))
insert-exact l [] (suc k) a b c h = absurd (true≢false (sym c))
insert-exact l (m ∷ ms) zero a b c h =
    let p = not-true (follows by_bytes m l) (sym (or-false (not (follows by_bytes m l))) ∙ c) in
    let q = (or_parts (follows by_bytes l m) (list_any (follows by_bytes l) ms) b).0 in
    sym (insert-here l m ms p q ∙ ap (λ y. y ∷ ms) (both-exact l m h))
insert-exact l (m ∷ ms) (suc k) a b c h =
    let both = and_parts (follows by_bytes l m) (list_all (follows by_bytes l) (take k ms)) a in
    ap (λ ys. m ∷ ys) (insert-exact l ms k both.1 b c h) ∙ sym (insert-later l m ms both.0)

-- and an inexact one stands in its place
pub insert-inexact : (l : Literal) (ms : List Literal) (k : ℕ) → list_all (follows by_bytes l) (take k ms) ≡ true
    → list_any (follows by_bytes l) (drop k ms) ≡ false
    → list_any (λ y. not (follows by_bytes y l)) (take 1 (drop k ms)) ≡ true → is_exact l ≡ false → set ms k l ≡ insert l ms
insert-inexact l [] zero a b c h = absurd (true≢false (sym c))
insert-inexact l [] (suc k) a b c h = absurd (true≢false (sym c))
insert-inexact l (x ∷ ms) zero a b c h =
    let p = not-true (follows by_bytes x l) (sym (or-false (not (follows by_bytes x l))) ∙ c) in
    let q = (or_parts (follows by_bytes l x) (list_any (follows by_bytes l) ms) b).0 in
    sym (insert-here l x ms p q ∙ ap (λ y. y ∷ ms) (both-inexact l x h))
insert-inexact l (x ∷ ms) (suc k) a b c h =
    let both = and_parts (follows by_bytes l x) (list_all (follows by_bytes l) (take k ms)) a in
    ap (λ ys. x ∷ ys) (insert-inexact l ms k both.1 b c h) ∙ sym (insert-later l x ms both.0)

both-bytes : (l m : Literal) → bytes_of l ≡ bytes_of m → bytes_of (one_of_both l m) ≡ bytes_of m
both-bytes (exact s) m same = refl
both-bytes (inexact s) m same = same

-- what holds of the bytes of each holds of those with l too
insert-all : (p : List ℕ → Bool) (l : Literal) (ms : List Literal) → list_all (λ m. p (bytes_of m)) ms ≡ true → p (bytes_of l) ≡ true
    → list_all (λ m. p (bytes_of m)) (insert l ms) ≡ true
unfolding insert
insert-all p l [] h is = all-both (p (bytes_of l)) true is refl
insert-all p l (m ∷ ms) h is =
    let both = and_parts (p (bytes_of m)) (list_all (λ y. p (bytes_of y)) ms) h in
    by_test (follows by_bytes m l)
    (λ e. rw (insert-first l m ms e) (all-both (p (bytes_of l)) (list_all (λ y. p (bytes_of y)) (m ∷ ms)) is h))
    (λ e. by_test (follows by_bytes l m)
    (λ d. rw (insert-later l m ms d) (all-both (p (bytes_of m)) (list_all (λ y. p (bytes_of y)) (insert l ms)) both.0 (insert-all p l ms both.1 is)))
    (λ d.
    let same = both-bytes l m (bytes-same (bytes_of l) (bytes_of m) e d) in
    rw (insert-here l m ms e d) (all-both (p (bytes_of (one_of_both l m))) (list_all (λ y. p (bytes_of y)) ms) (ap p same ∙ both.0) both.1)))

pub insert-ordered : (l : Literal) (ms : List Literal) → InOrder by_bytes ms → InOrder by_bytes (insert l ms)
unfolding insert
insert-ordered l [] o = (refl, tt)
insert-ordered l (m ∷ ms) o =
    by_test (follows by_bytes m l)
    (λ e. rw (insert-first l m ms e) (
      all-both (follows by_bytes m l) (list_all (λ y. follows by_bytes y l) ms) e
          (all-all (λ y. follows by_bytes y m) (λ y. follows by_bytes y l) (λ y after. before-trans by_bytes (bytes_of l) (bytes_of m) (bytes_of y) e after) ms
          o.0),
      o,
    ))
    (λ e. by_test (follows by_bytes l m)
    (λ d. rw (insert-later l m ms d) (insert-all (λ ys. before by_bytes (bytes_of m) ys) l ms o.0 d, insert-ordered l ms o.1))
    (λ d.
    let same = both-bytes l m (bytes-same (bytes_of l) (bytes_of m) e d) in
    rw (insert-here l m ms e d) (subst (λ b. list_all (λ y. before by_bytes b (bytes_of y)) ms ≡ true) (sym same) o.0, o.1)))

pub sorted-step : (ls : List Literal) (i : ℕ) (l : Literal) (found new : List Literal) → 0 < i → i ≤ length ls → l ≡ get_or ls (i - 1) l
    → found ≡ sorted (drop i ls)
    → new ≡ insert l found → new ≡ sorted (drop (i - 1) ls)
unfolding sorted
sorted-step ls i l found new some within at so_far put =
    let e : i ≡ i - 1 + 1 = omega arith in
    put ∙ ap (insert l) (so_far ∙ ap (λ n. sorted (drop n ls)) e) ∙ ap (λ y. insert y (sorted (drop (i - 1 + 1) ls))) at
    ∙ sym (ap sorted (drop_more ls (i - 1) l (omega arith)))
