-- Literals that are marked.
use Rattle.std.proofs.Common.{◌≡◌, ℕ, zero, suc, ◌+◌, ◌<◌, ◌≤◌, Bool, true, false}
use Rattle.std.proofs.Common.{List, [], ◌∷◌, ◌++◌, length, map, drop, get_or, refl, sym, ap, subst, ◌∙◌, arith, append_assoc, append-nil}
use Rattle.std.proofs.lemmas.List.{length-append, drop_more}
use Rattle.std.proofs.lemmas.Bool.{not-true, not-false}
use Rattle.rx_hir.proofs.JoinedLemmas.{drop-past}
use Rattle.std.specs.Prelude.{not, ◌||◌, nat_eq, nat_le, if◌then◌else◌, slice_index_or}
use Rattle.std.proofs.lemmas.Bool.Decides.{nat_tests}
use Rattle.std.specs.List.{starts_with}
use Rattle.rx_model.proofs.lemmas.runs.RunLemmas.{by_test}
use Rattle.rx_literal.specs.Literals.{Literal, bytes_of}
use Rattle.rx_literal.specs.Trim.{has_prefix_in, preferred, picked}
use Rattle.rx_literal.proofs.lemmas.trimming.PartedLemmas.{keep-step, skip-step, preferred-kept, preferred-skip}

pub picked-none : (ls : List Literal) → picked ls [] ≡ []
picked-none [] = refl
picked-none (l ∷ ls) = refl

-- a mark more
pub picked-mark : (bs : List Bool) (b : Bool) (ls : List Literal) (i : ℕ) (l : Literal) → length bs ≡ i → i < length ls → l ≡ get_or ls i l
    → picked ls (bs ++ b ∷ []) ≡ picked ls bs ++ (if b then l ∷ [] else [])
picked-mark [] b [] i l long lt at = absurd (omega arith)
picked-mark [] b (x ∷ ls) zero l long lt at = ap (λ ys. if b then x ∷ ys else ys) (picked-none ls) ∙ ap (λ y. if b then y ∷ [] else []) (sym at)
picked-mark [] b (x ∷ ls) (suc i) l long lt at = absurd (omega arith)
picked-mark (c ∷ bs) b [] i l long lt at = absurd (omega arith)
picked-mark (c ∷ bs) b (x ∷ ls) zero l long lt at = absurd (omega arith)
picked-mark (true ∷ bs) b (x ∷ ls) (suc i) l long lt at = ap (λ ys. x ∷ ys) (picked-mark bs b ls i l (omega arith) (omega arith) at)
picked-mark (false ∷ bs) b (x ∷ ls) (suc i) l long lt at = picked-mark bs b ls i l (omega arith) (omega arith) at

-- a literal more
pub picked-more : (bs : List Bool) (ls : List Literal) (l : Literal)
    → picked (ls ++ l ∷ []) bs ≡ picked ls bs ++ (if slice_index_or bs (length ls) false then l ∷ [] else [])
picked-more [] [] l = refl
picked-more [] (x ∷ ls) l = refl
picked-more (b ∷ bs) [] l = refl
picked-more (true ∷ bs) (x ∷ ls) l = ap (λ ys. x ∷ ys) (picked-more bs ls l)
picked-more (false ∷ bs) (x ∷ ls) l = picked-more bs ls l

pub picked-next : (ls : List Literal) (l : Literal) (bs : List Bool) (b : Bool) → b ≡ slice_index_or bs (length ls) false
    → picked ls bs ++ (if b then l ∷ [] else []) ≡ picked (ls ++ l ∷ []) bs
picked-next ls l bs b is = ap (λ c. picked ls bs ++ (if c then l ∷ [] else [])) is ∙ sym (picked-more bs ls l)

pub longer : (ls : List Literal) (l : Literal) (i : ℕ) → i ≡ length ls → i + 1 ≡ length (ls ++ l ∷ [])
longer ls l i is = rw (length-append ls (l ∷ [])) (omega (arith, is))

pub one-more : (bs : List Bool) (b : Bool) (i : ℕ) → length bs ≡ i → length (bs ++ b ∷ []) ≡ i + 1
one-more bs b i long = rw (length-append bs (b ∷ [])) (omega (arith, long))

-- the literal is marked where none before it is its prefix
pub mark-step : (es fs ls : List Literal) (i : ℕ) (l m : Literal) → m ≡ l
    → ((x : Literal) → has_prefix_in fs x ≡ (has_prefix_in es x || starts_with nat_eq (bytes_of x) (bytes_of m)))
    → i < length ls → l ≡ get_or ls i l → (bs : List Bool) (b : Bool) → length bs ≡ i → b ≡ not (has_prefix_in es m) → (all : List Literal)
    → picked ls bs ++ preferred es (drop i ls) ≡ all → picked ls (bs ++ b ∷ []) ++ preferred fs (drop (i + 1) ls) ≡ all
mark-step es fs ls i l m is covered lt at bs b long value all before =
    let more = picked-mark bs b ls i l long lt at in
    let here = subst (λ y. (x : Literal) → has_prefix_in fs x ≡ (has_prefix_in es x || starts_with nat_eq (bytes_of x) (bytes_of y))) is covered in
    let new = value ∙ ap (λ y. not (has_prefix_in es y)) is in
    by_test b
    (λ e. keep-step es fs ls i l here lt at (picked ls bs) (picked ls (bs ++ b ∷ [])) all before b e new l refl
    (more ∙ ap (λ c. picked ls bs ++ (if c then l ∷ [] else [])) e))
    (λ e. skip-step es fs ls i l here lt at (picked ls bs) (picked ls (bs ++ b ∷ [])) all before b e new
    (more ∙ ap (λ c. picked ls bs ++ (if c then l ∷ [] else [])) e ∙ append-nil (picked ls bs)))

-- a literal l, the first of those that are left, is kept or not
pub added-step : (es fs rest : List Literal) (l m : Literal) → m ≡ l
    → ((x : Literal) → has_prefix_in fs x ≡ (has_prefix_in es x || starts_with nat_eq (bytes_of x) (bytes_of m)))
    → (kept new : List Literal) (b : Bool) → b ≡ not (has_prefix_in es m) → new ≡ kept ++ (if b then m ∷ [] else [])
    → new ++ preferred fs rest ≡ kept ++ preferred es (l ∷ rest)
added-step es fs rest l m is covered kept new b value put =
    let here = subst (λ y. (x : Literal) → has_prefix_in fs x ≡ (has_prefix_in es x || starts_with nat_eq (bytes_of x) (bytes_of y))) is covered in
    let new_one = value ∙ ap (λ y. not (has_prefix_in es y)) is in
    let there = ap (λ ys. ys ++ preferred fs rest) put in
    by_test b
    (λ e. there ∙ ap (λ c. (kept ++ (if c then m ∷ [] else [])) ++ preferred fs rest) e
    ∙ append_assoc kept (m ∷ []) (preferred fs rest) ∙ ap (λ y. kept ++ y ∷ preferred fs rest) is
    ∙ ap (λ ys. kept ++ ys) (sym (preferred-kept es fs rest l here (not-true (has_prefix_in es l) (sym new_one ∙ e)))))
    (λ e. there ∙ ap (λ c. (kept ++ (if c then m ∷ [] else [])) ++ preferred fs rest) e ∙ ap (λ ys. ys ++ preferred fs rest) (append-nil kept)
    ∙ ap (λ ys. kept ++ ys) (sym (preferred-skip es fs rest l here (not-false (has_prefix_in es l) (sym new_one ∙ e)))))

-- those that are left, each changed by f, from the next one on
pub next-changed : (f : Literal → Literal) (es ls : List Literal) (i : ℕ) (l : Literal) (kept all : List Literal) → i < length ls → l ≡ get_or ls i l
    → kept ++ preferred es (map f (drop i ls)) ≡ all → kept ++ preferred es (f l ∷ map f (drop (i + 1) ls)) ≡ all
next-changed f es ls i l kept all lt at before =
    ap (λ y. kept ++ preferred es (f y ∷ map f (drop (i + 1) ls))) at ∙ ap (λ ys. kept ++ preferred es (map f ys)) (sym (drop_more ls i l lt)) ∙ before

pub too-many : (n : ℕ) (kept rest all : List Literal) → n < length kept → kept ++ rest ≡ all → n < length all
too-many n kept rest all many whole =
    subst (λ ys. n < length ys) whole (rw (length-append kept rest) (omega (arith, many)))

pub none-left : (f : Literal → Literal) (es ls : List Literal) (i : ℕ) (kept all : List Literal) → length ls ≤ i
    → kept ++ preferred es (map f (drop i ls)) ≡ all → kept ≡ all
unfolding preferred
none-left f es ls i kept all le before = sym (append-nil kept) ∙ sym (ap (λ ys. kept ++ preferred es (map f ys)) (drop-past ls i le)) ∙ before

pub not-few : (n : ℕ) (ls : List Literal) → n < length ls → nat_le (length ls) n ≡ false
not-few n ls many = grind (arith, nat_tests)

pub are-few : (n : ℕ) (ks ls : List Literal) → ks ≡ ls → length ks ≤ n → nat_le (length ls) n ≡ true
are-few n ks ls same few =
    let short : length ls ≤ n = subst (λ ys. length ys ≤ n) same few in
    grind (arith, nat_tests)
