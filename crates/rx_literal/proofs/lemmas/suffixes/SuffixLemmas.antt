-- The common suffix is the longest.
use Rattle.std.proofs.Common.{◌≡◌, ℕ, true, List, [], ◌∷◌, ◌++◌, reverse, Some, refl, sym, ap, ◌∙◌, subst, arith}
use Rattle.std.specs.Prelude.{nat_eq}
use Rattle.std.proofs.lemmas.Bool.Decides.{nat_tests}
use Rattle.std.proofs.lemmas.List.{reverse-append, reverse-reverse, append-nil}
use Rattle.rx_literal.specs.Literals.{Literal, finite, bytes_of}
use Rattle.rx_literal.specs.Trim.{common_prefix, common_from_behind, longest_common_suffix}
use Rattle.rx_literal.specs.Spans.{EndsWith, EachEndsWith}
use Rattle.rx_literal.proofs.lemmas.suffixes.EndLemmas.{IsPart, part-part, common-right, behind-part, none-some_list, some-same}

tails : (x y : ℕ) (xs ys : List ℕ) → (x ∷ xs) ≡ (y ∷ ys) → xs ≡ ys
tails x y xs ys e = cc

not-cons : {P : Type 0} (y : ℕ) (ys : List ℕ) → [] ≡ (y ∷ ys) → P
not-cons y ys e = cc

greatest : (t xs ys : List ℕ) → IsPart t xs → IsPart t ys → IsPart t (common_prefix xs ys)
greatest [] xs ys a b = (common_prefix xs ys, refl)
greatest (c ∷ t) [] ys a b = not-cons c (t ++ a.0) a.1
greatest (c ∷ t) (x ∷ xs) [] a b = not-cons c (t ++ b.0) b.1
greatest (c ∷ t) (x ∷ xs) (y ∷ ys) a b =
    let e = a.1 in let left : x ≡ c = cc in
    let e = b.1 in let right : y ≡ c = cc in
    let same : nat_eq x y ≡ true = grind (arith, nat_tests) in
    let r = greatest t xs ys (a.0, tails x c xs (t ++ a.0) a.1) (b.0, tails y c ys (t ++ b.0) b.1) in
    rw same (r.0, λ k. left k ∷ r.1 k)

-- backwards
to-part : (bytes t : List ℕ) → EndsWith bytes t → IsPart (reverse t) (reverse bytes)
to-part bytes t e = (reverse e.0, ap reverse e.1 ∙ reverse-append e.0 t)

from-part : (bytes u : List ℕ) → IsPart u (reverse bytes) → EndsWith bytes (reverse u)
from-part bytes u p = (reverse p.0, sym (reverse-reverse bytes) ∙ ap reverse p.1 ∙ reverse-append u p.0)

behind-each : (bytes : List ℕ) (ls : List Literal) (u : List ℕ) → IsPart u (common_from_behind bytes ls) → EachEndsWith ls (reverse u)
behind-each bytes [] u p = tt
behind-each bytes (l ∷ ls) u p =
    let other = reverse (bytes_of l) in
    let both = common_prefix bytes other in (
      from-part (bytes_of l) u (part-part u both other (part-part u (common_from_behind both ls) both p (behind-part both ls)) (common-right bytes other)),
      behind-each both ls u p,
    )

behind-greatest : (bytes : List ℕ) (ls : List Literal) (t : List ℕ) → IsPart (reverse t) bytes → EachEndsWith ls t
    → IsPart (reverse t) (common_from_behind bytes ls)
behind-greatest bytes [] t p each = p
behind-greatest bytes (l ∷ ls) t p each =
    behind-greatest (common_prefix bytes (reverse (bytes_of l))) ls t (greatest (reverse t) bytes (reverse (bytes_of l)) p (to-part (bytes_of l) t each.0))
    each.1

pub suffix-ends : (ls : List Literal) (s : List ℕ) → longest_common_suffix (finite ls) ≡ Some s → EachEndsWith ls s
suffix-ends [] s e = tt
suffix-ends (l ∷ ls) s e =
    let u = common_from_behind (reverse (bytes_of l)) ls in
    let whole : IsPart u u = ([], sym (append-nil u)) in
    subst (λ x. EachEndsWith (l ∷ ls) x) (some-same (reverse u) s e)
    (from-part (bytes_of l) u (behind-part (reverse (bytes_of l)) ls), behind-each (reverse (bytes_of l)) ls u whole)

pub suffix-longest : (ls : List Literal) (s : List ℕ) → longest_common_suffix (finite ls) ≡ Some s → (t : List ℕ) → EachEndsWith ls t → EndsWith s t
suffix-longest [] s e t each = absurd (none-some_list s e)
suffix-longest (l ∷ ls) s e t each =
    let u = common_from_behind (reverse (bytes_of l)) ls in
    let p = behind-greatest (reverse (bytes_of l)) ls t (to-part (bytes_of l) t each.0) each.1 in
    let is = some-same (reverse u) s e in
    subst (λ x. EndsWith x t) is (reverse p.0, ap reverse p.1 ∙ reverse-append (reverse t) p.0 ∙ ap (λ x. reverse p.0 ++ x) (reverse-reverse t))
