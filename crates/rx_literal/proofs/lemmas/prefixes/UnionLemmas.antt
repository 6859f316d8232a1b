-- Unions in a row.
use Rattle.std.proofs.Common.{◌≡◌, ◌<◌, ◌≤◌, List, [], ◌∷◌, ◌++◌, length, refl, sym, ap, ◌∙◌, arith, append_assoc, append-nil, length-append}
use Rattle.std.specs.Prelude.{nat_lt}
use Rattle.std.proofs.lemmas.Bool.Decides.{nat_tests}
use Rattle.rx_model.specs.Expression.{Expression, Expressions, nil, cons}
use Rattle.rx_model.proofs.lemmas.runs.RunLemmas.{by_test}
use Rattle.rx_hir.specs.Normal.{expressions}
use Rattle.rx_literal.specs.Literals.{Literal, Seq, infinite, finite, limited, union}
use Rattle.rx_literal.specs.declared.side.Side.{Side}
use Rattle.rx_literal.specs.declared.side.Side.TheVariants.{Front as front}
use Rattle.rx_literal.specs.Extract.{literals, of_one, prefixes_of}

-- no more literals than a union may have
abbrev pub IsFew : Seq → Type 0
IsFew infinite = Unit {0}
IsFew (finite ls) = length ls ≤ 250

pub limited-is : (ls : List Literal) → length ls ≤ 250 → limited ls ≡ finite ls
unfolding limited
limited-is ls le = by_test (nat_lt 250 (length ls)) (λ e. absurd (grind (arith, nat_tests))) (λ e. rw e refl)

pub limited-past : (ls : List Literal) → 250 < length ls → limited ls ≡ infinite
unfolding limited
limited-past ls lt = by_test (nat_lt 250 (length ls)) (λ e. rw e refl) (λ e. absurd (grind (arith, nat_tests)))

limited-few : (ls : List Literal) → IsFew (limited ls)
unfolding limited
limited-few ls = by_test (nat_lt 250 (length ls)) (λ e. rw e tt) (λ e. rw e (grind (arith, nat_tests)))

pub union-few : (ss ts : Seq) → IsFew (union ss ts)
union-few infinite ts = tt
union-few (finite ss) infinite = tt
union-few (finite ss) (finite ts) = limited-few (ss ++ ts)

pub union-nothing : (ss : Seq) → IsFew ss → union ss (finite []) ≡ ss
union-nothing infinite few = refl
union-nothing (finite ss) few = ap limited (append-nil ss) ∙ limited-is ss few

pub nothing-union : (ss : Seq) → IsFew ss → union (finite []) ss ≡ ss
nothing-union infinite few = refl
nothing-union (finite ss) few = limited-is ss few

pub union-assoc : (ss ts us : Seq) → union (union ss ts) us ≡ union ss (union ts us)
unfolding limited
union-assoc infinite ts us = refl
union-assoc (finite ss) infinite us = refl
union-assoc (finite ss) (finite ts) infinite = by_test (nat_lt 250 (length (ss ++ ts))) (λ e. rw e refl) (λ e. rw e refl)
union-assoc (finite ss) (finite ts) (finite us) =
    let long = length-append ss ts in
    let more = length-append (ss ++ ts) us in
    let later = length-append ts us in
    let all = length-append ss (ts ++ us) in
    by_test (nat_lt 250 (length (ss ++ ts)))
    (λ e. ap (λ x. union x (finite us)) (limited-past (ss ++ ts) (grind (arith, nat_tests))) ∙ sym (past (grind (arith, nat_tests))))
    (λ e. ap (λ x. union x (finite us)) (limited-is (ss ++ ts) (grind (arith, nat_tests))) ∙ ap limited (append_assoc ss ts us) ∙ sym whole)
  where
    past : 250 < length (ss ++ (ts ++ us)) → union (finite ss) (limited (ts ++ us)) ≡ infinite
    past lt =
        by_test (nat_lt 250 (length (ts ++ us)))
        (λ e. ap (union (finite ss)) (limited-past (ts ++ us) (grind (arith, nat_tests))))
        (λ e. ap (union (finite ss)) (limited-is (ts ++ us) (grind (arith, nat_tests))) ∙ limited-past (ss ++ (ts ++ us)) lt)

    whole : union (finite ss) (limited (ts ++ us)) ≡ limited (ss ++ (ts ++ us))
    whole =
        let long = length-append ss (ts ++ us) in
        by_test (nat_lt 250 (length (ts ++ us)))
        (λ e. ap (union (finite ss)) (limited-past (ts ++ us) (grind (arith, nat_tests))) ∙ sym (limited-past (ss ++ (ts ++ us)) (grind (arith, nat_tests))))
        (λ e. ap (union (finite ss)) (limited-is (ts ++ us) (grind (arith, nat_tests))))

pub of_one-few : (side : Side) (hs : Expressions) → IsFew (of_one side hs)
unfolding literals
of_one-few side nil = omega arith
of_one-few side (cons h hs) = union-few (literals side h) (of_one side hs)

-- several patterns give what the choice of them gives
pub of_patterns : (hs : List Expression) → prefixes_of hs ≡ of_one front (expressions hs)
unfolding literals
of_patterns [] = refl
of_patterns (h ∷ hs) = ap (union (literals front h)) (of_patterns hs)
