-- The literals of a class, range by range.
use Rattle.std.proofs.Common.{◌≡◌, ℕ, zero, suc, true, false, ◌+◌, ◌-◌, ◌<◌, ◌≤◌, List, [], ◌∷◌, ◌++◌, length, map, drop, get_or, refl, sym, ap, ◌∙◌, arith, append_assoc, append-nil, length-append}
use Rattle.std.specs.Prelude.{nat_lt, nat_le}
use Rattle.std.proofs.lemmas.Bool.Decides.{nat_tests}
use Rattle.std.proofs.lemmas.List.{length-map, map-append, at_drop_more}
use Rattle.rx_model.proofs.lemmas.runs.RunLemmas.{by_test}
use Rattle.rx_hir.proofs.JoinedLemmas.{drop-past}
use Rattle.rx_literal.specs.Literals.{Literal, exact, infinite, finite}
use Rattle.rx_literal.specs.Extract.{numbers, members, each_exact}

-- the members, each by its encoding
abbrev pub encoded : (encode : ℕ → List ℕ) → List ℕ → List Literal
encoded encode ms = map (λ c. exact (encode c)) ms

exact-each : (encode : ℕ → List ℕ) (ms : List ℕ) → map exact (map encode ms) ≡ encoded encode ms
exact-each encode [] = refl
exact-each encode (m ∷ ms) = ap (λ ls. exact (encode m) ∷ ls) (exact-each encode ms)

pub each-few : (encode : ℕ → List ℕ) (ms : List ℕ) (ls : List Literal) → ls ≡ encoded encode ms → length ls ≤ 10 → finite ls ≡ each_exact (map encode ms)
unfolding each_exact
each-few encode ms ls e le =
    let long = length-map ms encode in
    let same = length-map ms (λ c. exact (encode c)) in
    let here = ap length e in
    by_test (nat_lt 10 (length (map encode ms)))
    (λ d. absurd (grind (arith, nat_tests)))
    (λ d. rw d (ap finite (e ∙ sym (exact-each encode ms))))

pub each-many : (encode : ℕ → List ℕ) (ms : List ℕ) → 10 < length (encoded encode ms) → infinite ≡ each_exact (map encode ms)
unfolding each_exact
each-many encode ms lt =
    let long = length-map ms encode in
    let same = length-map ms (λ c. exact (encode c)) in
    by_test (nat_lt 10 (length (map encode ms)))
    (λ d. rw d refl)
    (λ d. absurd (grind (arith, nat_tests)))

-- the members of one range more are found
pub range-found : (next : ℕ → ℕ) (encode : ℕ → List ℕ) (rs : List (ℕ × ℕ)) (i : ℕ) (d : ℕ × ℕ) (found more all : List Literal) → i < length rs
    → more ≡ found ++ encoded encode (numbers next 11 (get_or rs i d).0 (get_or rs i d).1)
    → found ++ encoded encode (members next (drop i rs)) ≡ all → more ++ encoded encode (members next (drop (i + 1) rs)) ≡ all
unfolding members
range-found next encode rs i d found more all lt pushed before =
    let now = numbers next 11 (get_or rs i d).0 (get_or rs i d).1 in
    let rest = members next (drop (i + 1) rs) in
    ap (λ ys. ys ++ encoded encode rest) pushed ∙ append_assoc found (encoded encode now) (encoded encode rest)
    ∙ ap (λ ys. found ++ ys) (sym (map-append (λ c. exact (encode c)) now rest) ∙ sym (at_drop_more (λ ys. encoded encode (members next ys)) rs i d lt))
    ∙ before

pub none-left : (next : ℕ → ℕ) (encode : ℕ → List ℕ) (rs : List (ℕ × ℕ)) (i : ℕ) → length rs ≤ i → encoded encode (members next (drop i rs)) ≡ []
unfolding members
none-left next encode rs i le = ap (λ ys. encoded encode (members next ys)) (drop-past rs i le)

pub part-many : (found rest all : List Literal) → 10 < length found → found ++ rest ≡ all → 10 < length all
part-many found rest all lt e = let long = length-append found rest in let same = ap length e in omega arith

-- the numbers that are left after k of `most`
from-step : (next : ℕ → ℕ) (encode : ℕ → List ℕ) (k most low high : ℕ) → k < most → low ≤ high
    → encoded encode (numbers next (most - k) low high) ≡ exact (encode low) ∷ encoded encode (numbers next (most - (k + 1)) (next low) high)
from-step next encode k most low high lt le =
    let more : most - k ≡ suc (most - (k + 1)) = omega arith in
    let fits : nat_le low high ≡ true = grind (arith, nat_tests) in
    rw more (rw fits refl)

pub from-past : (next : ℕ → ℕ) (encode : ℕ → List ℕ) (n low high : ℕ) → high < low → encoded encode (numbers next n low high) ≡ []
from-past next encode zero low high lt = refl
from-past next encode (suc n) low high lt = let out : nat_le low high ≡ false = grind (arith, nat_tests) in rw out refl

pub from-end : (next : ℕ → ℕ) (encode : ℕ → List ℕ) (k most low high : ℕ) → most ≤ k → encoded encode (numbers next (most - k) low high) ≡ []
from-end next encode k most low high le = let none : most - k ≡ 0 = omega arith in rw none refl

-- one number more is found
pub one-found : (next : ℕ → ℕ) (encode : ℕ → List ℕ) (k most c after high : ℕ) (found more all : List Literal) (l : Literal) → k < most → c ≤ high
    → l ≡ exact (encode c) → more ≡ found ++ l ∷ [] → after ≡ next c
    → found ++ encoded encode (numbers next (most - k) c high) ≡ all → more ++ encoded encode (numbers next (most - (k + 1)) after high) ≡ all
one-found next encode k most c after high found more all l lt le is pushed on before =
    let rest = encoded encode (numbers next (most - (k + 1)) (next c) high) in
    ap (λ m. more ++ encoded encode (numbers next (most - (k + 1)) m high)) on
    ∙ ap (λ ys. ys ++ rest) pushed ∙ append_assoc found (l ∷ []) rest ∙ ap (λ x. found ++ x ∷ rest) is
    ∙ ap (λ ys. found ++ ys) (sym (from-step next encode k most c high lt le)) ∙ before

-- nothing is left
pub all-found : (found rest all : List Literal) → rest ≡ [] → found ++ rest ≡ all → found ≡ all
all-found found rest all none before = sym (append-nil found) ∙ ap (λ ys. found ++ ys) (sym none) ∙ before
