-- Slots of literals, and literals that are apart.
use Rattle.std.proofs.Common.{◌≡◌, ◌≢◌, ℕ, zero, suc, ◌+◌, ◌<◌, ◌≤◌, Bool, true, false, List, [], ◌∷◌, length, take, map, get_or, refl, sym, ap, subst, ◌∙◌, arith, ⊎_elim, true≢false}
use Rattle.std.specs.Prelude.{nat_lt, nat_le, nat_eq, slice_index}
use Rattle.std.specs.List.{list_all, starts_with}
use lib.ListN.{set}
use Rattle.std.proofs.lemmas.Bool.{cases_lt, cases_eq, le-leb}
use Rattle.std.proofs.lemmas.Bool.Decides.{nat_tests}
use Rattle.std.proofs.lemmas.List.{length-map, get_or-map, get_or-set_same, get_or-set_other}
use Rattle.std.proofs.lemmas.List.Folds.{list_all_more}
use Rattle.rx_model.proofs.lemmas.runs.RunLemmas.{by_test}
use Rattle.rx_literal.specs.Literals.{Literal, bytes_of}
use Rattle.rx_literal.specs.Slots.{slot_of, slot, has_bytes, AreCounted, AreApart, AreAlone}
use Rattle.rx_literal.proofs.lemmas.trimming.BeforeLemmas.{begins, starts-begins, begins-cases}
use Rattle.rx_literal.proofs.lemmas.trimming.OrderedLemmas.{all-both, all-all, all-at}

begins-take : (xs ys : List ℕ) (n : ℕ) → begins xs ys ≡ true → n ≤ length xs → take n ys ≡ take n xs
begins-take xs ys zero h le = refl
begins-take [] ys (suc n) h le = absurd (omega arith)
begins-take (x ∷ xs) [] (suc n) h le = absurd (true≢false (sym h))
begins-take (x ∷ xs) (y ∷ ys) (suc n) h le =
    let both = begins-cases x y (begins xs ys) h in
    let rest = begins-take xs ys n both.1 (omega arith) in
    λ k. sym both.0 k ∷ rest k

-- bytes that begin with others have their first bytes
pub starts-take : (xs ys : List ℕ) (n : ℕ) → starts_with nat_eq xs ys ≡ true → n ≤ length ys → take n xs ≡ take n ys
starts-take xs ys n h le = begins-take ys xs n (sym (starts-begins xs ys) ∙ h) le

not-starts : (xs ys : List ℕ) (n : ℕ) → n ≤ length ys → slot_of 0 (take n xs) ≢ slot_of 0 (take n ys) → starts_with nat_eq xs ys ≡ false
not-starts xs ys n le differ =
    by_test (starts_with nat_eq xs ys) (λ e. absurd (differ (ap (slot_of 0) (starts-take xs ys n e le)))) (λ e. e)

-- literals with different slots are apart
pub slots-apart : (n : ℕ) (l m : Literal) → n ≤ length (bytes_of l) → n ≤ length (bytes_of m) → slot n l ≢ slot n m → AreApart l m
slots-apart n l m a b differ = (
  not-starts (bytes_of l) (bytes_of m) n b differ,
  not-starts (bytes_of m) (bytes_of l) n a (λ e. differ (sym e)),
)

pub has-at : (n : ℕ) (ls : List Literal) (i : ℕ) (l : Literal) → list_all (has_bytes n) ls ≡ true → i < length ls → l ≡ get_or ls i l → n ≤ length (bytes_of l)
has-at n ls i l all lt at = let h = all-at (has_bytes n) ls i l all lt at in grind (arith, nat_tests)

fewer : (n m k : ℕ) → m ≤ n → nat_le n k ≡ true → nat_le m k ≡ true
fewer n m k le h = grind (arith, nat_tests)

pub have-fewer : (n m : ℕ) (ls : List Literal) → list_all (has_bytes n) ls ≡ true → m ≤ n → list_all (has_bytes m) ls ≡ true
have-fewer n m ls all le = all-all (has_bytes n) (has_bytes m) (λ x h. fewer n m (length (bytes_of x)) le h) ls all

-- fewer bytes of one literal more
pub have-more : (n m : ℕ) (ls : List Literal) (i : ℕ) (l : Literal) → i < length ls → l ≡ get_or ls i l → list_all (has_bytes n) (take i ls) ≡ true
    → m ≤ n → m ≤ length (bytes_of l) → list_all (has_bytes m) (take (i + 1) ls) ≡ true
have-more n m ls i l lt at all a b =
    list_all_more (has_bytes m) ls i l lt
    ∙ all-both (list_all (has_bytes m) (take i ls)) (has_bytes m (get_or ls i l))
    (have-fewer n m (take i ls) all a)
    (ap (has_bytes m) (sym at) ∙ le-leb m (length (bytes_of l)) b)

-- the slot at i
pub slot-at : (n : ℕ) (ls : List Literal) (i : ℕ) (l : Literal) → i < length ls → l ≡ get_or ls i l → get_or (map (slot n) ls) i 0 ≡ slot n l
slot-at n ls i l lt at = get_or-map (slot n) ls i l 0 lt ∙ ap (slot n) (sym at)

counted-twice : (slots counts : List ℕ) → AreCounted slots counts → (i j : ℕ) → i ≢ j → i < length slots → j < length slots
    → slice_index slots i ≡ slice_index slots j → 2 ≤ slice_index counts (slice_index slots i)
unfolding AreCounted
counted-twice slots counts counted i j differ a b same =
    ⊎_elim
    (λ lt. counted i j lt b same)
    (λ ge.
    let gt : j < i = omega (arith, differ, ge) in
    subst (λ s. 2 ≤ slice_index counts s) (sym same) (counted j i gt a (sym same)))
    (cases_lt i j)

not-few : (n : ℕ) → 2 ≤ n → nat_lt n 2 ≡ true → ⊥
not-few n two once = let lt : n < 2 = grind (arith, nat_tests) in omega arith

-- literals whose slots are counted once are apart from the others
pub alone-counted : (n : ℕ) (ls : List Literal) (slots counts : List ℕ) (marks : List Bool) → list_all (has_bytes n) ls ≡ true → slots ≡ map (slot n) ls
    → AreCounted slots counts → marks ≡ map (λ s. nat_lt (slice_index counts s) 2) slots → AreAlone ls marks
alone-counted n ls slots counts marks all are counted is =
    let once : ℕ → Bool = λ s. nat_lt (slice_index counts s) 2 in
    let long : length slots ≡ length ls = ap length are ∙ length-map ls (slot n) in
    record {
      long = ap length is ∙ length-map slots once ∙ long;
      apart = λ i j l m a b differ li mj marked.
          let here : slice_index slots i ≡ slot n l = ap (λ ss. get_or ss i 0) are ∙ slot-at n ls i l a li in
          let there : slice_index slots j ≡ slot n m = ap (λ ss. get_or ss j 0) are ∙ slot-at n ls j m b mj in
          let few : nat_lt (slice_index counts (slice_index slots i)) 2 ≡ true =
          sym (ap (λ bs. get_or bs i false) is ∙ get_or-map once slots i 0 false (omega (arith, a, long))) ∙ marked in
          slots-apart n l m (has-at n ls i l all a li) (has-at n ls j m all b mj)
          (λ same. not-few (slice_index counts (slice_index slots i))
          (counted-twice slots counts counted i j differ (omega (arith, a, long)) (omega (arith, b, long)) (here ∙ same ∙ sym there)) few);
    }

-- the first n slots are counted
pub record Counted (slots counts : List ℕ) (n : ℕ) : Type 0 where
  pub once : (i : ℕ) → i < n → 1 ≤ get_or counts (get_or slots i 0) 0
  pub twice : (i j : ℕ) → i < j → j < n → get_or slots i 0 ≡ get_or slots j 0 → 2 ≤ get_or counts (get_or slots i 0) 0

pub counted-none : (slots counts : List ℕ) → Counted slots counts 0
counted-none slots counts = record { once = λ i lt. absurd (omega arith); twice = λ i j a b same. absurd (omega arith) }

pub counted-all : (slots counts : List ℕ) (n : ℕ) → length slots ≤ n → Counted slots counts n → AreCounted slots counts
unfolding AreCounted
counted-all slots counts n le counted i j a b same = counted.twice i j a (omega arith) same

module _ (counts : List ℕ) (s v : ℕ) (within : s < length counts) where
  at-same : (t : ℕ) → t ≡ s → get_or (set counts s v) t 0 ≡ v
  at-same t e = subst (λ u. get_or (set counts s v) u 0 ≡ v) (sym e) (get_or-set_same counts s v 0 within)

  grown : get_or counts s 0 ≤ v → (t : ℕ) → get_or counts t 0 ≤ get_or (set counts s v) t 0
  grown le t =
      ⊎_elim
      (λ e. let new = at-same t e in let old : get_or counts t 0 ≡ get_or counts s 0 = ap (λ u. get_or counts u 0) e in omega (arith, new, old, le))
      (λ other. let same = get_or-set_other counts s t v 0 other in omega (arith, same))
      (cases_eq t s)

  -- a slot more
  pub counted-more : (slots : List ℕ) (n : ℕ) → s ≡ get_or slots n 0 → get_or counts s 0 ≤ v → 1 ≤ v → (1 ≤ get_or counts s 0 → 2 ≤ v)
      → Counted slots counts n → Counted slots (set counts s v) (n + 1)
  counted-more slots n at le one two counted = record {
    once = λ i lt. ⊎_elim
        (λ below. let old = counted.once i below in let new = grown le (get_or slots i 0) in omega (arith, old, new))
        (λ above.
        let e : i ≡ n = omega arith in
        let new = at-same (get_or slots i 0) (ap (λ k. get_or slots k 0) e ∙ sym at) in
        omega (arith, new, one))
        (cases_lt i n);
    twice = λ i j a b same. ⊎_elim
        (λ below. let old = counted.twice i j a below same in let new = grown le (get_or slots i 0) in omega (arith, old, new))
        (λ above.
        let e : j ≡ n = omega arith in
        let is : get_or slots i 0 ≡ s = same ∙ ap (λ k. get_or slots k 0) e ∙ sym at in
        let new = at-same (get_or slots i 0) is in
        let before : 1 ≤ get_or counts s 0 = subst (λ t. 1 ≤ get_or counts t 0) is (counted.once i (omega arith)) in
        omega (arith, new, two before))
        (cases_lt j n);
  }
