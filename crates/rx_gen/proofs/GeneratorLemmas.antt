-- The haystacks that a number gives, one after another: how long they are, and that they are ASCII.
use Rattle.std.proofs.Common.{◌≡◌, ℕ, zero, suc, ◌+◌, ◌<◌, ◌≤◌, List, [], ◌∷◌, ◌++◌, length, refl, sym, ap, ◌∙◌, get_or, add-one, lit<, arith}
use Rattle.std.specs.Prelude.{◌%◌, map, All}
use Rattle.std.specs.Str.{IsUtf8}
use Rattle.std.proofs.lemmas.List.{length-map, map-append}
use Rattle.std.proofs.lemmas.List.Elements.{All-nil, All-cons}
use Rattle.std.proofs.lemmas.Str.{IsUtf8-from_ascii}
use Rattle.rx_gen.specs.Generated.{draw_at, length_at, letter_at, numbers, haystack_at, draws_before, generated}

-- a number more
numbers-more : (n k : ℕ) → numbers (suc n) k ≡ numbers n k ++ (k + n) ∷ []
unfolding numbers
numbers-more zero k = ap (λ i. i ∷ []) (omega arith)
numbers-more (suc n) k =
    let same : suc k + n ≡ k + suc n = omega arith in
    ap (λ is. k ∷ is) (numbers-more n (suc k) ∙ ap (λ i. numbers n (suc k) ++ i ∷ []) same)

numbers-length : (n k : ℕ) → length (numbers n k) ≡ n
unfolding numbers
numbers-length zero k = refl
numbers-length (suc n) k = ap suc (numbers-length n (suc k))

module _ {X : Type 0} (f : ℕ → X) where
  -- what they become, with one more
  mapped-more : (n k i : ℕ) (xs ys : List X) (x : X) → i ≡ k + n → x ≡ f i → ys ≡ xs ++ x ∷ [] → xs ≡ map f (numbers n k) → ys ≡ map f (numbers (n + 1) k)
  mapped-more n k i xs ys x place is more so_far =
      more ∙ (λ j. so_far j ++ (is ∙ ap f place) j ∷ [])
      ∙ sym (map-append f (numbers n k) ((k + n) ∷ []))
      ∙ ap (map f) (sym (numbers-more n k) ∙ ap (λ m. numbers m k) (omega arith))

-- a letter more
pub letters-more : (seed k n draw : ℕ) (old new : List ℕ) → draw ≡ draw_at seed (k + 1 + n) → new ≡ old ++ (97 + draw % 8) ∷ []
    → old ≡ map (letter_at seed) (numbers n (suc k)) → new ≡ map (letter_at seed) (numbers (n + 1) (suc k))
letters-more seed k n draw old new drawn more so_far =
    mapped-more (letter_at seed) n (suc k) (k + 1 + n) old new (97 + draw % 8) (omega arith) (ap (λ d. 97 + d % 8) drawn) more so_far

-- the draws of a haystack
pub draws-more : (seed n : ℕ) → draws_before seed (n + 1) ≡ draws_before seed n + 1 + length_at seed (draws_before seed n)
unfolding draws_before
draws-more seed n = ap (draws_before seed) (add-one n)

-- a haystack more
pub haystacks-more : (seed n : ℕ) (text : List ℕ) (old new : List (List ℕ)) → text ≡ haystack_at seed (draws_before seed n) → new ≡ old ++ text ∷ []
    → old ≡ generated seed n → new ≡ generated seed (n + 1)
haystacks-more seed n text old new is more so_far = mapped-more (λ i. haystack_at seed (draws_before seed i)) n 0 n old new text (omega arith) is more so_far

-- so many haystacks
pub generated-length : (seed count : ℕ) → length (generated seed count) ≡ count
generated-length seed count = length-map (numbers count 0) (λ i. haystack_at seed (draws_before seed i)) ∙ numbers-length count 0

mapped-all : {X : Type 0} (P : X → Type 0) (f : ℕ → X) (n k : ℕ) → ((i : ℕ) → P (f i)) → All P (map f (numbers n k))
unfolding numbers
mapped-all P f zero k each = All-nil P
mapped-all P f (suc n) k each = All-cons P (f k) (map f (numbers n (suc k))) (each k) (mapped-all P f n (suc k) each)

-- each has at most 15 letters
haystack-short : (seed k : ℕ) → length (haystack_at seed k) ≤ 15
haystack-short seed k =
    let same = length-map (numbers (length_at seed k) (suc k)) (letter_at seed) ∙ numbers-length (length_at seed k) (suc k) in omega (arith, same)

pub generated-short : (seed count : ℕ) → All (λ text. length text ≤ 15) (generated seed count)
generated-short seed count =
    mapped-all (λ text. length text ≤ 15) (λ i. haystack_at seed (draws_before seed i)) count 0 (λ i. haystack-short seed (draws_before seed i))

-- and is ASCII
letters-ascii : (seed n k i : ℕ) → get_or (map (letter_at seed) (numbers n k)) i 0 < 128
unfolding numbers
letters-ascii seed zero k i = lit< tt
letters-ascii seed (suc n) k zero =
    let small : letter_at seed k < 128 = omega arith in small
letters-ascii seed (suc n) k (suc i) = letters-ascii seed n (suc k) i

haystack-utf8 : (seed k : ℕ) → IsUtf8 (haystack_at seed k)
haystack-utf8 seed k = IsUtf8-from_ascii (haystack_at seed k) (letters-ascii seed (length_at seed k) (suc k))

pub generated-utf8 : (seed count : ℕ) → All IsUtf8 (generated seed count)
generated-utf8 seed count =
    mapped-all IsUtf8 (λ i. haystack_at seed (draws_before seed i)) count 0 (λ i. haystack-utf8 seed (draws_before seed i))
