-- Sums of what was found in haystacks.
use Rattle.std.proofs.Common.{◌≡◌, ℕ, ◌+◌, ◌^◌, ◌<◌, ◌≤◌, List, length, get_or, take, sym, ap, ◌∙◌, arith}
use Rattle.std.specs.Prelude.{All, map, sum_by}
use Rattle.std.proofs.lemmas.List.{length-map, get_or-map}
use Rattle.std.proofs.lemmas.List.Sums.{sum_by_more, sum_by_more_le, sum_by-le}

-- One more is added, and the sum stays below the whole.
module _ {X : Type 0} (f : X → ℕ) (xs : List X) (i : ℕ) (x : X) (below : i < length xs) (is : x ≡ get_or xs i x) where
  pub sum-more : sum_by f (take i xs) + f x ≡ sum_by f (take (i + 1) xs)
  sum-more = ap (λ y. sum_by f (take i xs) + f y) is ∙ sym (sum_by_more f xs i x below)

  pub sum-below : sum_by f (take i xs) + f x ≤ sum_by f xs
  sum-below = omega (arith, sum-more, sum_by_more f xs i x below, sum_by_more_le f xs i x below)

-- The same of lists, by their lengths.
module _ {V : Type 0} (items : V → List ℕ) (vs : List V) (i : ℕ) (v : V) (below : i < length vs) (is : v ≡ get_or vs i v) where
  mapped : items v ≡ get_or (map items vs) i (items v)
  mapped = ap items is ∙ sym (get_or-map items vs i v (items v) below)

  inside : i < length (map items vs)
  inside = omega (arith, below, length-map vs items)

  pub lengths-more : sum_by length (take i (map items vs)) + length (items v) ≡ sum_by length (take (i + 1) (map items vs))
  lengths-more = sum-more length (map items vs) i (items v) inside mapped

  pub lengths-below : sum_by length (take i (map items vs)) + length (items v) ≤ sum_by length (map items vs)
  lengths-below = sum-below length (map items vs) i (items v) inside mapped

-- a sum of at most a million numbers fits, where each is at most 16
pub sum-fits : {X : Type 0} (f : X → ℕ) (xs : List X) → length xs ≤ 1000000 → All (λ x. f x ≤ 16) xs → sum_by f xs < 2 ^ 64
sum-fits f xs many each = omega (arith, sum_by-le f 16 xs each, many)
