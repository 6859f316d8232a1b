-- The order of epsilon walks in which a depth-first search comes to them.
use Rattle.std.specs.Prelude.{◌≡◌, ℕ, zero, suc, ◌<◌, ◌⊎◌, List, [], ◌∷◌, ◌++◌, Contains}
use Rattle.rx_nfa.specs.Walks.{IsPreferred}

-- the first walk comes before: it is preferred, or the other one goes on from it
abbrev pub Precedes : List ℕ → List ℕ → Type 0
Precedes [] [] = ⊥
Precedes [] (k ∷ ks) = Unit {0}
Precedes (j ∷ js) [] = ⊥
Precedes (j ∷ js) (k ∷ ks) = (j < k) ⊎ ((j ≡ k) × Precedes js ks)

-- each of the walks is preferred to those behind it
abbrev pub AreInOrder : List (List ℕ) → Type 0
AreInOrder [] = Unit {0}
AreInOrder (way ∷ ways) = ((other : List ℕ) → Contains ways other → IsPreferred way other) × AreInOrder ways

-- the walks that go on from this one by one choice: by the n choices from k on
abbrev pub going_on : (way : List ℕ) → (k n : ℕ) → List (List ℕ)
going_on way k zero = []
going_on way k (suc n) = (way ++ k ∷ []) ∷ going_on way (suc k) n

-- the walk is one of these, or goes on from one of them
pub record GoesOnFrom (ways : List (List ℕ)) (way : List ℕ) : Type 0 where
  pub from : List ℕ
  pub among : Contains ways from
  pub rest : List ℕ
  pub is : way ≡ from ++ rest
