-- A relation that ends with a literal: how such relations join.
use Rattle.std.proofs.Common.{◌≡◌, ℕ, ◌+◌, true, List, [], ◌∷◌, ◌++◌, length, drop, refl, sym, ap, subst, ◌∙◌, arith, drop-drop, length-append, append_assoc}
use Rattle.rx_model.specs.Text.{stands_at}
use Rattle.rx_model.proofs.lemmas.meaning.CharLemmas.{stands_at_parts, stands_at_from}
use Rattle.rx_hir.proofs.RowLemmas.{Same}

drop-all : (xs ys : List ℕ) → drop (length xs) (xs ++ ys) ≡ ys
drop-all [] ys = refl
drop-all (x ∷ xs) ys = drop-all xs ys

-- one relation and then the other
abbrev pub Then : (A B : ℕ → ℕ → Type 0) → ℕ → ℕ → Type 0
Then A B i j = (k : ℕ) × A i k × B k j

-- it leads nowhere else, and there from everywhere
abbrev pub IsNothing : (ℕ → ℕ → Type 0) → Type 0
IsNothing X = (i j : ℕ) → (X i j → i ≡ j) × (i ≡ j → X i j)

module _ (text : List ℕ) where
  -- first X, and then the literal
  abbrev pub ThenLiteral : (ℕ → ℕ → Type 0) → List ℕ → ℕ → ℕ → Type 0
  ThenLiteral X s i j = (c : ℕ) × X i c × (stands_at text c s ≡ true) × (c + length s ≡ j)

  abbrev pub Ends : (A X : ℕ → ℕ → Type 0) → List ℕ → Type 0
  Ends A X s = (i j : ℕ) → (A i j → ThenLiteral X s i j) × (ThenLiteral X s i j → A i j)

  nothing-stands : (c : ℕ) → stands_at text c [] ≡ true
  nothing-stands c = stands_at_from text c [] (drop c text) refl

  pub stands-join : (c : ℕ) (r s : List ℕ) → stands_at text c r ≡ true → stands_at text (c + length r) s ≡ true → stands_at text c (r ++ s) ≡ true
  stands-join c r s first later =
      let rest = drop (c + length r + length s) text in
      stands_at_from text c (r ++ s) rest (stands_at_parts text c r first ∙ ap (λ bs. r ++ bs) (stands_at_parts text (c + length r) s later)
      ∙ sym (append_assoc r s rest))

  pub stands-split : (c : ℕ) (r s : List ℕ) → stands_at text c (r ++ s) ≡ true → (stands_at text c r ≡ true) × (stands_at text (c + length r) s ≡ true)
  stands-split c r s whole =
      let rest = drop (c + length (r ++ s)) text in
      let goes : drop c text ≡ r ++ (s ++ rest) = stands_at_parts text c (r ++ s) whole ∙ append_assoc r s rest in
      let goes' : drop (c + length r) text ≡ s ++ rest = sym (drop-drop (length r) c text) ∙ ap (drop (length r)) goes ∙ drop-all r (s ++ rest) in
      (stands_at_from text c r (s ++ rest) goes, stands_at_from text (c + length r) s rest goes')

  -- nothing is taken off
  pub ends-none : (A : ℕ → ℕ → Type 0) → Ends A A []
  ends-none A i j = (
    λ m. (j, m, nothing-stands j, omega arith),
    λ m. (let e : m.0 ≡ j = (let x = m.3 in omega arith) in subst (A i) e m.1),
  )

  pub ends-same : (A B X Y : ℕ → ℕ → Type 0) (s : List ℕ) → Same A B → Same X Y → Ends A X s → Ends B Y s
  ends-same A B X Y s a x ends i j = (
    λ m. let z = (ends i j).0 ((a i j).1 m) in (z.0, (x i z.0).0 z.1, z.2, z.3),
    λ m. (a i j).0 ((ends i j).1 (m.0, (x i m.0).1 m.1, m.2, m.3)),
  )

  -- the whole of the second is taken off, and some of the first
  pub ends-both : (A B X Y : ℕ → ℕ → Type 0) (r s : List ℕ) → Ends A X r → Ends B Y s → IsNothing Y → Ends (Then A B) (Then X Y) (r ++ s)
  ends-both A B X Y r s a b none i j = (
    λ m.
        let x = (a i m.0).0 m.1 in
        let y = (b m.0 j).0 m.2 in
        let at : m.0 ≡ y.0 = (none m.0 y.0).0 y.1 in
        let here : y.0 ≡ x.0 + length r = sym at ∙ sym x.3 in
        let long = length-append r s in
        let ends = y.3 in
        (x.0, (x.0, x.1, (none x.0 x.0).1 refl), stands-join x.0 r s x.2 (subst (λ d. stands_at text d s ≡ true) here y.2), omega arith),
    λ m.
        let at : m.1.0 ≡ m.0 = (none m.1.0 m.0).0 m.1.2 in
        let stands = stands-split m.0 r s m.2 in
        let long = length-append r s in
        let ends = m.3 in
        let k = m.0 + length r in
        (k, (a i k).1 (m.0, subst (X i) at m.1.1, stands.0, refl), (b k j).1 (k, (none k k).1 refl, stands.1, omega arith)),
  )

  -- some of the second is taken off, and none of the first
  pub ends-last : (A B Y : ℕ → ℕ → Type 0) (s : List ℕ) → Ends B Y s → Ends (Then A B) (Then A Y) s
  ends-last A B Y s b i j = (
    λ m. let y = (b m.0 j).0 m.2 in (y.0, (m.0, m.1, y.1), y.2, y.3),
    λ m. (m.1.0, m.1.1, (b m.1.0 j).1 (m.0, m.1.2, m.2, m.3)),
  )
