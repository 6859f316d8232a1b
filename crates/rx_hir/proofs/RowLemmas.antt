-- Normal forms of concatenations and alternations mean what their parts mean.
use Rattle.std.proofs.Common.{◌≡◌, ℕ, ◌+◌, ◌⊎◌, List, [], ◌∷◌, ◌++◌, length, drop, flat_map, refl, sym, ap, ◌∙◌, subst, inl, inr, arith, append_assoc, length-append, true≢false}
use Rattle.rx_model.specs.Expression.{Expression, Expressions, empty, literal, class, look, repetition, capture, concat, alternation, nil, cons}
use Rattle.rx_model.specs.Meaning.{Means, MeansInTurn, MeansOne}
use Rattle.rx_model.proofs.lemmas.meaning.CharLemmas.{stands_at_parts, stands_at_from, byte_len-is}
use Rattle.rx_hir.specs.Normal.{fail, list_of, expressions, parts_of, join_literals, joined, sequence_of, concat_of, alternatives_of, choice_of, alternation_of}

-- two relations of places are one
abbrev pub Same : (R S : ℕ → ℕ → Type 0) → Type 0
Same R S = (i j : ℕ) → (R i j → S i j) × (S i j → R i j)

pub same-itself : (R : ℕ → ℕ → Type 0) → Same R R
same-itself R i j = (λ m. m, λ m. m)

pub same-then : (R S T : ℕ → ℕ → Type 0) → Same R S → Same S T → Same R T
same-then R S T a b i j = (λ m. (b i j).0 ((a i j).0 m), λ m. (a i j).1 ((b i j).1 m))

pub expressions-list_of : (hs : Expressions) → expressions (list_of hs) ≡ hs
expressions-list_of nil = refl
expressions-list_of (cons h hs) = ap (cons h) (expressions-list_of hs)

module _ (terminator : ℕ) (text : List ℕ) where
  -- parts in a row, and one of some
  abbrev Row : List Expression → ℕ → ℕ → Type 0
  Row hs i j = MeansInTurn terminator text (expressions hs) i j

  abbrev One : List Expression → ℕ → ℕ → Type 0
  One hs i j = MeansOne terminator text (expressions hs) i j

  -- Concatenations.

  row-one : (h : Expression) → Same (Row (h ∷ [])) (Means terminator text h)
  unfolding Means
  row-one h i j = (λ m. subst (Means terminator text h i) m.2 m.1, λ m. (j, m, refl))

  row-cons : (h : Expression) (xs ys : List Expression) → Same (Row xs) (Row ys) → Same (Row (h ∷ xs)) (Row (h ∷ ys))
  unfolding Means
  row-cons h xs ys same i j = (λ m. (m.0, m.1, (same m.0 j).0 m.2), λ m. (m.0, m.1, (same m.0 j).1 m.2))

  row-split : (xs ys : List Expression) (i j : ℕ) → Row (xs ++ ys) i j → (k : ℕ) × Row xs i k × Row ys k j
  unfolding Means
  row-split [] ys i j m = (i, refl, m)
  row-split (x ∷ xs) ys i j m = let later = row-split xs ys m.0 j m.2 in (later.0, (m.0, m.1, later.1), later.2)

  row-append : (xs ys : List Expression) (i k j : ℕ) → Row xs i k → Row ys k j → Row (xs ++ ys) i j
  unfolding Means
  row-append [] ys i k j first later = subst (λ a. Row ys a j) (sym first) later
  row-append (x ∷ xs) ys i k j first later = (first.0, first.1, row-append xs ys first.0 k j first.2 later)

  row-parts : (h : Expression) → Same (Row (parts_of h)) (Means terminator text h)
  unfolding Means
  row-parts empty = λ i j. (λ m. m, λ m. m)
  row-parts (concat subs) = λ i j. let e = expressions-list_of subs in
      (λ m. subst (λ hs. MeansInTurn terminator text hs i j) e m, λ m. subst (λ hs. MeansInTurn terminator text hs i j) (sym e) m)
  row-parts (literal bytes) = row-one (literal bytes)
  row-parts (class members) = row-one (class members)
  row-parts (look kind) = row-one (look kind)
  row-parts (repetition least greatest greedy sub) = row-one (repetition least greatest greedy sub)
  row-parts (capture group name sub) = row-one (capture group name sub)
  row-parts (alternation subs) = row-one (alternation subs)

  row-flat : (hs : List Expression) → Same (Row (flat_map parts_of hs)) (Row hs)
  unfolding Means
  row-flat [] = λ i j. (λ m. m, λ m. m)
  row-flat (h ∷ hs) = λ i j. (
    λ m. let cut = row-split (parts_of h) (flat_map parts_of hs) i j m in (cut.0, (row-parts h i cut.0).0 cut.1, (row-flat hs cut.0 j).0 cut.2),
    λ m. row-append (parts_of h) (flat_map parts_of hs) i m.0 j ((row-parts h i m.0).1 m.1) ((row-flat hs m.0 j).1 m.2),
  )

  literal-split : (a b : List ℕ) (i j : ℕ) → Means terminator text (literal (a ++ b)) i j
      → (k : ℕ) × Means terminator text (literal a) i k × Means terminator text (literal b) k j
  unfolding Means
  literal-split a b i j m =
      let rest = drop (i + length (a ++ b)) text in
      let whole : drop i text ≡ a ++ (b ++ rest) = stands_at_parts text i (a ++ b) m.0 ∙ append_assoc a b rest in
      let first = stands_at_from text i a (b ++ rest) whole in
      let later : drop (i + length a) text ≡ b ++ rest = after a (b ++ rest) (drop i text) (drop (i + length a) text) whole (stands_at_parts text i a first) in
      let long = length-append a b in
      let ends = m.1 in
      (i + length a, (first, refl), (stands_at_from text (i + length a) b rest later, omega arith))
    where
      after : (a xs whole ys : List ℕ) → whole ≡ a ++ xs → whole ≡ a ++ ys → ys ≡ xs
      after a xs whole ys e f = same-rest a ys xs (sym f ∙ e)
        where
          same-rest : (a ys xs : List ℕ) → a ++ ys ≡ a ++ xs → ys ≡ xs
          same-rest [] ys xs e = e
          same-rest (x ∷ a) ys xs e = same-rest a ys xs (ap (drop 1) e)

  literal-join : (a b : List ℕ) (i k j : ℕ) → Means terminator text (literal a) i k → Means terminator text (literal b) k j
      → Means terminator text (literal (a ++ b)) i j
  unfolding Means
  literal-join a b i k j first later =
      let place = first.1 in
      let ends = later.1 in
      let long = length-append a b in
      let rest = drop (k + length b) text in
      let whole : drop i text ≡ (a ++ b) ++ rest =
      stands_at_parts text i a first.0 ∙ ap (λ n. a ++ drop n text) place ∙ ap (λ bs. a ++ bs) (stands_at_parts text k b later.0)
      ∙ sym (append_assoc a b rest) in
      (stands_at_from text i (a ++ b) rest whole, omega arith)

  row-join : (h : Expression) (hs : List Expression) → Same (Row (join_literals h hs)) (Row (h ∷ hs))
  unfolding Means
  row-join (literal a) (literal b ∷ hs) = λ i j. (
    λ m. let cut = literal-split a b i m.0 m.1 in (cut.0, cut.1, (m.0, cut.2, m.2)),
    λ m. (m.2.0, literal-join a b i m.0 m.2.0 m.1 m.2.1, m.2.2),
  )
  row-join h hs = λ i j. (λ m. m, λ m. m)

  row-joined : (hs : List Expression) → Same (Row (joined hs)) (Row hs)
  unfolding Means
  row-joined [] = λ i j. (λ m. m, λ m. m)
  row-joined (h ∷ hs) =
      same-then (Row (join_literals h (joined hs))) (Row (h ∷ joined hs)) (Row (h ∷ hs)) (row-join h (joined hs)) (row-cons h (joined hs) hs (row-joined hs))

  row-sequence : (hs : List Expression) → Same (Means terminator text (sequence_of hs)) (Row hs)
  unfolding Means
  row-sequence [] = λ i j. (λ m. m, λ m. m)
  row-sequence (h ∷ []) = λ i j. ((row-one h i j).1, (row-one h i j).0)
  row-sequence (h ∷ g ∷ hs) = λ i j. (λ m. m, λ m. m)

  pub concat-means : (hs : List Expression) → Same (Means terminator text (concat_of hs)) (Means terminator text (concat (expressions hs)))
  unfolding Means
  concat-means hs =
      let parts = flat_map parts_of hs in
      same-then (Means terminator text (concat_of hs)) (Row (joined parts)) (Row hs) (row-sequence (joined parts))
      (same-then (Row (joined parts)) (Row parts) (Row hs) (row-joined parts) (row-flat hs))

  -- Alternations.

  one-one : (h : Expression) → Same (One (h ∷ [])) (Means terminator text h)
  unfolding Means
  one-one h i j = (λ m. elim m [ inl is ↦ is | inr is ↦ absurd is ], λ m. inl m)

  one-split : (xs ys : List Expression) (i j : ℕ) → One (xs ++ ys) i j → One xs i j ⊎ One ys i j
  unfolding Means
  one-split [] ys i j m = inr m
  one-split (x ∷ xs) ys i j m =
      elim m [
        | inl is ↦ inl (inl is)
        | inr is ↦ elim (one-split xs ys i j is) [ inl a ↦ inl (inr a) | inr b ↦ inr b ]
      ]

  one-first : (xs ys : List Expression) (i j : ℕ) → One xs i j → One (xs ++ ys) i j
  unfolding Means
  one-first [] ys i j m = absurd m
  one-first (x ∷ xs) ys i j m = elim m [ inl is ↦ inl is | inr is ↦ inr (one-first xs ys i j is) ]

  one-later : (xs ys : List Expression) (i j : ℕ) → One ys i j → One (xs ++ ys) i j
  unfolding Means
  one-later [] ys i j m = m
  one-later (x ∷ xs) ys i j m = inr (one-later xs ys i j m)

  one-alternatives : (h : Expression) → Same (One (alternatives_of h)) (Means terminator text h)
  unfolding Means
  one-alternatives (alternation subs) = λ i j. let e = expressions-list_of subs in
      (λ m. subst (λ hs. MeansOne terminator text hs i j) e m, λ m. subst (λ hs. MeansOne terminator text hs i j) (sym e) m)
  one-alternatives empty = one-one empty
  one-alternatives (literal bytes) = one-one (literal bytes)
  one-alternatives (class members) = one-one (class members)
  one-alternatives (look kind) = one-one (look kind)
  one-alternatives (repetition least greatest greedy sub) = one-one (repetition least greatest greedy sub)
  one-alternatives (capture group name sub) = one-one (capture group name sub)
  one-alternatives (concat subs) = one-one (concat subs)

  one-flat : (hs : List Expression) → Same (One (flat_map alternatives_of hs)) (One hs)
  unfolding Means
  one-flat [] = λ i j. (λ m. m, λ m. m)
  one-flat (h ∷ hs) = λ i j. (
    λ m. elim (one-split (alternatives_of h) (flat_map alternatives_of hs) i j m) [
      | inl is ↦ inl ((one-alternatives h i j).0 is)
      | inr is ↦ inr ((one-flat hs i j).0 is)
    ],
    λ m. elim m [
      | inl is ↦ one-first (alternatives_of h) (flat_map alternatives_of hs) i j ((one-alternatives h i j).1 is)
      | inr is ↦ one-later (alternatives_of h) (flat_map alternatives_of hs) i j ((one-flat hs i j).1 is)
    ],
  )

  pub fail-means : (i j : ℕ) → Means terminator text fail i j → ⊥
  unfolding Means
  fail-means i j m = let is = byte_len-is text [] i m.0 m.1 in true≢false (sym is.2)

  one-choice : (hs : List Expression) → Same (Means terminator text (choice_of hs)) (One hs)
  unfolding Means
  one-choice [] = λ i j. (λ m. absurd (fail-means i j m), λ m. absurd m)
  one-choice (h ∷ []) = λ i j. ((one-one h i j).1, (one-one h i j).0)
  one-choice (h ∷ g ∷ hs) = λ i j. (λ m. m, λ m. m)

  pub alternation-means : (hs : List Expression) → Same (Means terminator text (alternation_of hs)) (Means terminator text (alternation (expressions hs)))
  unfolding Means
  alternation-means hs =
      let parts = flat_map alternatives_of hs in
      same-then (Means terminator text (alternation_of hs)) (One parts) (One hs) (one-choice parts) (one-flat hs)
