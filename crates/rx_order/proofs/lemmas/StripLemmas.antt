-- What is left of an expression, and then the literal that was taken off, is what the expression means.
use Rattle.std.proofs.Common.{◌≡◌, ℕ, zero, suc, ◌+◌, ◌-◌, ◌≤◌, ◌⊎◌, Bool, true, List, [], ◌∷◌, ◌++◌, length, take, Option, Some, None, refl, sym, ap, subst, ◌∙◌, inl, inr, arith, append_assoc, append-nil, length-append}
use Rattle.std.specs.Prelude.{nat_eq, ◌&&◌, option_map, IfSome}
use Rattle.std.specs.List.{ends_with}
use Rattle.std.proofs.lemmas.Bool.{and_parts}
use Rattle.std.proofs.lemmas.Bool.Decides.{Decides-eqb}
use Rattle.std.proofs.lemmas.Option.{none-some, same_Some}
use Rattle.std.proofs.lemmas.Slice.Eq.{ends_is}
use Rattle.rx_model.specs.Text.{stands_at}
use Rattle.rx_model.specs.Expression.{Expression, Expressions, empty, literal, class, look, repetition, capture, concat, alternation, nil, cons, AreOrdered, AllOrdered}
use Rattle.rx_model.specs.Meaning.{Pieces, IsCount, Means, MeansInTurn}
use Rattle.rx_model.proofs.lemmas.runs.RunLemmas.{by_test}
use Rattle.rx_hir.specs.Normal.{literal_of, repetition_of, concat_of, expressions}
use Rattle.rx_hir.proofs.RowLemmas.{Same, same-itself, same-then, concat-means}
use Rattle.rx_hir.proofs.CopiesLemmas.{literal-means, repetition-means}
use Rattle.rx_order.specs.Order.{IsThenLiteral}
use Rattle.rx_order.specs.Tests.{is_not_empty}
use Rattle.rx_order.specs.Strip.{Left, unless_empty, strip_bytes, one_less, finish, strip_copies, strip, strip_row, only_whole, strip_literal_suffix}
use Rattle.rx_order.proofs.lemmas.Ends.{Then, IsNothing, ThenLiteral, Ends, stands-join, stands-split, ends-none, ends-same, ends-both, ends-last}

-- some of the suffix was taken off A; where some is left, nothing is left of A
abbrev IsStripped : List ℕ → (A X : ℕ → ℕ → Type 0) → (s rest : List ℕ) → Type 0
IsStripped text A X s rest = (took : List ℕ) × (s ≡ rest ++ took) × Ends text A X took × ((rest ≡ []) ⊎ IsNothing X)

same-back : (R S : ℕ → ℕ → Type 0) → Same R S → Same S R
same-back R S a i j = ((a i j).1, (a i j).0)

nothing-same : (X Y : ℕ → ℕ → Type 0) → Same X Y → IsNothing X → IsNothing Y
nothing-same X Y a none i j = (λ m. (none i j).0 ((a i j).1 m), λ e. (a i j).0 ((none i j).1 e))

stripped-same : (text : List ℕ) (A B X Y : ℕ → ℕ → Type 0) (s rest : List ℕ) → Same A B → Same X Y → IsStripped text A X s rest → IsStripped text B Y s rest
stripped-same text A B X Y s rest a x h = (h.0, h.1, ends-same text A B X Y h.0 a x h.2, elim h.3 [ inl e ↦ inl e | inr none ↦ inr (nothing-same X Y x none) ])

-- a part after which others were stripped
stripped-then : (text : List ℕ) (A B X Y : ℕ → ℕ → Type 0) (s middle rest : List ℕ) → IsStripped text B Y s middle → IsStripped text A X middle rest
    → IsStripped text (Then A B) (Then X Y) s rest
stripped-then text A B X Y s middle rest later first =
    let took = first.0 ++ later.0 in
    let whole : s ≡ rest ++ took = later.1 ∙ ap (λ bs. bs ++ later.0) first.1 ∙ append_assoc rest first.0 later.0 in
    elim later.3 [
      | inl none ↦
          let parts = both-empty rest first.0 (sym none ∙ first.1) in
          let ends : Ends text A X [] = subst (Ends text A X) parts.1 first.2 in
          let same : Same A X = whole-same text A X ends in (
            took,
            whole,
            subst (λ r. Ends text (Then A B) (Then X Y) (r ++ later.0)) (sym parts.1)
                (ends-same text (Then A B) (Then A B) (Then A Y) (Then X Y) later.0 (same-itself (Then A B)) (then-same A X Y same)
                (ends-last text A B Y later.0 later.2)),
            inl parts.0,
          )
      | inr none ↦ (
        took,
        whole,
        ends-both text A B X Y first.0 later.0 first.2 later.2 none,
        elim first.3 [
          | inl e ↦ inl e
          | inr nothing ↦ inr (then-nothing X Y nothing none)
        ],
      )
    ]
  where
    both-empty : (a b : List ℕ) → [] ≡ a ++ b → (a ≡ []) × (b ≡ [])
    both-empty [] b e = (refl, sym e)
    both-empty (x ∷ a) b e = absurd (let n : 0 ≡ suc (length (a ++ b)) = ap length e in omega arith)

    whole-same : (text : List ℕ) (A X : ℕ → ℕ → Type 0) → Ends text A X [] → Same A X
    whole-same text A X ends i j = (
      λ m. let z = (ends i j).0 m in let e : z.0 ≡ j = (let x = z.3 in omega arith) in subst (X i) e z.1,
      λ m. (ends i j).1 ((ends-none text X i j).0 m),
    )

    then-same : (A X Y : ℕ → ℕ → Type 0) → Same A X → Same (Then A Y) (Then X Y)
    then-same A X Y same i j = (λ m. (m.0, (same i m.0).0 m.1, m.2), λ m. (m.0, (same i m.0).1 m.1, m.2))

    then-nothing : (X Y : ℕ → ℕ → Type 0) → IsNothing X → IsNothing Y → IsNothing (Then X Y)
    then-nothing X Y x y i j = (λ m. (x i m.0).0 m.1 ∙ (y m.0 j).0 m.2, λ e. (i, (x i i).1 refl, (y i j).1 e))

module _ (t : ℕ) (text : List ℕ) where
  abbrev M : Expression → ℕ → ℕ → Type 0
  M h i j = Means t text h i j

  abbrev Row : List Expression → ℕ → ℕ → Type 0
  Row hs i j = MeansInTurn t text (expressions hs) i j

  -- what the first expression means is the second's, stripped
  abbrev Is : (h : Expression) (s : List ℕ) → Expression × List ℕ → Type 0
  Is h s left = IsStripped text (M h) (M left.0) s left.1

  is-whole : (h : Expression) → Is h [] (h, [])
  is-whole h = ([], refl, ends-none text (M h), inl refl)

  -- an empty suffix takes nothing off
  by_suffix : (h : Expression) (s : List ℕ) (r : Left) (left : Expression × List ℕ) → ((l : Expression × List ℕ) → r ≡ Some l → Is h s l)
      → unless_empty s h r ≡ Some left → Is h s left
  by_suffix h [] r left each e = subst (Is h []) (same_Some {A = Expression × List ℕ} (h, []) left e) (is-whole h)
  by_suffix h (b ∷ s) r left each e = each left e

  refused : (h : Expression) (s : List ℕ) (l : Expression × List ℕ) → None ≡ Some l → Is h s l
  refused h s l e = absurd (none-some l e)

  -- Literals.

  literal-ends : (front s : List ℕ) → Ends text (M (literal (front ++ s))) (M (literal front)) s
  unfolding Means
  literal-ends front s i j =
      let long = length-append front s in (
        λ m. let z = stands-split text i front s m.0 in let ends = m.1 in (i + length front, (z.0, refl), z.1, omega arith),
        λ m. (stands-join text i front s m.1.0 (subst (λ d. stands_at text d s ≡ true) (sym m.1.1) m.2), (let e = m.1.1 in let ends = m.3 in omega arith)),
      )

  literal-whole : (bytes : List ℕ) → Ends text (M (literal bytes)) (M empty) bytes
  unfolding Means
  literal-whole bytes i j =
      (λ m. (i, refl, m.0, m.1), λ m. (subst (λ d. stands_at text d bytes ≡ true) (sym m.1) m.2, (let e = m.1 in let f = m.3 in omega arith)))

  empty-nothing : IsNothing (M empty)
  unfolding Means
  empty-nothing i j = (λ m. m, λ e. e)

  bytes-means : (bytes s : List ℕ) (left : Expression × List ℕ) → strip_bytes bytes s ≡ Some left → Is (literal bytes) s left
  bytes-means bytes s left e =
      by_test (ends_with nat_eq bytes s)
      (λ ends.
      let front = take (length bytes - length s) bytes in
      let whole : bytes ≡ front ++ s = (ends_is Decides-eqb bytes s true (sym ends)).0 refl in
      let is : (literal_of front, []) ≡ left = same_Some {A = Expression × List ℕ} (literal_of front, []) left (rw ends at e) in
      subst (Is (literal bytes) s) is (
        s,
        refl,
        ends-same text (M (literal (front ++ s))) (M (literal bytes)) (M (literal front)) (M (literal_of front)) s
            (subst (λ bs. Same (M (literal (front ++ s))) (M (literal bs))) (sym whole) (same-itself (M (literal (front ++ s)))))
            (same-back (M (literal_of front)) (M (literal front)) (literal-means t text front)) (literal-ends front s),
        inl refl,
      ))
      (λ not.
      by_test (is_not_empty bytes && ends_with nat_eq s bytes)
      (λ ends.
      let both = and_parts (is_not_empty bytes) (ends_with nat_eq s bytes) ends in
      let front = take (length s - length bytes) s in
      let whole : s ≡ front ++ bytes = (ends_is Decides-eqb s bytes true (sym both.1)).0 refl in
      let is : (empty, front) ≡ left = same_Some {A = Expression × List ℕ} (empty, front) left (rw ends at (rw not at e)) in
      subst (Is (literal bytes) s) is (bytes, whole, literal-whole bytes, inr empty-nothing))
      (λ no-ends. absurd (none-some left (rw no-ends at (rw not at e)))))

  -- Copies.

  pieces-last : (R : ℕ → ℕ → Type 0) (n i j : ℕ) → Pieces R (suc n) i j → Then (Pieces R n) R i j
  pieces-last R zero i j h = (i, refl, subst (R i) h.2 h.1)
  pieces-last R (suc n) i j h = let z = pieces-last R n h.0 j h.2 in (z.0, (h.0, h.1, z.1), z.2)

  pieces-more : (R : ℕ → ℕ → Type 0) (n i j : ℕ) → Then (Pieces R n) R i j → Pieces R (suc n) i j
  pieces-more R zero i j h = (j, subst (λ d. R d j) (sym h.1) h.2, refl)
  pieces-more R (suc n) i j h = (h.1.0, h.1.1, pieces-more R n h.1.0 j (h.0, h.1.2, h.2))

  fewer : (max : Option ℕ) (n : ℕ) → IfSome max (λ m. suc n ≤ m) → IfSome (one_less max) (λ m. n ≤ m)
  fewer None n h = tt
  fewer (Some m) n h = omega arith

  more : (max : Option ℕ) (least n : ℕ) → IfSome max (λ m. suc least ≤ m) → IfSome (one_less max) (λ m. n ≤ m) → IfSome max (λ m. suc n ≤ m)
  more None least n ordered h = tt
  more (Some m) least n ordered h = omega arith

  one-copy : (least : ℕ) (max : Option ℕ) (greedy : Bool) (sub : Expression) → IfSome max (λ m. suc least ≤ m)
      → Same (Then (M (repetition least (one_less max) greedy sub)) (M sub)) (M (repetition (suc least) max greedy sub))
  unfolding Means
  one-copy least max greedy sub ordered i j = (
    λ m.
        let n = m.1.0 in
        let low = m.1.1.0 in
        (suc n, (omega arith, more max least n ordered m.1.1.1), pieces-more (Means t text sub) n i j (m.0, m.1.2, m.2)),
    λ m. split m.0 m.1 m.2,
  )
    where
      split : (n : ℕ) → IsCount (suc least) max n → Pieces (Means t text sub) n i j → Then (M (repetition least (one_less max) greedy sub)) (M sub) i j
      split zero count h = absurd (let low = count.0 in omega arith)
      split (suc n) count h =
          let z = pieces-last (Means t text sub) n i j h in
          let low = count.0 in
          (z.0, (n, (omega arith, fewer max n count.1), z.1), z.2)

  two-parts : (g h : Expression) → Same (Then (M g) (M h)) (M (concat_of (g ∷ h ∷ [])))
  unfolding Means
  two-parts g h =
      same-then (Then (M g) (M h)) (M (concat (expressions (g ∷ h ∷ [])))) (M (concat_of (g ∷ h ∷ [])))
      (λ i j. (λ m. (m.0, m.1, (j, m.2, refl)), λ m. (m.0, m.1, subst (Means t text h m.0) m.2.2 m.2.1)))
      (same-back (M (concat_of (g ∷ h ∷ []))) (M (concat (expressions (g ∷ h ∷ [])))) (concat-means t text (g ∷ h ∷ [])))

  then-left : (A B C : ℕ → ℕ → Type 0) → Same A B → Same (Then A C) (Then B C)
  then-left A B C same i j = (λ m. (m.0, (same i m.0).0 m.1, m.2), λ m. (m.0, (same i m.0).1 m.1, m.2))

  then-none : (X Y : ℕ → ℕ → Type 0) → IsNothing Y → Same (Then X Y) X
  then-none X Y none i j = (λ m. subst (X i) ((none m.0 j).0 m.2) m.1, λ m. (j, m, (none j j).1 refl))

  by_some : {A : Type 0} {P : Type 0} (o : Option A) → ((x : A) → o ≡ Some x → P) → (o ≡ None → P) → P
  by_some None some none = none refl
  by_some (Some x) some none = some x refl

  last-copy : (sub : Expression) (least : ℕ) (max : Option ℕ) (greedy : Bool) → IfSome max (λ m. suc least ≤ m) → (s : List ℕ) (left : Expression × List ℕ)
      → (again : List ℕ → Left) → ((r : List ℕ) → again r ≡ Some left → Is (repetition least (one_less max) greedy sub) r left)
      → (h : Expression) (rest : List ℕ) → Is sub s (h, rest) → finish again (repetition_of least (one_less max) greedy sub) h rest ≡ Some left
      → Is (repetition (suc least) max greedy sub) s left
  last-copy sub least max greedy ordered s left again each h [] is e =
      let A = M (repetition least (one_less max) greedy sub) in
      let B = M (repetition_of least (one_less max) greedy sub) in
      let whole : IsStripped text A A [] [] = ([], refl, ends-none text A, inl refl) in
      let here = stripped-then text A (M sub) A (M h) s [] [] is whole in
      let same : Same A B = same-back B A (repetition-means t text least (one_less max) greedy sub (fewer max least ordered)) in
      subst (Is (repetition (suc least) max greedy sub) s)
      (same_Some {A = Expression × List ℕ} (concat_of (repetition_of least (one_less max) greedy sub ∷ h ∷ []), []) left e)
      (stripped-same text (Then A (M sub)) (M (repetition (suc least) max greedy sub)) (Then A (M h))
      (M (concat_of (repetition_of least (one_less max) greedy sub ∷ h ∷ []))) s []
      (one-copy least max greedy sub ordered)
      (same-then (Then A (M h)) (Then B (M h)) (M (concat_of (repetition_of least (one_less max) greedy sub ∷ h ∷ []))) (then-left A B (M h) same)
      (two-parts (repetition_of least (one_less max) greedy sub) h))
      here)
  last-copy sub least max greedy ordered s left again each h (b ∷ rest) is e =
      let A = M (repetition least (one_less max) greedy sub) in
      let none : IsNothing (M h) = elim is.3 [ inl e ↦ absurd (let n : suc (length rest) ≡ 0 = ap length e in omega arith) | inr none ↦ none ] in
      let here = stripped-then text A (M sub) (M left.0) (M h) s (b ∷ rest) left.1 is (each (b ∷ rest) e) in
      stripped-same text (Then A (M sub)) (M (repetition (suc least) max greedy sub)) (Then (M left.0) (M h)) (M left.0) s left.1
      (one-copy least max greedy sub ordered) (then-none (M left.0) (M h) none) here

  copies-means : (sub : Expression) (strip_one : List ℕ → Left) → ((s : List ℕ) (left : Expression × List ℕ) → strip_one s ≡ Some left → Is sub s left)
      → (least : ℕ) (max : Option ℕ) (greedy : Bool) → IfSome max (λ m. least ≤ m) → (s : List ℕ) (left : Expression × List ℕ)
      → strip_copies strip_one least max greedy sub s ≡ Some left
      → Is (repetition least max greedy sub) s left
  unfolding strip_copies
  copies-means sub strip_one each zero max greedy ordered s left e = absurd (none-some left e)
  copies-means sub strip_one each (suc least) max greedy ordered s left e =
      by_some (strip_one s)
      (λ l is. last-copy sub least max greedy ordered s left (λ r. strip_copies strip_one least (one_less max) greedy sub r)
      (λ r f. copies-means sub strip_one each least (one_less max) greedy (fewer max least ordered) r left f) l.0 l.1 (each s l is) (rw is at e))
      (λ none. absurd (none-some left (rw none at e)))

  -- Rows.

  abbrev IsRow : (hs : Expressions) (s : List ℕ) → List Expression × List ℕ → Type 0
  IsRow hs s left = IsStripped text (MeansInTurn t text hs) (Row left.0) s left.1

  row-none : (s : List ℕ) → IsRow nil s ([], s)
  unfolding Means
  row-none s = ([], sym (append-nil s), ends-none text (Row []), inr (λ i j. (λ m. m, λ e. e)))

  row-then : (sub : Expression) (subs : Expressions) (s : List ℕ) (later : List Expression × List ℕ) (first : Expression × List ℕ) → IsRow subs s later
      → Is sub later.1 first → IsRow (cons sub subs) s (first.0 ∷ later.0, first.1)
  unfolding Means
  row-then sub subs s later first rest is = stripped-then text (M sub) (MeansInTurn t text subs) (M first.0) (Row later.0) s later.1 first.1 rest is

  row-whole : (subs : Expressions) (s : List ℕ) (left : List Expression × List ℕ) → IsRow subs s left → Is (concat subs) s (concat_of left.0, left.1)
  unfolding Means
  row-whole subs s left is =
      stripped-same text (MeansInTurn t text subs) (M (concat subs)) (Row left.0) (M (concat_of left.0)) s left.1 (same-itself (M (concat subs)))
      (same-back (M (concat_of left.0)) (M (concat (expressions left.0))) (concat-means t text left.0)) is

  capture-whole : (group : ℕ) (name : Option (List ℕ)) (sub : Expression) (s : List ℕ) (left : Expression × List ℕ) → Is sub s left
      → Is (capture group name sub) s left
  unfolding Means
  capture-whole group name sub s left is = is

  mutual
    unfolding strip AreOrdered

    pub strip-means : (h : Expression) → AreOrdered h → (s : List ℕ) (left : Expression × List ℕ) → strip h s ≡ Some left → Is h s left
    strip-means empty ordered s left e = by_suffix empty s None left (refused empty s) e
    strip-means (literal bytes) ordered s left e = by_suffix (literal bytes) s (strip_bytes bytes s) left (λ l f. bytes-means bytes s l f) e
    strip-means (class members) ordered s left e = by_suffix (class members) s None left (refused (class members) s) e
    strip-means (look kind) ordered s left e = by_suffix (look kind) s None left (refused (look kind) s) e
    strip-means (repetition least max greedy sub) ordered s left e =
        by_suffix (repetition least max greedy sub) s (strip_copies (λ r. strip sub r) least max greedy sub s) left
        (λ l f. copies-means sub (λ r. strip sub r) (λ r q g. strip-means sub ordered.1 r q g) least max greedy ordered.0 s l f) e
    strip-means (capture group name sub) ordered s left e =
        by_suffix (capture group name sub) s (strip sub s) left (λ l f. capture-whole group name sub s l (strip-means sub ordered s l f)) e
    strip-means (concat subs) ordered s left e =
        by_suffix (concat subs) s (option_map (λ left. (concat_of left.0, left.1)) (strip_row subs s)) left
        (λ l f. by_some (strip_row subs s)
        (λ q g. subst (Is (concat subs) s) (same_Some {A = Expression × List ℕ} (concat_of q.0, q.1) l (rw g at f))
        (row-whole subs s q (strip-row-means subs ordered s q g)))
        (λ none. absurd (none-some l (rw none at f)))) e
    strip-means (alternation subs) ordered s left e = by_suffix (alternation subs) s None left (refused (alternation subs) s) e

    strip-row-means : (hs : Expressions) → AllOrdered hs → (s : List ℕ) (left : List Expression × List ℕ) → strip_row hs s ≡ Some left → IsRow hs s left
    strip-row-means nil ordered s left e = subst (IsRow nil s) (same_Some {A = List Expression × List ℕ} ([], s) left e) (row-none s)
    strip-row-means (cons sub subs) ordered s left e =
        by_some (strip_row subs s)
        (λ later f. by_some (strip sub later.1)
        (λ first g. subst (IsRow (cons sub subs) s) (same_Some {A = List Expression × List ℕ} (first.0 ∷ later.0, first.1) left (rw g at (rw f at e)))
        (row-then sub subs s later first (strip-row-means subs ordered.1 s later f) (strip-means sub ordered.0 later.1 first g)))
        (λ none. absurd (none-some left (rw none at (rw f at e)))))
        (λ none. absurd (none-some left (rw none at e)))

-- The expression is what is left of it and then the suffix.
pub strip-then : (h x : Expression) (s : List ℕ) → AreOrdered h → strip_literal_suffix h s ≡ Some x → IsThenLiteral h x s
strip-then h x s ordered e t text i j =
    by_some t text (strip h s)
    (λ l f. whole l.0 l.1 (strip-means t text h ordered s l f) (rw f at e))
    (λ none. absurd (none-some x (rw none at e)))
  where
    whole : (g : Expression) (rest : List ℕ) → IsStripped text (λ i j. Means t text h i j) (λ i j. Means t text g i j) s rest
        → only_whole (Some (g, rest)) ≡ Some x
        → (Means t text h i j → ThenLiteral text (λ i j. Means t text x i j) s i j) × (ThenLiteral text (λ i j. Means t text x i j) s i j → Means t text h i j)
    whole g [] is e =
        let same : g ≡ x = same_Some g x e in
        let ends : Ends text (λ i j. Means t text h i j) (λ i j. Means t text g i j) s =
        subst (Ends text (λ i j. Means t text h i j) (λ i j. Means t text g i j)) (sym is.1) is.2 in
        subst (λ d. (Means t text h i j → ThenLiteral text (λ i j. Means t text d i j) s i j)
        × (ThenLiteral text (λ i j. Means t text d i j) s i j → Means t text h i j)) same (ends i j)
    whole g (b ∷ rest) is e = absurd (none-some x e)
