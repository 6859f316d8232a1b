-- Trimmed sequences still begin each match.
use Rattle.std.proofs.Common.{◌≡◌, ℕ, ◌+◌, ◌≤◌, ◌<◌, ◌⊎◌, true, false, List, [], ◌∷◌, ◌++◌, length, take, drop, map, refl, sym, ap, ◌∙◌, subst, inl, inr, arith, true≢false, length-append, append_assoc}
use Rattle.std.specs.Prelude.{nat_lt, nat_le, nat_eq}
use Rattle.std.specs.List.{list_any, list_all, starts_with}
use Rattle.std.proofs.lemmas.Bool.Decides.{Decides-eqb, nat_tests}
use Rattle.std.proofs.lemmas.List.{length-take-le}
use Rattle.std.proofs.lemmas.Slice.Eq.{starts_is}
use Rattle.rx_model.specs.Text.{stands_at}
use Rattle.rx_model.proofs.lemmas.runs.RunLemmas.{by_test}
use Rattle.rx_model.proofs.lemmas.meaning.CharLemmas.{stands_at_parts, stands_at_from}
use Rattle.rx_literal.specs.Literals.{Literal, exact, inexact, Seq, infinite, finite, bytes_of, is_exact, is_empty, cut}
use Rattle.rx_literal.specs.declared.side.Side.TheVariants.{Front as front}
use Rattle.rx_literal.specs.Trim.{has_prefix_in, preferred, few, trimmed_by_preference, comes_before, one_of_both, insert, sorted, trimmed_for_all}
use Rattle.rx_literal.specs.Spans.{Begins, BeginsWith, OneOf, OneIn}
use Rattle.rx_literal.proofs.lemmas.prefixes.OneLemmas.{one-map}
use Rattle.rx_literal.proofs.lemmas.prefixes.BeginLemmas.{stands-take}

-- what holds of a literal holds of each that is its prefix
module _ (P : Literal → Type 0) (shorter : (l e : Literal) → starts_with nat_eq (bytes_of l) (bytes_of e) ≡ true → P l → P e) where
  prefix-one : (earlier : List Literal) (l : Literal) → has_prefix_in earlier l ≡ true → P l → OneOf P earlier
  prefix-one [] l h p = absurd (true≢false (sym h))
  prefix-one (e ∷ es) l h p =
      by_test (starts_with nat_eq (bytes_of l) (bytes_of e))
      (λ is. inl (shorter l e is p))
      (λ not. inr (prefix-one es l (rw not at h) p))

  preferred-keep : (earlier ls : List Literal) → OneOf P ls → OneOf P (preferred earlier ls) ⊎ OneOf P earlier
  unfolding preferred
  preferred-keep earlier [] h = absurd h
  preferred-keep earlier (l ∷ ls) h =
      by_test (has_prefix_in earlier l)
      (λ e. rw e (elim h [
        | inl now ↦ inr (prefix-one earlier l e now)
        | inr later ↦ elim (preferred-keep (l ∷ earlier) ls later) [
          | inl kept ↦ inl kept
          | inr before ↦ elim before [ inl now ↦ inr (prefix-one earlier l e now) | inr older ↦ inr older ]
        ]
      ]))
      (λ e. rw e (elim h [
        | inl now ↦ inl (inl now)
        | inr later ↦ elim (preferred-keep (l ∷ earlier) ls later) [
          | inl kept ↦ inl (inr kept)
          | inr before ↦ elim before [ inl now ↦ inl (inl now) | inr older ↦ inr older ]
        ]
      ]))

  pub preferred-one : (ls : List Literal) → OneOf P ls → OneOf P (preferred [] ls)
  preferred-one ls h = elim (preferred-keep [] ls h) [ inl kept ↦ kept | inr never ↦ absurd never ]

  few-in : ((l : Literal) → P l → P (cut front 3 l)) → (n : ℕ) (ls : List Literal) → OneOf P ls → OneIn P (few n ls)
  unfolding few
  few-in cuts n ls h =
      let short = preferred [] (map (cut front 3) ls) in
      by_test (nat_le (length ls) n)
      (λ e. rw e h)
      (λ e. rw e (by_test (nat_le (length short) n)
      (λ f. rw f (preferred-one (map (cut front 3) ls) (one-map P P (cut front 3) cuts ls h)))
      (λ f. rw f (by_test (list_all is_exact ls) (λ g. rw g h) (λ g. rw g tt)))))

  pub trimmed-in : ((l : Literal) → P l → P (cut front 3 l)) → (ss : Seq) → OneIn P ss → OneIn P (trimmed_by_preference ss)
  unfolding trimmed_by_preference
  trimmed-in cuts infinite h = tt
  trimmed-in cuts (finite ls) h = by_test (list_any is_empty ls) (λ e. rw e tt) (λ e. rw e (few-in cuts 64 (preferred [] ls) (preferred-one ls h)))

neither_before : (xs ys : List ℕ) → comes_before xs ys ≡ false → comes_before ys xs ≡ false → xs ≡ ys
neither_before [] [] a b = refl
neither_before [] (y ∷ ys) a b = absurd (true≢false a)
neither_before (x ∷ xs) [] a b = absurd (true≢false b)
neither_before (x ∷ xs) (y ∷ ys) a b =
    by_test (nat_lt x y)
    (λ e. absurd (true≢false (rw e at a)))
    (λ e.
    by_test (nat_lt y x)
    (λ f. absurd (true≢false (rw f at b)))
    (λ f.
    let same : x ≡ y = grind (arith, nat_tests) in
    let left : nat_eq x y ≡ true = grind (arith, nat_tests) in
    let right : nat_eq y x ≡ true = grind (arith, nat_tests) in
    let rest : xs ≡ ys = neither_before xs ys (rw (e, left) at a) (rw (f, right) at b) in
    λ k. same k ∷ rest k))

module _ (P : Literal → Type 0) (joins : (l m : Literal) → bytes_of l ≡ bytes_of m → P l ⊎ P m → P (one_of_both l m)) where
  insert-one : (l : Literal) (ms : List Literal) → P l ⊎ OneOf P ms → OneOf P (insert l ms)
  unfolding insert
  insert-one l [] h = h
  insert-one l (m ∷ ms) h =
      by_test (comes_before (bytes_of l) (bytes_of m))
      (λ e. rw e h)
      (λ e. rw e (by_test (comes_before (bytes_of m) (bytes_of l))
      (λ f. rw f (elim h [
        | inl now ↦ inr (insert-one l ms (inl now))
        | inr later ↦ elim later [ inl first ↦ inl first | inr more ↦ inr (insert-one l ms (inr more)) ]
      ]))
      (λ f.
      let same = neither_before (bytes_of l) (bytes_of m) e f in
      rw f (elim h [
        | inl now ↦ inl (joins l m same (inl now))
        | inr later ↦ elim later [ inl first ↦ inl (joins l m same (inr first)) | inr more ↦ inr more ]
      ]))))

  pub sorted-one : (ls : List Literal) → OneOf P ls → OneOf P (sorted ls)
  unfolding sorted
  sorted-one [] h = absurd h
  sorted-one (l ∷ ls) h = elim h [ inl now ↦ insert-one l (sorted ls) (inl now) | inr later ↦ insert-one l (sorted ls) (inr (sorted-one ls later)) ]

  pub sorted-in : (ss : Seq) → OneIn P ss → OneIn P (trimmed_for_all ss)
  sorted-in infinite h = tt
  sorted-in (finite ls) h = sorted-one ls h

module _ (text : List ℕ) (i j : ℕ) where
  pub with-shorter : (l e : Literal) → starts_with nat_eq (bytes_of l) (bytes_of e) ≡ true → BeginsWith text i j l → BeginsWith text i j e
  with-shorter l e h b =
      let rest = drop (length (bytes_of e)) (bytes_of l) in
      let goes : bytes_of l ≡ bytes_of e ++ rest = (starts_is Decides-eqb (bytes_of l) (bytes_of e) true (sym h)).0 refl in
      let after = drop (i + length (bytes_of l)) text in
      let long : length (bytes_of l) ≡ length (bytes_of e) + length rest = ap length goes ∙ length-append (bytes_of e) rest in
      let ends = b.1 in (
        stands_at_from text i (bytes_of e) (rest ++ after) (stands_at_parts text i (bytes_of l) b.0 ∙ ap (λ x. x ++ after) goes
            ∙ append_assoc (bytes_of e) rest after),
        omega arith,
      )

  with-cut : (l : Literal) → BeginsWith text i j l → BeginsWith text i j (cut front 3 l)
  unfolding cut
  with-cut l b =
      by_test (nat_lt 3 (length (bytes_of l)))
      (λ e.
      let lt : 3 < length (bytes_of l) = grind (arith, nat_tests) in
      let long : length (take 3 (bytes_of l)) ≡ 3 = length-take-le 3 (bytes_of l) (omega arith) in
      let ends = b.1 in
      rw e (stands-take text i 3 (bytes_of l) b.0, omega arith))
      (λ e. rw e b)

  pub trimmed-begins : (ss : Seq) → OneIn (BeginsWith text i j) ss → OneIn (BeginsWith text i j) (trimmed_by_preference ss)
  trimmed-begins ss h = trimmed-in (BeginsWith text i j) with-shorter with-cut ss h

  either-begins : (l m : Literal) → bytes_of l ≡ bytes_of m → Begins text i j l ⊎ Begins text i j m → Begins text i j (one_of_both l m)
  either-begins (exact s) (exact t) e h =
      elim h [ inl b ↦ subst (λ x. (stands_at text i x ≡ true) × (i + length x ≡ j)) e b | inr b ↦ b ]
  either-begins (exact s) (inexact t) e h =
      elim h [
        | inl b ↦ let c : (stands_at text i t ≡ true) × (i + length t ≡ j) =
            subst (λ x. (stands_at text i x ≡ true) × (i + length x ≡ j)) e b in let ends = c.1 in (c.0, omega arith)
        | inr b ↦ b
      ]
  either-begins (inexact s) (exact t) e h =
      elim h [
        | inl b ↦ b
        | inr b ↦ let c : (stands_at text i s ≡ true) × (i + length s ≡ j) =
            subst (λ x. (stands_at text i x ≡ true) × (i + length x ≡ j)) (sym e) b in let ends = c.1 in (c.0, omega arith)
      ]
  either-begins (inexact s) (inexact t) e h =
      elim h [ inl b ↦ b | inr b ↦ subst (λ x. (stands_at text i x ≡ true) × (i + length x ≤ j)) (sym e) b ]

  pub sorted-begins : (ss : Seq) → OneIn (Begins text i j) ss → OneIn (Begins text i j) (trimmed_for_all ss)
  sorted-begins ss h = sorted-in (Begins text i j) either-begins ss h

  pub begins-with : (ss : Seq) → OneIn (Begins text i j) ss → OneIn (BeginsWith text i j) ss
  begins-with infinite h = tt
  begins-with (finite ls) h = one-weaker ls h
    where
      one-weaker : (ls : List Literal) → OneOf (Begins text i j) ls → OneOf (BeginsWith text i j) ls
      one-weaker [] h = absurd h
      one-weaker (exact s ∷ ls) h = elim h [ inl b ↦ let ends = b.1 in inl (b.0, omega arith) | inr later ↦ inr (one-weaker ls later) ]
      one-weaker (inexact s ∷ ls) h = elim h [ inl b ↦ inl b | inr later ↦ inr (one-weaker ls later) ]
