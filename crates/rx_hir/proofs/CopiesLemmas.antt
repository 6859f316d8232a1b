-- Normal forms of literals, classes and copies mean what they stand for.
use Rattle.std.proofs.Common.{◌≡◌, ℕ, zero, suc, ◌+◌, ◌<◌, ◌≤◌, Bool, true, false, ◌==◌, List, [], ◌∷◌, ◌++◌, length, take, drop, min, max, slice_index, Option, Some, None, refl, sym, ap, ◌∙◌, subst, inl, inr, arith, true≢false}
use Rattle.std.specs.Prelude.{IfSome, nat_le, ◌&&◌, encode_utf8}
use Rattle.std.specs.Char.{IsScalar, len_utf8}
use Rattle.std.proofs.lemmas.Bool.{or_cases}
use Rattle.std.proofs.lemmas.Bool.Decides.{nat_tests}
use Rattle.std.proofs.lemmas.Str.{length-encode}
use Rattle.std.proofs.Math.Seq.{take-append_seam}
use Rattle.rx_model.specs.Text.{scalar_ranges, byte_ranges, is_member}
use Rattle.rx_model.specs.Expression.{Expression, empty, literal, class, repetition}
use Rattle.rx_model.specs.Meaning.{Pieces, IsCount, Means}
use Rattle.rx_model.proofs.lemmas.meaning.CharLemmas.{stands_at_parts, stands_at_from, member_len-is, member_len-of, byte_len-is, byte_len-of}
use Rattle.rx_model.proofs.lemmas.meaning.EmptyLemmas.{means-rises}
use Rattle.rx_model.proofs.lemmas.runs.RunLemmas.{by_test}
use Rattle.rx_class.specs.Ranges.{AreScalarRanges}
use Rattle.rx_hir.specs.Length.{maximum_len}
use Rattle.rx_hir.specs.Normal.{literal_of, class_of, is_zero, at_most_one, copies_of, repetition_of}
use Rattle.rx_hir.proofs.LookLemmas.{zero-len}
use Rattle.rx_hir.proofs.SpanLemmas.{means-short}
use Rattle.rx_hir.proofs.RowLemmas.{Same, same-itself, same-then, fail-means}

module _ (terminator : ℕ) (text : List ℕ) where
  abbrev M : Expression → ℕ → ℕ → Type 0
  M h i j = Means terminator text h i j

  -- Literals.

  pub literal-means : (bytes : List ℕ) → Same (M (literal_of bytes)) (M (literal bytes))
  unfolding Means
  literal-means [] = λ i j. (λ m. (stands_at_from text i [] (drop i text) refl, omega arith), λ m. (let ends = m.1 in omega arith))
  literal-means (b ∷ bytes) = λ i j. (λ m. m, λ m. m)

  -- Classes of one member.

  only-scalar : (r : ℕ × ℕ) (c : ℕ) → r.0 ≡ r.1 → is_member (r ∷ []) c ≡ true → c ≡ r.0
  only-scalar r c e is =
      elim (or_cases (nat_le r.0 c && nat_le c r.1) false is) [
        | inl here ↦ grind (arith, nat_tests)
        | inr none ↦ absurd (true≢false (sym none))
      ]

  is-only : (r : ℕ × ℕ) → r.0 ≡ r.1 → is_member (r ∷ []) r.0 ≡ true
  is-only r e = let here : (nat_le r.0 r.0 && nat_le r.0 r.1) ≡ true = grind (arith, nat_tests) in rw here refl

  one-scalar : (r : ℕ × ℕ) → IsScalar r.0 → r.0 ≡ r.1 → Same (M (literal (encode_utf8 r.0))) (M (class (scalar_ranges (r ∷ []))))
  unfolding Means
  one-scalar r scalar e i j = (
    λ m.
        let stands = stands_at_parts text i (encode_utf8 r.0) m.0 in
        let long = length-encode r.0 in
        let same : take (len_utf8 r.0) (drop i text) ≡ encode_utf8 r.0 =
        (λ k. take (sym long k) (stands k)) ∙ take-append_seam (encode_utf8 r.0) (drop (i + length (encode_utf8 r.0)) text) in
        let ends = m.1 in
        (len_utf8 r.0, member_len-of text (r ∷ []) i (len_utf8 r.0) (r.0, scalar, is-only r e, refl, same), omega arith),
    λ m.
        let is = member_len-is text (r ∷ []) i m.0 m.1 in
        let c : is.0 ≡ r.0 = only-scalar r is.0 e is.2 in
        let bytes : take m.0 (drop i text) ≡ encode_utf8 r.0 = is.4 ∙ ap encode_utf8 c in
        let long = length-encode r.0 in
        let count : m.0 ≡ len_utf8 r.0 = is.3 ∙ ap len_utf8 c in
        let ends = m.2 in
        let goes : drop i text ≡ encode_utf8 r.0 ++ drop m.0 (drop i text) =
        sym (take-drop m.0 (drop i text)) ∙ ap (λ bs. bs ++ drop m.0 (drop i text)) bytes in
        (stands_at_from text i (encode_utf8 r.0) (drop m.0 (drop i text)) goes, omega arith),
  )
    where
      take-drop : (n : ℕ) (xs : List ℕ) → take n xs ++ drop n xs ≡ xs
      take-drop zero xs = refl
      take-drop (suc n) [] = refl
      take-drop (suc n) (x ∷ xs) = ap (λ ys. x ∷ ys) (take-drop n xs)

  pub scalars-mean : (rs : List (ℕ × ℕ)) → AreScalarRanges rs → Same (M (class_of (scalar_ranges rs))) (M (class (scalar_ranges rs)))
  unfolding Means
  scalars-mean [] are = λ i j. (
    λ m. absurd (fail-means terminator text i j m),
    λ m. (let is = member_len-is text [] i m.0 m.1 in absurd (true≢false (sym is.2))),
  )
  scalars-mean (r ∷ []) are =
      let ends = are.1 0 r (omega arith) in
      by_test (r.0 == r.1)
      (λ one. let e : r.0 ≡ r.1 = grind (arith, nat_tests) in rw one (one-scalar r ends.0 e))
      (λ more. rw more (same-itself (M (class (scalar_ranges (r ∷ []))))))
  scalars-mean (r ∷ s ∷ rs) are = same-itself (M (class (scalar_ranges (r ∷ s ∷ rs))))

  first-byte : (i b : ℕ) (rest : List ℕ) (xs : List ℕ) → drop i xs ≡ b ∷ rest → (i < length xs) × (slice_index xs i ≡ b)
  first-byte zero b rest [] e = absurd (cc)
  first-byte (suc i) b rest [] e = absurd (cc)
  first-byte zero b rest (x ∷ xs) e = (omega arith, ap (λ ys. slice_index ys 0) e)
  first-byte (suc i) b rest (x ∷ xs) e = let later = first-byte i b rest xs e in (omega (arith, later.0), later.1)

  from-byte : (i : ℕ) (xs : List ℕ) → i < length xs → drop i xs ≡ slice_index xs i ∷ drop (suc i) xs
  from-byte i [] lt = absurd (omega arith)
  from-byte zero (x ∷ xs) lt = refl
  from-byte (suc i) (x ∷ xs) lt = from-byte i xs (omega arith)

  one-byte : (r : ℕ × ℕ) → r.0 ≡ r.1 → Same (M (literal (r.0 ∷ []))) (M (class (byte_ranges (r ∷ []))))
  unfolding Means
  one-byte r e i j = (
    λ m.
        let stands = first-byte i r.0 (drop (i + 1) text) text (stands_at_parts text i (r.0 ∷ []) m.0) in
        let member : is_member (r ∷ []) (slice_index text i) ≡ true = ap (is_member (r ∷ [])) stands.1 ∙ is-only r e in
        (1, byte_len-of text (r ∷ []) i 1 (refl, stands.0, member), m.1),
    λ m.
        let is = byte_len-is text (r ∷ []) i m.0 m.1 in
        let b : slice_index text i ≡ r.0 = only-scalar r (slice_index text i) e is.2 in
        let goes : drop i text ≡ r.0 ∷ drop (suc i) text = from-byte i text is.1 ∙ ap (λ x. x ∷ drop (suc i) text) b in
        let count = is.0 in
        let ends = m.2 in
        (stands_at_from text i (r.0 ∷ []) (drop (suc i) text) goes, omega arith),
  )

  pub bytes-mean : (rs : List (ℕ × ℕ)) → Same (M (class_of (byte_ranges rs))) (M (class (byte_ranges rs)))
  unfolding Means
  bytes-mean [] = same-itself (M (class (byte_ranges [])))
  bytes-mean (r ∷ []) =
      by_test (r.0 == r.1)
      (λ one. let e : r.0 ≡ r.1 = grind (arith, nat_tests) in rw one (one-byte r e))
      (λ more. rw more (same-itself (M (class (byte_ranges (r ∷ []))))))
  bytes-mean (r ∷ s ∷ rs) = same-itself (M (class (byte_ranges (r ∷ s ∷ rs))))

  -- Copies.

  no-copies : (greedy : Bool) (sub : Expression) → Same (M empty) (M (repetition 0 (Some 0) greedy sub))
  unfolding Means
  no-copies greedy sub i j = (
    λ m. (0, (omega arith, omega arith), m),
    λ m. let none = m.1.1 in nothing m.0 none m.2,
  )
    where
      nothing : (n : ℕ) → n ≤ 0 → Pieces (M sub) n i j → i ≡ j
      nothing zero le p = p
      nothing (suc n) le p = absurd (omega arith)

  one-copy : (greedy : Bool) (sub : Expression) → Same (M sub) (M (repetition 1 (Some 1) greedy sub))
  unfolding Means
  one-copy greedy sub i j = (
    λ m. (1, (omega arith, omega arith), (j, m, refl)),
    λ m. once m.0 m.1.0 m.1.1 m.2,
  )
    where
      once : (n : ℕ) → 1 ≤ n → n ≤ 1 → Pieces (M sub) n i j → M sub i j
      once zero le few p = absurd (omega arith)
      once (suc zero) le few p = subst (M sub i) p.2 p.1
      once (suc (suc n)) le few p = absurd (omega arith)

  copies-mean : (least : ℕ) (greatest : Option ℕ) (greedy : Bool) (sub : Expression)
      → Same (M (copies_of least greatest greedy sub)) (M (repetition least greatest greedy sub))
  unfolding Means
  copies-mean zero None greedy sub = same-itself (M (repetition zero None greedy sub))
  copies-mean zero (Some zero) greedy sub = no-copies greedy sub
  copies-mean zero (Some (suc n)) greedy sub = same-itself (M (repetition zero (Some (suc n)) greedy sub))
  copies-mean (suc zero) None greedy sub = same-itself (M (repetition (suc zero) None greedy sub))
  copies-mean (suc zero) (Some zero) greedy sub = same-itself (M (repetition (suc zero) (Some zero) greedy sub))
  copies-mean (suc zero) (Some (suc zero)) greedy sub = one-copy greedy sub
  copies-mean (suc zero) (Some (suc (suc n))) greedy sub = same-itself (M (repetition (suc zero) (Some (suc (suc n))) greedy sub))
  copies-mean (suc (suc least)) greatest greedy sub = same-itself (M (repetition (suc (suc least)) greatest greedy sub))

  -- copies of what means nothing but the empty text

  all-here : (R : ℕ → ℕ → Type 0) → ((a b : ℕ) → R a b → a ≡ b) → (n i j : ℕ) → Pieces R n i j → i ≡ j
  all-here R each zero i j p = p
  all-here R each (suc n) i j p = each i p.0 p.1 ∙ all-here R each n p.0 j p.2

  here-again : (R : ℕ → ℕ → Type 0) (i : ℕ) → R i i → (n : ℕ) → Pieces R n i i
  here-again R i r zero = refl
  here-again R i r (suc n) = (i, r, here-again R i r n)

  fewer : (R : ℕ → ℕ → Type 0) → ((a b : ℕ) → R a b → a ≡ b) → (n i j : ℕ) → Pieces R n i j → Pieces R (min n 1) i j
  fewer R each zero i j p = p
  fewer R each (suc n) i j p =
      let now = each i p.0 p.1 in
      let on = all-here R each n p.0 j p.2 in
      let one : min (suc n) 1 ≡ 1 = omega arith in
      subst (λ k. Pieces R k i j) (sym one) (p.0, p.1, on)

  more : (R : ℕ → ℕ → Type 0) → ((a b : ℕ) → R a b → a ≡ b) → (n m i j : ℕ) → n ≤ 1 → (n ≡ 0 → m ≡ 0) → Pieces R n i j → Pieces R m i j
  more R each zero m i j le none p = subst (λ k. Pieces R k i j) (sym (none refl)) p
  more R each (suc zero) m i j le none p =
      let here : i ≡ j = all-here R each 1 i j p in
      let r : R i i = subst (R i) (sym (each i p.0 p.1)) p.1 in
      subst (Pieces R m i) here (here-again R i r m)
  more R each (suc (suc n)) m i j le none p = absurd (omega arith)

  few-count : (least : ℕ) (greatest : Option ℕ) (n : ℕ) → IsCount least greatest n → IsCount (min least 1) (Some (at_most_one greatest)) (min n 1)
  few-count least None n c = let le = c.0 in (omega arith, omega arith)
  few-count least (Some m) n c = let le = c.0 in let up = c.1 in (omega arith, omega arith)

  -- as many copies as there have to be, of none or one
  abbrev enough : (n least : ℕ) → ℕ
  enough zero least = 0
  enough (suc n) least = max least 1

  enough-count : (least : ℕ) (greatest : Option ℕ) (n : ℕ) → IfSome greatest (λ m. least ≤ m) → IsCount (min least 1) (Some (at_most_one greatest)) n
      → IsCount least greatest (enough n least)
  enough-count least None zero ordered c = let le = c.0 in (omega arith, tt)
  enough-count least None (suc n) ordered c = (omega arith, tt)
  enough-count least (Some m) zero ordered c = let le = c.0 in (omega arith, omega arith)
  enough-count least (Some m) (suc n) ordered c = let le = c.0 in let up = c.1 in (omega arith, omega arith)

  enough-none : (n least : ℕ) → n ≡ 0 → enough n least ≡ 0
  enough-none zero least e = refl
  enough-none (suc n) least e = absurd (omega arith)

  empty-copies : (least : ℕ) (greatest : Option ℕ) (greedy : Bool) (sub : Expression) → IfSome greatest (λ m. least ≤ m) → maximum_len sub ≡ Some 0
      → Same (M (repetition (min least 1) (Some (at_most_one greatest)) greedy sub)) (M (repetition least greatest greedy sub))
  unfolding Means
  empty-copies least greatest greedy sub ordered short i j =
      let each : (a b : ℕ) → M sub a b → a ≡ b = λ a b m.
      let up = means-rises terminator text sub a b m in
      let down = means-short terminator text sub 0 short a b m in
      omega arith in (
        λ m.
            let one = at-most greatest m.0 m.1.1 in
            (enough m.0 least, enough-count least greatest m.0 ordered m.1, more (M sub) each m.0 (enough m.0 least) i j one (enough-none m.0 least) m.2),
        λ m. (min m.0 1, few-count least greatest m.0 m.1, fewer (M sub) each m.0 i j m.2),
      )
    where
      at-most : (g : Option ℕ) (n : ℕ) → n ≤ at_most_one g → n ≤ 1
      at-most None n le = le
      at-most (Some m) n le = omega arith

  pub repetition-means : (least : ℕ) (greatest : Option ℕ) (greedy : Bool) (sub : Expression) → IfSome greatest (λ m. least ≤ m)
      → Same (M (repetition_of least greatest greedy sub)) (M (repetition least greatest greedy sub))
  repetition-means least greatest greedy sub ordered =
      by_test (is_zero (maximum_len sub))
      (λ e. rw e (same-then (M (copies_of (min least 1) (Some (at_most_one greatest)) greedy sub))
      (M (repetition (min least 1) (Some (at_most_one greatest)) greedy sub)) (M (repetition least greatest greedy sub))
      (copies-mean (min least 1) (Some (at_most_one greatest)) greedy sub)
      (empty-copies least greatest greedy sub ordered (zero-len (maximum_len sub) e))))
      (λ e. rw e (copies-mean least greatest greedy sub))
