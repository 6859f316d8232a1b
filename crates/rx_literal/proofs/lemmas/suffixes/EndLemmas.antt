-- What an expression means ends with one of its suffixes, and with the longest that they have in common.
use Rattle.std.proofs.Common.{◌≡◌, ℕ, zero, suc, ◌+◌, ◌-◌, ◌≤◌, ◌<◌, min, true, ◌&&◌, List, [], ◌∷◌, ◌++◌, length, drop, reverse, Option, Some, None, refl, sym, ap, ◌∙◌, subst, inl, inr, arith, length-append, append_assoc, drop-drop}
use Rattle.std.specs.Prelude.{nat_lt, nat_le, nat_eq}
use Rattle.std.proofs.lemmas.Bool.{and_parts}
use Rattle.std.proofs.lemmas.Bool.Decides.{nat_tests}
use Rattle.std.proofs.lemmas.List.{length-drop, drop-append-le, reverse-append, reverse-reverse, append-nil, drop_at}
use Rattle.rx_model.specs.Text.{stands_at}
use Rattle.rx_model.specs.Expression.{Expression, Expressions, empty, literal, class, look, repetition, capture, concat, alternation, nil, cons}
use Rattle.rx_model.specs.Meaning.{Pieces, Means, MeansInTurn, MeansOne}
use Rattle.rx_model.proofs.lemmas.runs.RunLemmas.{by_test}
use Rattle.rx_model.proofs.lemmas.meaning.CharLemmas.{stands_at_parts, stands_at_from}
use Rattle.rx_model.proofs.lemmas.meaning.EmptyLemmas.{means-rises}
use Rattle.rx_literal.specs.Literals.{Literal, exact, inexact, Seq, infinite, finite, bytes_of, loose, cut, one_empty, loosened, extended, cross_on, cross_times}
use Rattle.rx_literal.specs.declared.side.Side.TheVariants.{Back as back}
use Rattle.rx_literal.specs.Extract.{literals, in_turn, of_one, copies}
use Rattle.rx_literal.specs.Trim.{common_prefix, common_from_behind, longest_common_suffix}
use Rattle.rx_literal.specs.Spans.{Ends, OneOf, OneIn}
use Rattle.rx_literal.proofs.lemmas.prefixes.OneLemmas.{union-left, union-right, loosened-in, cross_on-in}
use Rattle.rx_literal.proofs.lemmas.prefixes.PieceLemmas.{last-pieces, repeated-in}
use Rattle.rx_literal.proofs.lemmas.prefixes.BeginLemmas.{class-whole, stands-append, stands-none}
use Rattle.rx_model.proofs.lemmas.meaning.PieceLemmas.{last-piece}

module _ (text : List ℕ) where
  ends-loose : (i k j : ℕ) → i ≤ k → (l : Literal) → Ends text k j l → Ends text i j (loose l)
  ends-loose i k j le (exact s) b = (k, le, b.0, b.1)
  ends-loose i k j le (inexact s) b = let up = b.1 in (b.0, omega arith, b.2, b.3)

  -- what stands there but for its first n bytes stands n bytes later
  stands-drop : (i n : ℕ) (s : List ℕ) → n ≤ length s → stands_at text i s ≡ true → stands_at text (i + n) (drop n s) ≡ true
  stands-drop i n s le h =
      let rest = drop (i + length s) text in
      stands_at_from text (i + n) (drop n s) rest
      (sym (drop-drop n i text) ∙ ap (λ x. drop n x) (stands_at_parts text i s h) ∙ drop-append-le n s rest le)

  ends-cut : (n i j : ℕ) (l : Literal) → Ends text i j l → Ends text i j (cut back n l)
  unfolding cut
  ends-cut n i j (exact s) b =
      by_test (nat_lt n (length s))
      (λ e.
      let lt : n < length s = grind (arith, nat_tests) in
      let less : length s - n ≤ length s = omega arith in
      let long : length (drop (length s - n) s) ≡ length s - (length s - n) = length-drop (length s - n) s in
      let ends = b.1 in
      rw e (i + (length s - n), omega arith, stands-drop i (length s - n) s less b.0, omega arith))
      (λ e. rw e b)
  ends-cut n i j (inexact s) b =
      by_test (nat_lt n (length s))
      (λ e.
      let lt : n < length s = grind (arith, nat_tests) in
      let less : length s - n ≤ length s = omega arith in
      let long : length (drop (length s - n) s) ≡ length s - (length s - n) = length-drop (length s - n) s in
      let up = b.1 in
      let ends = b.3 in
      rw e (b.0 + (length s - n), omega arith, stands-drop b.0 (length s - n) s less b.2, omega arith))
      (λ e. rw e b)

  ends-extended : (i k j : ℕ) (s : List ℕ) (t : Literal) → Ends text k j (exact s) → Ends text i k t → Ends text i j (extended back s t)
  ends-extended i k j s (exact t) b c =
      let ends = b.1 in
      let met = c.1 in
      let long = length-append t s in
      (stands-append text i t s c.0 (subst (λ x. stands_at text x s ≡ true) (sym c.1) b.0), omega arith)
  ends-extended i k j s (inexact t) b c =
      let ends = b.1 in
      let met = c.3 in
      let long = length-append t s in
      (c.0, c.1, stands-append text c.0 t s c.2 (subst (λ x. stands_at text x s ≡ true) (sym c.3) b.0), omega arith)

  ends-cross_on : (i k j : ℕ) → i ≤ k → (ss ts : Seq) → OneIn (Ends text k j) ss → OneIn (Ends text i k) ts → OneIn (Ends text i j) (cross_on back ss ts)
  ends-cross_on i k j le ss ts r q =
      cross_on-in back (Ends text k j) (Ends text i k) (Ends text i j)
      (λ s t b c. ends-cut 100 i j (extended back s t) (ends-extended i k j s t b c))
      (λ l b. ends-loose i k j le l b) ss ts r q

  ends-empty : (i j : ℕ) → i ≡ j → OneIn (Ends text i j) one_empty
  ends-empty i j e = inl (stands-none text i, omega arith)

  module _ (R : ℕ → ℕ → Type 0) (rises : (a b : ℕ) → R a b → a ≤ b) (ts : Seq) (each : (a b : ℕ) → R a b → OneIn (Ends text a b) ts) where
    ends-times : (c i k j : ℕ) (ss : Seq) → OneIn (Ends text k j) ss → Pieces R c i k → OneIn (Ends text i j) (cross_times back c ss ts)
    ends-times zero i k j ss b p = subst (λ x. OneIn (Ends text x j) ss) (sym p) b
    ends-times (suc c) i k j ss b p =
        let x = last-piece R c i k p in
        ends-times c i x.0 j (cross_on back ss ts) (ends-cross_on x.0 k j (rises x.0 k x.2) ss ts b (each x.0 k x.2)) x.1

    ends-copies : (i j least most n : ℕ) → least ≤ n → n ≤ most → Pieces R n i j → OneIn (Ends text i j) (copies back least most ts)
    unfolding copies
    ends-copies i j least most n low high p =
        by_test (nat_eq least most && nat_le least 10)
        (λ e.
        let both = and_parts (nat_eq least most) (nat_le least 10) e in
        let is : n ≡ min least 10 = grind (arith, nat_tests) in
        rw e (ends-times (min least 10) i j j one_empty (ends-empty j j refl) (subst (λ m. Pieces R m i j) is p)))
        (λ e.
        let few : min least 10 ≤ n = omega arith in
        let x = last-pieces R rises (min least 10) n i j few p in
        rw e (loosened-in (Ends text x.0 j) (Ends text i j) (λ l b. ends-loose i x.0 j x.1 l b) (cross_times back (min least 10) one_empty ts)
        (ends-times (min least 10) x.0 j j one_empty (ends-empty j j refl) x.2)))

    -- the last piece's, loosened
    ends-last : (i j n : ℕ) → 1 ≤ n → Pieces R n i j → OneIn (Ends text i j) (loosened ts)
    ends-last i j n le p =
        let x = last-pieces R rises 1 n i j le p in
        let one : R x.0 j = subst (λ m. R x.0 m) x.2.2 x.2.1 in
        loosened-in (Ends text x.0 j) (Ends text i j) (λ l b. ends-loose i x.0 j x.1 l b) ts (each x.0 j one)

  module _ (terminator : ℕ) where
    mutual
      unfolding Means literals

      pub means-ends : (h : Expression) (i j : ℕ) → Means terminator text h i j → OneIn (Ends text i j) (literals back h)
      means-ends empty i j m = ends-empty i j m
      means-ends (literal bytes) i j m = inl (ends-cut 100 i j (exact bytes) m)
      means-ends (class members) i j m = class-whole text (Ends text i j) members i j m.0 (λ s stands ends. (stands, ends)) m.1 m.2
      means-ends (look kind) i j m = ends-empty i j m.1
      means-ends (repetition least most greedy sub) i j m =
          let R = Means terminator text sub in
          let ts = literals back sub in
          let rises : (a b : ℕ) → R a b → a ≤ b = λ a b piece. means-rises terminator text sub a b piece in
          let each : (a b : ℕ) → R a b → OneIn (Ends text a b) ts = λ a b piece. means-ends sub a b piece in
          repeated-in back (Ends text i j) R ts i j (ends-empty i j) (λ n le p. ends-last R rises ts each i j n le p)
          (λ piece. each i j piece) (λ low high n le ge p. ends-copies R rises ts each i j low high n le ge p) least most greedy m.0 m.1 m.2
      means-ends (capture group name sub) i j m = means-ends sub i j m
      means-ends (concat subs) i j m = in_turn-ends subs i j m
      means-ends (alternation subs) i j m = one-ends subs i j m

      in_turn-ends : (hs : Expressions) (i j : ℕ) → MeansInTurn terminator text hs i j → OneIn (Ends text i j) (in_turn back one_empty hs)
      in_turn-ends nil i j m = ends-empty i j m
      in_turn-ends (cons sub subs) i j m =
          ends-cross_on i m.0 j (means-rises terminator text sub i m.0 m.1) (in_turn back one_empty subs) (literals back sub) (in_turn-ends subs m.0 j m.2)
          (means-ends sub i m.0 m.1)

      one-ends : (hs : Expressions) (i j : ℕ) → MeansOne terminator text hs i j → OneIn (Ends text i j) (of_one back hs)
      one-ends nil i j m = absurd m
      one-ends (cons sub subs) i j m = elim m [
        | inl is ↦ union-left (Ends text i j) (literals back sub) (of_one back subs) (means-ends sub i j is)
        | inr is ↦ union-right (Ends text i j) (literals back sub) (of_one back subs) (one-ends subs i j is)
      ]

-- one text is the beginning of another
abbrev pub IsPart : List ℕ → List ℕ → Type 0
IsPart s t = (rest : List ℕ) × (t ≡ s ++ rest)

pub part-part : (r s t : List ℕ) → IsPart r s → IsPart s t → IsPart r t
part-part r s t a b = (a.0 ++ b.0, b.1 ∙ ap (λ x. x ++ b.0) a.1 ∙ append_assoc r a.0 b.0)

pub common-left : (xs ys : List ℕ) → IsPart (common_prefix xs ys) xs
common-left [] ys = ([], refl)
common-left (x ∷ xs) [] = (x ∷ xs, refl)
common-left (x ∷ xs) (y ∷ ys) =
    by_test (nat_eq x y)
    (λ e. let h = common-left xs ys in rw e (h.0, ap (λ z. x ∷ z) h.1))
    (λ e. rw e (x ∷ xs, refl))

pub common-right : (xs ys : List ℕ) → IsPart (common_prefix xs ys) ys
common-right [] ys = (ys, refl)
common-right (x ∷ xs) [] = ([], refl)
common-right (x ∷ xs) (y ∷ ys) =
    by_test (nat_eq x y)
    (λ e.
    let same : x ≡ y = grind (arith, nat_tests) in
    let h = common-right xs ys in
    rw e (h.0, λ k. sym same k ∷ h.1 k))
    (λ e. rw e (y ∷ ys, refl))

pub behind-part : (bytes : List ℕ) (ls : List Literal) → IsPart (common_from_behind bytes ls) bytes
behind-part bytes [] = ([], sym (append-nil bytes))
behind-part bytes (l ∷ ls) =
    let other = reverse (bytes_of l) in
    part-part (common_from_behind (common_prefix bytes other) ls) (common_prefix bytes other) bytes (behind-part (common_prefix bytes other) ls)
    (common-left bytes other)

pub none-some_list : (s : List ℕ) → ◌≡◌ {A = Option (List ℕ)} None (Some s) → ⊥
none-some_list s e = cc

pub some-same : (r s : List ℕ) → ◌≡◌ {A = Option (List ℕ)} (Some r) (Some s) → r ≡ s
some-same r s e = cc

module _ (text : List ℕ) (i j : ℕ) where
  -- what ends a literal ends what the literal ends
  part-stands : (s b : List ℕ) → IsPart s (reverse b) → (k : ℕ) → i ≤ k → stands_at text k b ≡ true → k + length b ≡ j → Ends text i j (inexact (reverse s))
  part-stands s b part k le stands ends =
      let u = reverse part.0 in
      let v = reverse s in
      let goes : b ≡ u ++ v = sym (reverse-reverse b) ∙ ap reverse part.1 ∙ reverse-append s part.0 in
      let long : length b ≡ length u + length v = ap length goes ∙ length-append u v in
      let later : stands_at text (k + length u) (drop (length u) (u ++ v)) ≡ true =
      stands-drop text k (length u) (u ++ v) (omega (arith, length-append u v)) (subst (λ x. stands_at text k x ≡ true) goes stands) in
      (k + length u, omega arith, subst (λ x. stands_at text (k + length u) x ≡ true) (drop_at u v (length u) refl) later, omega arith)

  ends-part : (s : List ℕ) (l : Literal) → IsPart s (reverse (bytes_of l)) → Ends text i j l → Ends text i j (inexact (reverse s))
  ends-part s (exact b) part e = part-stands s b part i (omega arith) e.0 e.1
  ends-part s (inexact b) part e = part-stands s b part e.0 e.1 e.2 e.3

  behind-ends : (bytes : List ℕ) (ls : List Literal) → OneOf (Ends text i j) ls → Ends text i j (inexact (reverse (common_from_behind bytes ls)))
  behind-ends bytes [] h = absurd h
  behind-ends bytes (l ∷ ls) h =
      let other = reverse (bytes_of l) in
      let both = common_prefix bytes other in
      elim h [
        | inl now ↦ ends-part (common_from_behind both ls) l (part-part (common_from_behind both ls) both other (behind-part both ls)
            (common-right bytes other)) now
        | inr later ↦ behind-ends both ls later
      ]

  pub common-ends : (ss : Seq) (s : List ℕ) → longest_common_suffix ss ≡ Some s → OneIn (Ends text i j) ss → Ends text i j (inexact s)
  common-ends infinite s e h = absurd (none-some_list s e)
  common-ends (finite []) s e h = absurd h
  common-ends (finite (l ∷ ls)) s e h =
      let is : reverse (common_from_behind (reverse (bytes_of l)) ls) ≡ s = some-same _ s e in
      subst (λ x. Ends text i j (inexact x)) is (elim h [
        | inl now ↦ ends-part (common_from_behind (reverse (bytes_of l)) ls) l (behind-part (reverse (bytes_of l)) ls) now
        | inr later ↦ behind-ends (reverse (bytes_of l)) ls later
      ])
